-- A message of the first group takes the same steps in worlds that agree.
use Rattle.std.proofs.Common.{◌≡◌, ◌∙◌, ℕ, Bool, true, false, List, [], ◌∷◌, Option, None, Some, refl, sym, ap}
use Rattle.std.specs.Prelude.{option_map}
use Rattle.std.specs.FinMap.{get}
use Rattle.cs_fids.specs.declared.entry.FidEntry.{FidEntry}
use Rattle.cs_fids.specs.declared.entry.FidEntry.TheVariants as entry
use Rattle.cs_registry.specs.Keys.{Key}
use Rattle.cs_session.specs.declared.message.AttachMessage.{AttachMessage}
use Rattle.cs_session.specs.declared.message.Message.{Message}
use Rattle.cs_session.specs.declared.message.Message.TheVariants as m
use Rattle.cs_session.specs.declared.message.TableStep.TheVariants as t
use Rattle.cs_session.specs.declared.reply.Reply.{Reply as Said}
use Rattle.cs_session.specs.Messages.{IfElse, clunk_or, close_or, find_or, goes_on, next_step}
use Rattle.cs_session.specs.Sessions.{Awaited, SessionState}
use Rattle.cs_session.specs.Steps.{Step as SessionStep}
use Rattle.cs_world.specs.Groups.{NoneMeetsLimit}
use Rattle.cs_world.specs.Lists.{AreOwnSteps, step_on, steps_on}
use Rattle.cs_world.specs.Marks.{WorldMark}
use Rattle.cs_world.specs.Places.{awaited_with_places, entry_with_places, with_places}
use Rattle.cs_world.specs.Steps.{step_of}
use Rattle.cs_world.specs.Worlds.{World, session_at}
use Rattle.cs_world.proofs.Apart.{Agree}
use Rattle.cs_world.proofs.ApartLists.{AllOwned, step_both}
use Rattle.cs_world.proofs.Moved.{get_moved, least_moved}

-- ---- the next step doesn't depend on places

module _ (f : ℕ → ℕ) where
  find_same : (o : Option Awaited) (x : AttachMessage) → find_or (option_map (awaited_with_places f) o) x ≡ find_or o x
  find_same None x = refl
  find_same (Some p) x = refl

  clunk_same : (fid : ℕ) (o : Option FidEntry) → clunk_or fid (option_map (entry_with_places f) o) ≡ clunk_or fid o
  clunk_same fid None = refl
  clunk_same fid (Some (entry.Walked x)) = refl
  clunk_same fid (Some (entry.Opened x)) = refl

  next_same : (message : Message) (s : SessionState) → next_step message (with_places f s) ≡ next_step message s
  next_same (m.Version msize version) s = ap (λ (o : Option ℕ). close_or o (t.Version msize version)) (least_moved f s.fids)
  next_same (m.Attach x) s = find_same s.awaited x
  next_same (m.Call x) s = refl
  next_same (m.Clunk fid) s = ap (clunk_or fid) (get_moved f s.fids fid) ∙ clunk_same fid (get s.fids fid)
  next_same m.HangUp s = ap (λ (o : Option ℕ). close_or o t.HangUp) (least_moved f s.fids)

-- ---- the steps of a message

either_map : (A A' B : Type 0) (b : Bool) → IfElse b A B → (A → A') → IfElse b A' B
either_map A A' B true x go = go x
either_map A A' B false x go = x

module _ (mine : ℕ → Bool) (ours : Key → Bool) (message : Message) (conn now : ℕ) (is : mine conn ≡ true) where
  pub own_from : (f : ℕ → ℕ) (w v : World) (own : List (SessionStep × WorldMark)) (reply : Said) → Agree mine ours f w v
      → AllOwned mine ours (steps_on conn now own) → NoneMeetsLimit w (steps_on conn now own) → AreOwnSteps message conn now w own reply
      → AreOwnSteps message conn now v own reply
  own_from f w v [] reply a owned few steps = steps
  own_from f w v (one ∷ rest) reply a owned few (next, (said, is_said, more)) =
      let both = step_both mine ours f w v a (step_on conn now one.0) one.1 is owned.0 few.0 in
      let w' : World = (step_of w (step_on conn now one.0) one.1).1 in
      let v' : World = (step_of v (step_on conn now one.0) one.1).1 in (
        next ∙ ap (next_step message) (a.own conn is) ∙ next_same f message (session_at v conn),
        (
          said,
          sym both.said ∙ is_said,
          either_map (AreOwnSteps message conn now w' rest reply) (AreOwnSteps message conn now v' rest reply)
              ((rest ≡ []) × (reply ≡ said)) (goes_on message one.0 said) more
              (λ deeper. own_from both.to w' v' rest reply both.agree owned.1 few.1 deeper),
        ),
      )
