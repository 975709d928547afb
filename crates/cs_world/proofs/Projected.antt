-- What reaches a run if no reply says out of memory is what reaches it if memory refuses nothing.
use Rattle.std.proofs.Common.{◌≡◌, ◌∙◌, ℕ, Bool, true, false, cond, List, [], ◌∷◌, ◌++◌, append_assoc, length, Option, None, Some, refl}
use Rattle.std.proofs.Common.{sym, ap, inl, inr}
use Rattle.std.specs.Prelude.{nat_lt}
use Rattle.std.specs.Option.{option_map_or}
use Rattle.std.proofs.lemmas.List.{length-replicate, map-append}
use Rattle.cs_journal.specs.Marks.{Ample}
use Rattle.cs_names.specs.declared.limits.TheConstants.{CONNECTIONS}
use Rattle.cs_names.specs.declared.rule_id.RuleId.TheVariants.{S5}
use Rattle.cs_registry.specs.Keys.{Key}
use Rattle.cs_session.specs.declared.reply.Reply.TheVariants.{Error}
use Rattle.cs_session.specs.Questions.{Question, FindRun, AttachTo, CallOn}
use Rattle.cs_plan.specs.Scenes.{Scene}
use Rattle.cs_session.specs.Sessions.{empty_session}
use Rattle.cs_session.specs.Steps.{FirstMove, first_move_by}
use Rattle.cs_session.specs.Steps as c
use Rattle.cs_world.specs.declared.run_call.RunCall.{RunCall}
use Rattle.cs_users.specs.Rows.{Row}
use Rattle.cs_world.specs.declared.projecting.WatchedWorld.{WatchedWorld}
use Rattle.cs_world.specs.declared.reply.Reply.{Reply}
use Rattle.cs_world.specs.declared.reply.Reply.TheVariants.{Connection}
use Rattle.cs_world.specs.declared.step.Step.{Step}
use Rattle.cs_world.specs.declared.step.Step.TheVariants as t
use Rattle.cs_world.specs.Ample.{all_ample, nothing_refused, says_out_of_memory}
use Rattle.cs_world.specs.ConnectionSteps.{session_step}
use Rattle.cs_world.specs.Marks.{WorldMark, RunMark, InRun, run_mark_of, refuses_own}
use Rattle.cs_world.specs.Projections.{calls_of, projection_of, put_to, puts_of, is_at}
use Rattle.cs_world.specs.Questions.{question_of_move, question_of_step}
use Rattle.cs_world.specs.Steps.{from_front, step_of}
use Rattle.cs_world.specs.Noting.{IsStart, NotesStep, world_in}
use Rattle.cs_world.specs.Worlds.{World, session_at, new_world}
use Rattle.cs_world.proofs.AmpleSteps.{front_alike, same_ample}

call_if : (b : Bool) (x y : RunCall × RunMark) → x.0 ≡ y.0 → calls_of (cond b (x ∷ []) []) ≡ calls_of (cond b (y ∷ []) [])
call_if true x y same = ap (λ (h : RunCall). h ∷ []) same
call_if false x y same = refl

module _ (w : World) (key : Key) where
  abbrev pub puts : RunMark → Question → List (RunCall × RunMark)
  puts mark question = put_to w.registry key question mark

  puts_alike : (q : Question) (mark other : RunMark) → calls_of (puts mark q) ≡ calls_of (puts other q)
  puts_alike (FindRun state_name run_name) mark other = refl
  puts_alike (AttachTo now place call) mark other = call_if (is_at w.registry key place) _ _ refl
  puts_alike (CallOn now place pass call) mark other = call_if (is_at w.registry key place) _ _ refl

  asked_calls : (asked : Option Question) (mark other : RunMark)
      → calls_of (option_map_or (puts mark) asked []) ≡ calls_of (option_map_or (puts other) asked [])
  asked_calls None mark other = refl
  asked_calls (Some q) mark other = puts_alike q mark other

  on_calls : (conn now : ℕ) (x : c.Step) (mark : WorldMark) (b : Bool)
      → says_out_of_memory
      (cond {A = Reply × World} b (from_front w conn x (run_mark_of mark) (first_move_by now (session_at w conn) x (refuses_own mark)))
      (Connection (Error S5), w)).0 ≡ false
      → calls_of
      (option_map_or (puts (run_mark_of mark))
      (cond b (question_of_move (first_move_by now (session_at w conn) x (refuses_own mark))) None) [])
      ≡ calls_of (option_map_or (puts (InRun Ample)) (cond b (question_of_move (first_move_by now (session_at w conn) x false)) None) [])
  on_calls conn now x mark false told = refl
  on_calls conn now x mark true told = elim (front_alike now (session_at w conn) x (refuses_own mark)) [
    | inl short ↦ absurd
        (let move = first_move_by now (session_at w conn) x (refuses_own mark) in
        let said : says_out_of_memory (from_front w conn x (run_mark_of mark) move).0 ≡ true =
        ap (λ (f : FirstMove). says_out_of_memory (from_front w conn x (run_mark_of mark) f).0) short in cc)
    | inr same ↦ ap (λ (f : FirstMove). calls_of (option_map_or (puts (run_mark_of mark)) (question_of_move f) [])) same ∙ asked_calls
        (question_of_move (first_move_by now (session_at w conn) x false)) (run_mark_of mark) (InRun Ample)
  ]

  step_calls : (x : Step) (mark : WorldMark) → says_out_of_memory (step_of w x mark).0 ≡ false
      → calls_of (puts_of w key mark (question_of_step w x mark))
      ≡ calls_of (puts_of w key nothing_refused (question_of_step w x nothing_refused))
  step_calls (t.Publish number) mark told = refl
  step_calls (t.Reload users) mark told = refl
  step_calls (t.On conn now x) mark told = on_calls conn now (session_step x) mark (nat_lt conn CONNECTIONS) told

  -- one step more
  pub more : (x : Step) (xs : List Step) (mark : WorldMark) → says_out_of_memory (step_of w x mark).0 ≡ false
      → calls_of (puts_of w key mark (question_of_step w x mark)) ++ calls_of (projection_of (step_of w x mark).1 (all_ample xs) key)
      ≡ calls_of (projection_of w (all_ample (x ∷ xs)) key)
  more x xs mark told =
      (λ i. step_calls x mark told i ++ calls_of (projection_of (same_ample w x mark told i).1 (all_ample xs) key))
      ∙ sym (map-append (λ (y : RunCall × RunMark). y.0) (puts_of w key nothing_refused (question_of_step w x nothing_refused))
      (projection_of (step_of w x nothing_refused).1 (all_ample xs) key))

-- ---- what is noted

-- at the start
pub start_noted : (scene : Scene) (users : List Row) (key : Key) (w : WatchedWorld) → IsStart scene users key w
    → (k : Key) (items steps : List Step) → items ≡ steps
    → w.watched.calls.items ++ calls_of (projection_of (world_in w) (all_ample items) k)
    ≡ calls_of (projection_of (new_world scene users) (all_ample steps) k)
start_noted scene users key w start k items steps same =
    λ i. start.nothing i ++ calls_of (projection_of (start.world i) (all_ample (same i)) k)

pub start_all : (scene : Scene) (users : List Row) (key : Key) (w : WatchedWorld) → IsStart scene users key w
    → length w.sessions.items ≡ CONNECTIONS
start_all scene users key w start = ap (λ (x : World). length x.connections) start.world ∙ length-replicate CONNECTIONS (empty_session None)

-- and after a step more, whose reply doesn't say out of memory
pub more_noted : (old new : WatchedWorld) (x : Step) (reply : Reply) → NotesStep old x reply new
    → says_out_of_memory reply ≡ false → (k : Key) → old.watched.key ≡ k → (items xs : List Step) → items ≡ x ∷ xs → (all : List RunCall)
    → (old.watched.is_short ≡ false → old.watched.calls.items ++ calls_of (projection_of (world_in old) (all_ample items) k) ≡ all)
    → new.watched.is_short ≡ false → new.watched.calls.items ++ calls_of (projection_of (world_in new) (all_ample xs) k) ≡ all
more_noted old new x reply n told k key_is items xs items_is all was ample_now =
    let mark : WorldMark = n.mark in
    let one = n.noted ample_now in
    let told_there : says_out_of_memory (step_of (world_in old) x mark).0 ≡ false =
    ap (λ (y : Reply × World). says_out_of_memory y.0) (sym n.steps) ∙ told in
    let before : List RunCall = old.watched.calls.items in
    (λ i. one.1 i ++ calls_of (projection_of (n.steps i).1 (all_ample xs) k))
    ∙ append_assoc before _ _
    ∙ (λ i. before
    ++ (calls_of (puts_of (world_in old) (key_is i) mark (question_of_step (world_in old) x mark))
    ++ calls_of (projection_of (step_of (world_in old) x mark).1 (all_ample xs) k)))
    ∙ ap (λ (l : List RunCall). before ++ l) (more (world_in old) k x xs mark told_there)
    ∙ ap (λ (l : List Step). before ++ calls_of (projection_of (world_in old) (all_ample l) k)) (sym items_is)
    ∙ was one.0
