-- If all places of a connection are in a set, so are those of what it leaves and asks.
use Rattle.std.proofs.Common.{◌≡◌, ◌∙◌, ℕ, suc, Bool, true, false, cond, Option, None, Some, refl, sym, ap, arith}
use Rattle.std.specs.Option.{option_map}
use Rattle.std.specs.Cmp.{nat_cmp_total}
use Rattle.std.specs.FinMap.{get, same_map, nat_cmp-IsAntisymmetric}
use Rattle.cs_fids.specs.declared.entry.FidEntry.{FidEntry}
use Rattle.cs_fids.specs.declared.entry.FidEntry.TheVariants as entry
use Rattle.cs_fids.specs.Entries.{run_of}
use Rattle.cs_session.specs.declared.reply.Reply.{Reply}
use Rattle.cs_session.specs.Questions.{Question, PortAnswer}
use Rattle.cs_session.specs.Sessions.{Awaited, SessionState}
use Rattle.cs_session.specs.Steps.{Done, Asks, Step, reply_and_session, first_move_by}
use Rattle.cs_world.specs.Places.{awaited_with_places, entry_with_places, fids_with_places, with_places}
use Rattle.cs_world.proofs.Moved.{get_moved, moved_front, moved_question, moved_told}
use Rattle.cs_world.proofs.MovedSteps.{front_moved, after_moved}

-- the run of each fid, and the one that awaits an attach, are in the set
pub record Within (b : ℕ → Bool) (s : SessionState) : Type 0 where
  pub fids : (fid : ℕ) (e : FidEntry) → get s.fids fid ≡ Some e → b (run_of e) ≡ true
  pub awaits : (p : Awaited) → s.awaited ≡ Some p → b p.run ≡ true

module _ (b : ℕ → Bool) where
  module _ (f g : ℕ → ℕ) (same : (p : ℕ) → b p ≡ true → f p ≡ g p) where
    entry_alike : (e : FidEntry) → b (run_of e) ≡ true → entry_with_places f e ≡ entry_with_places g e
    entry_alike (entry.Walked x) is = λ i. entry.Walked (record x { run = same x.run is i })
    entry_alike (entry.Opened x) is = λ i. entry.Opened (record x { run = same x.run is i })

    get_alike : (o : Option FidEntry) → ((e : FidEntry) → o ≡ Some e → b (run_of e) ≡ true)
        → option_map (entry_with_places f) o ≡ option_map (entry_with_places g) o
    get_alike None is = refl
    get_alike (Some e) is = ap Some (entry_alike e (is e refl))

    awaits_alike : (o : Option Awaited) → ((p : Awaited) → o ≡ Some p → b p.run ≡ true)
        → option_map (awaited_with_places f) o ≡ option_map (awaited_with_places g) o
    awaits_alike None is = refl
    awaits_alike (Some p) is = λ i. Some (record p { run = same p.run (is p refl) i })

    -- what moves these places alike moves the connection alike
    pub moved_alike : (s : SessionState) → Within b s → with_places f s ≡ with_places g s
    moved_alike s in_b =
        let table : fids_with_places f s.fids ≡ fids_with_places g s.fids =
        same_map nat_cmp_total nat_cmp-IsAntisymmetric _ _
        (λ k. get_moved f s.fids k ∙ get_alike (get s.fids k) (λ e is. in_b.fids k e is) ∙ sym (get_moved g s.fids k)) in
        λ i. record { msize = s.msize; awaited = awaits_alike s.awaited in_b.awaits i; fids = table i }

  -- a place outside is moved
  abbrev pub out : ℕ → ℕ
  out p = cond (b p) p (suc p)

  out_by : (p : ℕ) (c : Bool) → b p ≡ c → cond c p (suc p) ≡ p → b p ≡ true
  out_by p true is e = is
  out_by p false is e = absurd (omega (arith, e))

  pub still_out : (p : ℕ) → b p ≡ true → out p ≡ p
  still_out p is = rw is refl

  pub within_out : (p : ℕ) → out p ≡ p → b p ≡ true
  within_out p e = out_by p (b p) refl e

  same_entry : (e : FidEntry) → entry_with_places (λ p. p) e ≡ e
  same_entry (entry.Walked x) = refl
  same_entry (entry.Opened x) = refl

  same_get : (o : Option FidEntry) → option_map (entry_with_places (λ p. p)) o ≡ o
  same_get None = refl
  same_get (Some e) = ap Some (same_entry e)

  same_awaits : (o : Option Awaited) → option_map (awaited_with_places (λ p. p)) o ≡ o
  same_awaits None = refl
  same_awaits (Some p) = refl

  moved_same : (s : SessionState) → with_places (λ p. p) s ≡ s
  moved_same s =
      let table : fids_with_places (λ p. p) s.fids ≡ s.fids =
      same_map nat_cmp_total nat_cmp-IsAntisymmetric _ _ (λ k. get_moved (λ p. p) s.fids k ∙ same_get (get s.fids k)) in
      λ i. record { msize = s.msize; awaited = same_awaits s.awaited i; fids = table i }

  fixed : (s : SessionState) → Within b s → with_places out s ≡ s
  fixed s in_b = moved_alike out (λ p. p) still_out s in_b ∙ moved_same s

  run_moved : (e : FidEntry) → run_of (entry_with_places out e) ≡ out (run_of e)
  run_moved (entry.Walked x) = refl
  run_moved (entry.Opened x) = refl

  entry_within : (e : FidEntry) → entry_with_places out e ≡ e → b (run_of e) ≡ true
  entry_within e same = within_out (run_of e) (sym (run_moved e) ∙ ap run_of same)

  some_is : {A : Type 0} (x y : A) → Some x ≡ Some y → x ≡ y
  some_is x y e = cc

  within : (s : SessionState) → s ≡ with_places out s → Within b s
  within s same = record {
    fids = λ fid e is.
        let there : option_map (entry_with_places out) (Some e) ≡ Some e =
        ap (option_map (entry_with_places out)) (sym is) ∙ sym (get_moved out s.fids fid) ∙ ap (λ (x : SessionState). get x.fids fid)
        (sym same) ∙ is in
        entry_within e (some_is (entry_with_places out e) e there);
    awaits = λ p is.
        let there : option_map (awaited_with_places out) (Some p) ≡ Some p =
        ap (option_map (awaited_with_places out)) (sym is) ∙ ap (λ (x : SessionState). x.awaited) (sym same) ∙ is in
        within_out p.run (ap (λ (x : Awaited). x.run) (some_is (awaited_with_places out p) p there));
  }

  module _ (now : ℕ) (s : SessionState) (x : Step) (refused : Bool) (in_b : Within b s) where
    front_fixed : first_move_by now s x refused ≡ moved_front out (first_move_by now s x refused)
    front_fixed = ap (λ (y : SessionState). first_move_by now y x refused) (sym (fixed s in_b)) ∙ front_moved out now s x refused

    -- what it leaves if it answers by itself is in the set
    pub done_within : (reply : Reply) (s' : SessionState) → first_move_by now s x refused ≡ Done reply s' → Within b s'
    done_within reply s' is =
        within s' (let e : Done reply s' ≡ Done reply (with_places out s') = sym is ∙ front_fixed ∙ ap (moved_front out) is in cc)

    -- so does the run that it asks
    pub asks_fixed : (q : Question) → first_move_by now s x refused ≡ Asks q → q ≡ moved_question out q
    asks_fixed q is = let e : Asks q ≡ Asks (moved_question out q) = sym is ∙ front_fixed ∙ ap (moved_front out) is in cc

  -- and what it leaves, if what it is answered is
  pub after_within : (s : SessionState) (x : Step) (told : PortAnswer) → Within b s → told ≡ moved_told out told
      → Within b (reply_and_session s x told).1
  after_within s x told in_b same = within (reply_and_session s x told).1
      (ap (λ (y : SessionState). (reply_and_session y x told).1) (sym (fixed s in_b)) ∙ ap
      (λ (y : PortAnswer). (reply_and_session (with_places out s) x y).1) same ∙ ap (λ (y : Reply × SessionState). y.1)
      (after_moved out s x told))

pub more_within : (b c : ℕ → Bool) → ((p : ℕ) → b p ≡ true → c p ≡ true) → (s : SessionState) → Within b s → Within c s
more_within b c more s in_b = record {
  fids = λ fid e is. more (run_of e) (in_b.fids fid e is);
  awaits = λ p is. more p.run (in_b.awaits p is);
}
