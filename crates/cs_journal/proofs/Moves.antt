-- What a call does to the opens of its pass, and to those of the others.
use Rattle.std.proofs.Common.{◌≡◌, ◌≢◌, ◌∙◌, ℕ, zero, suc, ◌+◌, ◌<◌, ◌≤◌, Bool, true, false, cond, List, [], ◌∷◌, ◌++◌, length}
use Rattle.std.proofs.Common.{length-append, Option, Some, None, get_or, refl, sym, ap, arith}
use Rattle.std.proofs.lemmas.Bool.{ne_eqb, eq-eqb}
use Rattle.std.proofs.lemmas.Bool.Decides.{nat_tests}
use Rattle.std.proofs.lemmas.List.Quantifiers.{position-Some}
use Rattle.std.proofs.lemmas.Option.{slice_get-get_or}
use Rattle.std.specs.List.{position}
use Rattle.std.specs.Option.{option_map_or}
use Rattle.std.specs.Prelude.{if◌then◌else◌, is_some, option_and_then, remove, slice_get}
use Rattle.cs_permit.specs.Calls.{RulesView}
use Rattle.cs_permit.specs.declared.call.Call.{Call}
use Rattle.cs_permit.specs.declared.call.Call.TheVariants.{Attach, Walk, Open, Create, Read, Write, Close, Remove, Stat, Wstat}
use Rattle.cs_permit.specs.declared.call.OpenFile.{OpenFile}
use Rattle.cs_run.proofs.OpenLaws.{as_left, one_more}
use Rattle.cs_run.specs.Effects.{effect_of}
use Rattle.cs_run.specs.Laws.{opens_one}
use Rattle.cs_run.specs.Opens.{is_open, open_numbered, opens_without_if}
use Rattle.cs_run.specs.Outcomes.{result_by_outcome, closed_open_number}
use Rattle.cs_run.specs.declared.answer.Outcome.{Outcome}
use Rattle.cs_run.specs.declared.answer.Outcome.TheVariants as out
use Rattle.cs_run.specs.declared.turn.Turn.{Turn}
use Rattle.cs_journal.proofs.Journals.{filter-push}
use Rattle.cs_journal.specs.Calls.{charge, open_that_ends}
use Rattle.cs_journal.specs.Runs.{is_under, opens_under}

-- the new opens and one entry fit into the room of the old ones and so many more; the pass's opens change as all do, other passes' stay
pub record Moves (old new : List OpenFile) (pass more : ℕ) : Type 0 where
  pub room : length new + 1 ≤ length old + more
  pub own_room : length (opens_under pass new) + 1 ≤ length (opens_under pass old) + more
  pub own : length (opens_under pass new) + length old ≡ length (opens_under pass old) + length new
  pub others : (q : ℕ) → q ≢ pass → length (opens_under q new) ≡ length (opens_under q old)

more_room : (old new : List OpenFile) (pass less more : ℕ) → less ≤ more → Moves old new pass less → Moves old new pass more
more_room old new pass less more le m = record {
  room = omega (arith, m.room);
  own_room = omega (arith, m.own_room);
  own = m.own;
  others = m.others;
}

none_moves : (opens : List OpenFile) (pass : ℕ) → Moves opens opens pass 1
none_moves opens pass = record { room = omega arith; own_room = omega arith; own = refl; others = λ q differs. refl }

-- one open more
pushed_moves : (opens : List OpenFile) (o : OpenFile) (pass : ℕ) → o.pass ≡ pass → Moves opens (opens ++ o ∷ []) pass 2
pushed_moves opens o pass own =
    let its : is_under pass o ≡ true = eq-eqb o.pass pass own in
    let one : length (opens_under pass (opens ++ o ∷ [])) ≡ length (opens_under pass opens) + 1 =
    filter-push (is_under pass) opens o ∙ ap (λ b. length (opens_under pass opens) + cond b 1 0) its in
    record {
      room = omega (arith, length-append opens (o ∷ []));
      own_room = omega (arith, one);
      own = omega (arith, one, length-append opens (o ∷ []));
      others = λ q differs. filter-push (is_under q) opens o ∙ ap (λ b. length (opens_under q opens) + cond b 1 0)
          (ne_eqb o.pass q (λ same. differs (sym same ∙ own))) ∙ omega arith;
    }

-- one open less
under_cons : (q : ℕ) (o : OpenFile) (opens : List OpenFile)
    → length (opens_under q (o ∷ opens)) ≡ cond (is_under q o) 1 0 + length (opens_under q opens)
under_cons q o opens =
    elim (is_under q o) as
    (λ b. length (cond b (o ∷ opens_under q opens) (opens_under q opens)) ≡ cond b 1 0 + length (opens_under q opens))
    [ true ↦ omega arith | false ↦ omega arith ]

pub under_few : (q : ℕ) (opens : List OpenFile) → length (opens_under q opens) ≤ length opens
under_few q [] = omega arith
under_few q (o ∷ opens) = let rest = under_few q opens in
    rw (under_cons q o opens)
    (elim (is_under q o) as (λ b. cond b 1 0 + length (opens_under q opens) ≤ suc (length opens))
    [ true ↦ omega (arith, rest) | false ↦ omega (arith, rest) ])

length_removed : (opens : List OpenFile) (i : ℕ) → i < length opens → length (remove opens i) + 1 ≡ length opens
length_removed [] i within = absurd (omega arith)
length_removed (o ∷ opens) zero within = omega arith
length_removed (o ∷ opens) (suc i) within =
    let rest : length (remove opens i) + 1 ≡ length opens = length_removed opens i (omega arith) in
    omega (arith, rest)

under_removed : (q : ℕ) (opens : List OpenFile) (i : ℕ) (d : OpenFile) → i < length opens
    → length (opens_under q (remove opens i)) + cond (is_under q (get_or opens i d)) 1 0 ≡ length (opens_under q opens)
under_removed q [] i d within = absurd (omega arith)
under_removed q (o ∷ opens) zero d within = rw (under_cons q o opens) (omega arith)
under_removed q (o ∷ opens) (suc i) d within =
    let rest : length (opens_under q (remove opens i)) + cond (is_under q (get_or opens i d)) 1 0 ≡ length (opens_under q opens) =
    under_removed q opens i d (omega arith) in
    rw (under_cons q o opens, under_cons q o (remove opens i)) (omega (arith, rest))

removed_moves : (opens : List OpenFile) (i pass : ℕ) (d : OpenFile) → i < length opens → (get_or opens i d).pass ≡ pass
    → Moves opens (remove opens i) pass 0
removed_moves opens i pass d within own =
    let o = get_or opens i d in
    let its : is_under pass o ≡ true = eq-eqb o.pass pass own in
    let less : length (remove opens i) + 1 ≡ length opens = length_removed opens i within in
    let one : length (opens_under pass (remove opens i)) + 1 ≡ length (opens_under pass opens) =
    ap (λ b. length (opens_under pass (remove opens i)) + cond b 1 0) (sym its) ∙ under_removed pass opens i d within in
    record {
      room = omega (arith, less);
      own_room = omega (arith, one);
      own = omega (arith, one, less);
      others = λ q differs.
          let not_its : is_under q o ≡ false = ne_eqb o.pass q (λ same. differs (sym same ∙ own)) in
          let same : length (opens_under q (remove opens i)) + 0 ≡ length (opens_under q opens) =
          ap (λ b. length (opens_under q (remove opens i)) + cond b 1 0) (sym not_its) ∙ under_removed q opens i d within in
          omega (arith, same);
    }

nothing : OpenFile
nothing = record { number = 0; file = 0; mode = 0; pass = 0 }

its_pass : (number pass : ℕ) (o : OpenFile) → is_open number pass o ≡ true → o.pass ≡ pass
its_pass number pass o is = grind (arith, nat_tests)

-- a call that ends an open that is there takes no room for its entry
released_moves : (number pass : ℕ) (opens : List OpenFile) (place : Option ℕ) → position (is_open number pass) opens ≡ place
    → Moves opens (option_map_or (remove opens) place opens) pass (if is_some (option_and_then (slice_get opens) place) then 0 else 1)
released_moves number pass opens None is = none_moves opens pass
released_moves number pass opens (Some i) is =
    let at = position-Some (is_open number pass) opens i nothing is in
    let there : slice_get opens i ≡ Some (get_or opens i nothing) = slice_get-get_or opens i nothing at.0 in
    rw there (removed_moves opens i pass nothing at.0 (its_pass number pass (get_or opens i nothing) at.1))

released_if_moves : (closed : Option ℕ) (pass : ℕ) (opens : List OpenFile)
    → Moves opens (opens_without_if closed pass opens) pass
    (if is_some (option_and_then (λ number. open_numbered number pass opens) closed) then 0 else 1)
released_if_moves None pass opens = none_moves opens pass
released_if_moves (Some number) pass opens = released_moves number pass opens (position (is_open number pass) opens) refl

-- an open or a create ends no open
ends_none : (call : Call) → opens_one call ≡ true → closed_open_number call ≡ None
ends_none (Open c) is = refl
ends_none (Create c) is = refl
ends_none (Attach c) is = absurd cc
ends_none (Walk c) is = absurd cc
ends_none (Read c) is = absurd cc
ends_none (Write c) is = absurd cc
ends_none (Close c) is = absurd cc
ends_none (Remove c) is = absurd cc
ends_none (Stat c) is = absurd cc
ends_none (Wstat c) is = absurd cc

at_most : (b c : Bool) → (if b then 0 else 1) ≤ (if b then 0 else if c then 2 else 1)
at_most true c = omega arith
at_most false true = omega arith
at_most false false = omega arith

pub released_call : (opens : List OpenFile) (pass : ℕ) (call : Call)
    → Moves opens (opens_without_if (closed_open_number call) pass opens) pass (charge opens pass call)
released_call opens pass call =
    more_room opens (opens_without_if (closed_open_number call) pass opens) pass _ _
    (at_most (is_some (open_that_ends opens pass call)) (opens_one call)) (released_if_moves (closed_open_number call) pass opens)

granted_call : (s : RulesView) (w : Turn) (call : Call) (b : Bool) → opens_one call ≡ b
    → Moves s.opens (effect_of s w call).opens w.pass (charge s.opens w.pass call)
granted_call s w call true one =
    let made = one_more s w call one in
    let two : charge s.opens w.pass call ≡ 2 = rw (ends_none call one, one) refl in
    rw (made.more, two) (pushed_moves s.opens made.one w.pass made.pass)
granted_call s w call false none = rw (as_left s w call none) (released_call s.opens w.pass call)

-- however a call ends, its entry and the opens that it leaves fit into the room of the old opens and what the call is charged
pub call_moves : (s : RulesView) (w : Turn) (call : Call) (o : Outcome)
    → Moves s.opens (result_by_outcome s w call o).opens w.pass (charge s.opens w.pass call)
call_moves s w call out.Granted = granted_call s w call (opens_one call) refl
call_moves s w call (out.Denied rule) = released_call s.opens w.pass call
call_moves s w call out.Short = released_call s.opens w.pass call
