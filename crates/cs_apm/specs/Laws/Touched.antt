-- Entries that a micro-operation touches: the test says what the sentence says.
use Rattle.std.proofs.Common.{◌≡◌, ◌<◌, ◌⊎◌, inl, inr, ℕ, zero, suc, ◌==◌, true, [], ◌∷◌}
use Rattle.std.proofs.Common.{get_or, sym, ap, ◌∙◌, arith, ⊎_elim}
use Rattle.std.proofs.lemmas.Bool.{false≢true, eqb-true, eq-eqb, or_cases}
use Rattle.std.proofs.lemmas.Bool.{or_left, or_right}
use Rattle.std.specs.List.{Contains}
use Rattle.cs_entries.specs.declared.entry.Entry.{Entry}
use Rattle.cs_entries.specs.Entries.{EntryOp, Create, Link, Delete, Move, Other}
use Rattle.cs_entries.specs.Entries.{entry_eq}
use Rattle.cs_entries.specs.Entries as entries
use Rattle.cs_entries.specs.Rules.{entries_touched, shares_entry}
use Rattle.cs_entries.specs.Laws.One.{entry_from, same_entry}
use Rattle.cs_micro.specs.Legal.{entry_op}
use Rattle.cs_micro.specs.declared.micro_op.MicroOp.{MicroOp}
use Rattle.cs_apm.specs.Rules.{touches_entry_of}
use Rattle.cs_apm.specs.Reasons.{Touches, TouchesEntryOf}
use Rattle.cs_apm.specs.Laws.Lists.{any_found, any_from}

-- ---- entries

-- a touched entry is one of those that are listed
pub touched_listed : (o : EntryOp) (e : Entry) → entries.touches o e ≡ true
    → Contains (entries_touched o) e
touched_listed (Create p node) e h = (0, omega arith, entry_from p e h)
touched_listed (Link p kind file) e h = (0, omega arith, entry_from p e h)
touched_listed (Delete p node) e h = (0, omega arith, entry_from p e h)
touched_listed (Move a b node old) e h = ⊎_elim
    (λ (l : entry_eq a e ≡ true). (0, omega arith, entry_from a e l))
    (λ (r : entry_eq b e ≡ true). (1, omega arith, entry_from b e r))
    (or_cases (entry_eq a e) (entry_eq b e) h)
touched_listed Other e h = absurd (false≢true h)

-- what is in a list of one
pub only_one : {X : Type 0} (x y : X) (k : ℕ) → k < 1 → get_or (x ∷ []) k y ≡ y → x ≡ y
only_one x y zero low is = is
only_one x y (suc k) low is = absurd (omega (arith, low))

listed_two : {X : Type 0} (x z y : X) (k : ℕ) → k < 2 → get_or (x ∷ z ∷ []) k y ≡ y
    → (x ≡ y) ⊎ (z ≡ y)
listed_two x z y zero low is = inl is
listed_two x z y (suc zero) low is = inr is
listed_two x z y (suc (suc k)) low is = absurd (omega (arith, low))

touches_it : (a e : Entry) → a ≡ e → entry_eq a e ≡ true
touches_it a e is = ap (entry_eq a) (sym is) ∙ same_entry a

pub listed_touched : (o : EntryOp) (e : Entry) → Contains (entries_touched o) e
    → entries.touches o e ≡ true
listed_touched (Create p node) e h = touches_it p e (only_one p e h.0 h.1 h.2)
listed_touched (Link p kind file) e h = touches_it p e (only_one p e h.0 h.1 h.2)
listed_touched (Delete p node) e h = touches_it p e (only_one p e h.0 h.1 h.2)
listed_touched (Move a b node old) e h = ⊎_elim
    (λ (l : a ≡ e). or_left (entry_eq a e) (entry_eq b e) (touches_it a e l))
    (λ (r : b ≡ e). or_right (entry_eq a e) (entry_eq b e) (touches_it b e r))
    (listed_two a b e h.0 h.1 h.2)
listed_touched Other e h = absurd (let low = h.1 in omega (arith, low))

-- both touch one entry
pub shares_says : (a b : MicroOp) → shares_entry (entry_op a) (entry_op b) ≡ true → (e : Entry)
    × Touches a e × Touches b e
shares_says a b h =
    let w = any_found (entries.touches (entry_op a)) (entries_touched (entry_op b)) h in
    (w.0, touched_listed (entry_op a) w.0 w.2, w.1)

pub says_shares : (a b : MicroOp) (e : Entry) → Touches a e → Touches b e
    → shares_entry (entry_op a) (entry_op b) ≡ true
says_shares a b e x y =
    any_from (entries.touches (entry_op a)) (entries_touched (entry_op b)) e y
    (listed_touched (entry_op a) e x)

pub entry_says : (o : MicroOp) (d : ℕ) → touches_entry_of o d ≡ true → TouchesEntryOf o d
entry_says o d h =
    let w = any_found (λ (e : Entry). e.directory == d) (entries_touched (entry_op o)) h in
    record {
      entry = w.0;
      touching = w.1;
      inside = eqb-true w.0.directory d w.2;
    }

pub says_entry : (o : MicroOp) (d : ℕ) → TouchesEntryOf o d → touches_entry_of o d ≡ true
says_entry o d w =
    any_from (λ (e : Entry). e.directory == d) (entries_touched (entry_op o)) w.entry w.touching
    (eq-eqb w.entry.directory d w.inside)
