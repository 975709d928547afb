-- The slots after the steps of a set.
use Rattle.std.proofs.Common.{◌≡◌, ◌≢◌, ℕ, zero, suc, ◌<◌, List, [], ◌∷◌, None, Some, refl, sym, ap, ◌∙◌, subst, arith, ⊎_elim, length, map, get_or}
use Rattle.std.proofs.Common.{Result, Ok, Err, IfOk}
use Rattle.std.proofs.lemmas.Bool.{cases_eq}
use Rattle.std.proofs.lemmas.List.{length-set, get_or-set_same, get_or-set_other}
use Rattle.std.specs.List.{All}
use Rattle.std.specs.Prelude.{fold, slice_set}
use Rattle.cs_entries.specs.declared.entry.Entry.{Entry}
use Rattle.cs_entries.specs.Tables.{Table}
use Rattle.cs_micro.specs.declared.micro_op.MicroOp.{MicroOp}
use Rattle.cs_apm.specs.Rules.{op_at}
use Rattle.cs_apm.specs.States.{entries_after}
use Rattle.cs_apm.specs.declared.slot.Step.{Step}
use Rattle.cs_apm.specs.declared.slot.Step.TheVariants.{Set, Move, Other}
use Rattle.cs_apm.specs.Slots.{AreAscending, AreKnown, AreKnownSteps, AreSteps, IsKnown, IsKnownStep, Mirror, Slot}
use Rattle.cs_apm.specs.Slots.{moved_slot, slot_at, slots_after, step_at, table_of_slots}
use Rattle.cs_apm.specs.Laws.Mirrors.{fold_mirror, length_after, mirrored}

module _ (n d f : ℕ) where
  known_set : (slots : List Slot) (i : ℕ) (s : Slot) → i < length slots → AreKnown d f slots → IsKnown d f s
      → AreKnown d f (slice_set slots i s)
  known_set slots i s low known is j = ⊎_elim
      (λ (e : j ≡ i). subst (IsKnown d f) (sym (ap (slot_at (slice_set slots i s)) e ∙ get_or-set_same slots i s None low)) is)
      (λ (e : j ≢ i). subst (IsKnown d f) (sym (get_or-set_other slots i j s None e)) (known j))
      (cases_eq j i)

  known_moved : (slots : List Slot) (i j : ℕ) (s : Slot) → i < length slots → j < length slots → AreKnown d f slots → IsKnown d f s
      → AreKnown d f (moved_slot i j slots s)
  known_moved slots i j None low high known is = known
  known_moved slots i j (Some node) low high known is =
      known_set (slice_set slots i None) j (Some node) (subst (λ w. j < w) (sym (length-set slots i None)) high)
      (known_set slots i None low known tt) is

  known_after : (slots : List Slot) (s : Step) → length slots ≡ n → AreKnown d f slots → IsKnownStep n d f s
      → AreKnown d f (slots_after slots s)
  known_after slots (Set i s) long known is = known_set slots i s (subst (λ w. i < w) (sym long) is.0) known is.1
  known_after slots (Move i j) long known is =
      known_moved slots i j (slot_at slots i) (subst (λ w. i < w) (sym long) is.0) (subst (λ w. j < w) (sym long) is.1) known (known i)
  known_after slots Other long known is = known

  pub fold_known : (steps : List Step) → AreKnownSteps n d f steps → (places : List ℕ) (slots : List Slot)
      → length slots ≡ n → AreKnown d f slots
      → AreKnown d f (fold slots_after slots (map (step_at steps) places))
      × (length (fold slots_after slots (map (step_at steps) places)) ≡ n)
  fold_known steps h [] slots long known = (known, long)
  fold_known steps h (k ∷ places) slots long known =
      fold_known steps h places (slots_after slots (step_at steps k)) (length_after slots (step_at steps k) ∙ long)
      (known_after slots (step_at steps k) long known (h k))

-- the slots mirror the state's entries
pub fold_mirrored : (es : List Entry) → AreAscending es → (ops : List MicroOp) (steps : List Step) → AreSteps es ops steps
    → (slots : List Slot) → length slots ≡ length es → (t : Table) → Mirror es slots t → (places : List ℕ)
    → fold entries_after t (map (op_at ops) places) ≡ table_of_slots es (fold slots_after slots (map (step_at steps) places))
fold_mirrored es up ops steps are slots long t mirror places =
    mirrored es (fold slots_after slots (map (step_at steps) places)) (fold entries_after t (map (op_at ops) places)) up
    (fold_mirror es up ops steps are places slots long t mirror)

same_length : (es : List Entry) (ops : List MicroOp) (steps : List Step) → AreSteps es ops steps → length steps ≡ length ops
same_length es [] [] h = refl
same_length es [] (s ∷ steps) h = absurd h
same_length es (o ∷ ops) [] h = absurd h
same_length es (o ∷ ops) (s ∷ steps) h = ap suc (same_length es ops steps h.1)

same_read : (xs : List ℕ) (i d e : ℕ) → i < length xs → get_or xs i d ≡ get_or xs i e
same_read [] i d e low = absurd (omega (arith, low))
same_read (x ∷ xs) zero d e low = refl
same_read (x ∷ xs) (suc i) d e low = same_read xs i d e (omega (arith, low))

pub all_inside : (es : List Entry) (ops : List MicroOp) (steps : List Step) → AreSteps es ops steps
    → (places : List ℕ) → ((a : ℕ) → a < length places → get_or places a 0 < length ops) → All (λ k. k < length steps) places
all_inside es ops steps are places inside k d low =
    (let a = inside k low in let l = same_length es ops steps are in let r = same_read places k d 0 low in omega (arith, a, l, r))

pub if_ok : {A E : Type 0} {P Q : A → Type 0} (r : Result A E) → ((a : A) → P a → Q a) → IfOk r P → IfOk r Q
if_ok (Ok a) f h = f a h
if_ok (Err e) f h = tt
