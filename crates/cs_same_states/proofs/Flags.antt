-- The flags of the files in slots, one slot after the other.
use Rattle.std.proofs.Common.{◌≡◌, ◌≢◌, ℕ, zero, suc, ◌<◌, Bool, true, false, List, [], ◌∷◌, length, refl, sym, ap, ◌∙◌, subst, arith}
use Rattle.std.proofs.Common.{⊎_elim, None, Some}
use Rattle.std.proofs.lemmas.Bool.{cases_eq}
use Rattle.std.proofs.lemmas.List.{get_or-set_other, get_or-set_same, length-set}
use Rattle.std.specs.Prelude.{fold, slice_set}
use Rattle.cs_entries.specs.declared.node.Node.TheVariants.{Directory, File}
use Rattle.cs_apm.specs.Slots.{Slot, slot_at}
use Rattle.cs_same_states.specs.Slots.{AreFlagged, file_in, flag_at, flagged}

as_many : (flags : List Bool) (s : Slot) → length (flagged flags s) ≡ length flags
as_many flags None = refl
as_many flags (Some (Directory d)) = refl
as_many flags (Some (File kind file)) = length-set flags file true

pub all_as_many : (flags : List Bool) (slots : List Slot) → length (fold flagged flags slots) ≡ length flags
all_as_many flags [] = refl
all_as_many flags (s ∷ ss) = all_as_many (flagged flags s) ss ∙ as_many flags s

stays : (flags : List Bool) (s : Slot) (n : ℕ) → n < length flags → flag_at flags n ≡ true → flag_at (flagged flags s) n ≡ true
stays flags None n low is = is
stays flags (Some (Directory d)) n low is = is
stays flags (Some (File kind file)) n low is = ⊎_elim
    (λ (e : file ≡ n). ap (λ k. flag_at (slice_set flags k true) n) e ∙ get_or-set_same flags n true false low)
    (λ (e : file ≢ n). get_or-set_other flags file n true false (λ s. e (sym s)) ∙ is)
    (cases_eq file n)

all_stays : (flags : List Bool) (slots : List Slot) (n : ℕ) → n < length flags → flag_at flags n ≡ true
    → flag_at (fold flagged flags slots) n ≡ true
all_stays flags [] n low is = is
all_stays flags (s ∷ ss) n low is =
    all_stays (flagged flags s) ss n (subst (λ k. n < k) (sym (as_many flags s)) low) (stays flags s n low is)

-- the flag of the slot's own file
own : (flags : List Bool) (s : Slot) (n : ℕ) → file_in s ≡ Some n → n < length flags → flag_at (flagged flags s) n ≡ true
own flags None n is low = absurd (cc is)
own flags (Some (Directory d)) n is low = absurd (cc is)
own flags (Some (File kind file)) n is low =
    (let same : file ≡ n = cc is in ap (λ k. flag_at (slice_set flags k true) n) same ∙ get_or-set_same flags n true false low)

each : (flags : List Bool) (slots : List Slot) (i n : ℕ) → i < length slots → file_in (slot_at slots i) ≡ Some n → n < length flags
    → flag_at (fold flagged flags slots) n ≡ true
each flags [] i n inside is low = absurd (omega (arith, inside))
each flags (s ∷ ss) zero n inside is low =
    all_stays (flagged flags s) ss n (subst (λ k. n < k) (sym (as_many flags s)) low) (own flags s n is low)
each flags (s ∷ ss) (suc i) n inside is low =
    each (flagged flags s) ss i n (omega (arith, inside)) is (subst (λ k. n < k) (sym (as_many flags s)) low)

pub flags_are : (flags : List Bool) (slots : List Slot) (count : ℕ) → length flags ≡ count
    → AreFlagged slots count (fold flagged flags slots)
flags_are flags slots count long = record {
  long = all_as_many flags slots ∙ long;
  each = λ i n inside is low. each flags slots i n inside is (subst (λ k. n < k) (sym long) low);
}
