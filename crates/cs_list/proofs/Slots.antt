-- What entries hold by their slots, from the last on.
use Rattle.std.proofs.Common.{◌≡◌, ◌∙◌, ◌<◌, ℕ, zero, suc, List, [], ◌∷◌, None, arith, cond, drop, length, refl, sym}
use Rattle.std.specs.FinMap.{same_map}
use Rattle.cs_entries.specs.Entries.{entry_eq}
use Rattle.cs_entries.specs.Laws.Records.{entry_exact, entry_total}
use Rattle.cs_entries.specs.Tables.{Table}
use Rattle.cs_entries.specs.declared.entry.Entry.{Entry}
use Rattle.cs_apm.specs.Slots.{Mirror, Slot, entry_at, slot_at, slot_of}

-- of no entry nothing
pub none_left : (es : List Entry) (ss : List Slot) (k : ℕ) → length ss ≡ length es → k ≡ length es → (e : Entry)
    → slot_of (drop k es) (drop k ss) e ≡ None
none_left [] [] zero long is e = refl
none_left [] [] (suc k) long is e = absurd (omega (arith, is))
none_left [] (s ∷ ss) k long is e = absurd (omega (arith, long))
none_left (f ∷ es) [] k long is e = absurd (omega (arith, long))
none_left (f ∷ es) (s ∷ ss) zero long is e = absurd (omega (arith, is))
none_left (f ∷ es) (s ∷ ss) (suc k) long is e = none_left es ss k (omega (arith, long)) (omega (arith, is)) e

-- of those from a place on, the first counts
pub first_left : (es : List Entry) (ss : List Slot) (k : ℕ) → k < length es → length ss ≡ length es → (e : Entry)
    → slot_of (drop k es) (drop k ss) e
    ≡ cond (entry_eq (entry_at es k) e) (slot_at ss k) (slot_of (drop (suc k) es) (drop (suc k) ss) e)
first_left [] ss k low long e = absurd (omega (arith, low))
first_left (f ∷ es) [] k low long e = absurd (omega (arith, long))
first_left (f ∷ es) (s ∷ ss) zero low long e = refl
first_left (f ∷ es) (s ∷ ss) (suc k) low long e = first_left es ss k (omega (arith, low)) (omega (arith, long)) e

-- two tables that have the same slots are one
pub same_table : (es : List Entry) (ss : List Slot) (t u : Table) → Mirror es ss t → Mirror es ss u → t ≡ u
same_table es ss t u one other = same_map entry_total entry_exact t u (λ e. one e ∙ sym (other e))
