-- The places of entries, by a search for them.
use Rattle.std.proofs.Common.{◌≡◌, ◌≢◌, ℕ, zero, suc, ◌+◌, true, false, cond, List, [], ◌∷◌, Option, None, Some, refl, sym, ap, ◌∙◌, arith, ⊎_elim}
use Rattle.std.proofs.lemmas.Bool.{false≢true}
use Rattle.std.specs.List.{position_from}
use Rattle.std.specs.Option.{is_some}
use Rattle.cs_entries.specs.declared.entry.Entry.{Entry}
use Rattle.cs_entries.specs.Entries.{entry_eq}
use Rattle.cs_entries.specs.Laws.One.{entry_cases}
use Rattle.cs_apm.specs.Slots.{AreAscending, IsPlace, Slot, entry_at, slot_of}
use Rattle.cs_state.specs.Named.{place_of_entry}
use Rattle.cs_state.proofs.Leading.{entries_apart}

abbrev found_from : Entry → ℕ → List Entry → Option ℕ
found_from e n es = position_from (entry_eq e) n es

some_number : (n k : ℕ) → Some n ≡ Some k → n ≡ k
some_number n k h = cc

-- the place that is found, from n on
found_is : (e : Entry) (es : List Entry) (n k : ℕ) → found_from e n es ≡ Some k → (i : ℕ) × (k ≡ n + i) × IsPlace es i e
found_is e [] n k h = absurd (false≢true (ap is_some h))
found_is e (f ∷ fs) n k h = ⊎_elim
    (λ (one : (entry_eq e f ≡ true) × (e ≡ f)).
    let same = some_number n k (sym (ap (λ b. cond b (Some n) (found_from e (n + 1) fs)) one.0) ∙ h) in
    (0, omega (arith, same), (omega arith, sym one.1)))
    (λ (two : (entry_eq e f ≡ false) × (e ≢ f)).
    let w = found_is e fs (n + 1) k (sym (ap (λ b. cond b (Some n) (found_from e (n + 1) fs)) two.0) ∙ h) in
    let same = w.1 in
    let low = w.2.0 in
    (suc w.0, omega (arith, same), (omega (arith, low), w.2.1)))
    (entry_cases e f)

none_from : (e : Entry) (es : List Entry) (n : ℕ) → found_from e n es ≡ None → (i : ℕ) → IsPlace es i e → ⊥
none_from e [] n h i at = (let low = at.0 in omega (arith, low))
none_from e (f ∷ fs) n h i at = ⊎_elim
    (λ (one : (entry_eq e f ≡ true) × (e ≡ f)).
    false≢true (ap is_some (sym h ∙ ap (λ b. cond b (Some n) (found_from e (n + 1) fs)) one.0)))
    (λ (two : (entry_eq e f ≡ false) × (e ≢ f)).
    behind i at two.1 (none_from e fs (n + 1) (sym (ap (λ b. cond b (Some n) (found_from e (n + 1) fs)) two.0) ∙ h)))
    (entry_cases e f)
  where
    behind : (i : ℕ) → IsPlace (f ∷ fs) i e → e ≢ f → ((j : ℕ) → IsPlace fs j e → ⊥) → ⊥
    behind zero at other later = other (sym at.1)
    behind (suc i) at other later = (let low = at.0 in later i (omega (arith, low), at.1))

-- the place that is found is the entry's
pub place_found : (es : List Entry) (e : Entry) (k : ℕ) → place_of_entry es e ≡ Some k → IsPlace es k e
place_found es e k h =
    let w = found_is e es 0 k h in
    let same = w.1 in
    let is : k ≡ w.0 = omega (arith, same) in
    let low = w.2.0 in
    (omega (arith, low, is), ap (entry_at es) is ∙ w.2.1)

-- where none is found, there is none
pub no_place_found : (es : List Entry) (e : Entry) → place_of_entry es e ≡ None → (k : ℕ) → IsPlace es k e → ⊥
no_place_found es e h = none_from e es 0 h

-- an entry's place is found
pub place_is_found : (es : List Entry) → AreAscending es → (e : Entry) (k : ℕ) → IsPlace es k e → place_of_entry es e ≡ Some k
place_is_found es up e k at = by (place_of_entry es e) refl
  where
    by : (o : Option ℕ) → place_of_entry es e ≡ o → place_of_entry es e ≡ Some k
    by None none = absurd (no_place_found es e none k at)
    by (Some i) some =
        (let w = place_found es e i some in some ∙ ap Some (entries_apart es up i k w.0 at.0 (w.1 ∙ sym at.1)))

-- an entry that is none of them holds nothing
pub nothing_held : (es : List Entry) (ss : List Slot) (e : Entry) → ((k : ℕ) → IsPlace es k e → ⊥) → slot_of es ss e ≡ None
nothing_held [] ss e none = refl
nothing_held (f ∷ fs) [] e none = refl
nothing_held (f ∷ fs) (s ∷ ss) e none = ⊎_elim
    (λ (one : (entry_eq f e ≡ true) × (f ≡ e)). absurd (none 0 (omega arith, one.1)))
    (λ (two : (entry_eq f e ≡ false) × (f ≢ e)).
    ap (λ b. cond b s (slot_of fs ss e)) two.0
    ∙ nothing_held fs ss e (λ k at. none (suc k) (let low = at.0 in omega (arith, low), at.1)))
    (entry_cases f e)
