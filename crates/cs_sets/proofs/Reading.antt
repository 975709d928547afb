-- Rows as tests in a walk.
use Rattle.std.proofs.Common.{◌≡◌, ℕ, zero, suc, ◌-◌, ◌<◌, ◌&&◌, not, Bool, false, List, [], ◌∷◌, ◌++◌, Some}
use Rattle.std.proofs.Common.{get_or, length, refl, sym, ap, ◌∙◌, arith, ltb, append_assoc}
use Rattle.std.proofs.lemmas.Bool.{lt-ltb}
use Rattle.std.specs.Prelude.{slice_get}
use Rattle.std.specs.Option.{option_map_or}
use Rattle.cs_sets.specs.declared.row.Row.{Row}
use Rattle.cs_sets.specs.Bits.{has_place}
use Rattle.cs_sets.specs.Every.{every, extending, lacking}
use Rattle.cs_sets.specs.Rows.{needed_in}
use Rattle.cs_sets.specs.Laws.Counts.{all_at_first, none_below, every_is}
use Rattle.cs_sets.specs.Laws.Walking.{IsAt}

pub slice_get_at : {X : Type 0} (xs : List X) (i : ℕ) (d : X) → i < length xs → slice_get xs i ≡ Some (get_or xs i d)
slice_get_at [] i d low = absurd (omega (arith, low))
slice_get_at (x ∷ xs) zero d low = refl
slice_get_at (x ∷ xs) (suc i) d low = slice_get_at xs i d (omega (arith, low))

pub needed_read : (rows : List Row) (i j : ℕ) (d : Row) → i < length rows → needed_in rows i j ≡ has_place (get_or rows i d) j
unfolding needed_in
needed_read rows i j d low = ap (λ o. option_map_or (λ row. has_place row j) o false) (slice_get_at rows i d low)

pub same_at : (needs : ℕ → ℕ → Bool) (n k : ℕ) (places : List ℕ) (p q : ℕ → Bool) → ((j : ℕ) → q j ≡ p j) → IsAt needs n k places p
    → IsAt needs n k places q
same_at needs n k places p q same at = record { below = at.below; future = λ j high low. same j ∙ at.future j high low }

-- what is left of a future without a place
pub removed : (rows : List Row) (left other : Row) (i : ℕ) (d : Row) → i < length rows
    → ((k : ℕ) → has_place other k ≡ (has_place left k && not (has_place (get_or rows i d) k)))
    → (k : ℕ) → has_place other k ≡ lacking (needed_in rows) i (has_place left) k
removed rows left other i d low is k = is k ∙ ap (λ b. has_place left k && not b) (sym (needed_read rows i k d low))

pub at_first : (needs : ℕ → ℕ → Bool) (n : ℕ) (row : Row) → ((k : ℕ) → has_place row k ≡ ltb k n) → IsAt needs n 0 [] (has_place row)
at_first needs n row is = record {
  below = none_below;
  future = all_at_first needs n (has_place row) (λ j low. is j ∙ lt-ltb j n low);
}

-- both halves, one after the other
pub two_halves : {X : Type 0} (old first second all one two : List X) → all ≡ one ++ two → first ≡ old ++ one → second ≡ first ++ two
    → second ≡ old ++ all
two_halves old first second all one two e f g = g ∙ ap (λ v. v ++ two) f ∙ append_assoc old one two ∙ ap (λ v. old ++ v) (sym e)

pub whole : (needs : ℕ → ℕ → Bool) (n : ℕ) (found : List (List ℕ)) → found ≡ [] ++ extending needs (n - 0) 0 [] → found ≡ every needs n
whole needs n found e = let z : n - 0 ≡ n = omega arith in e ∙ ap (λ m. extending needs m 0 []) z ∙ sym (every_is needs n)
