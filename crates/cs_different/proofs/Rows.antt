-- Rows as tests.
use Rattle.std.proofs.Common.{◌≡◌, ℕ, zero, suc, ◌+◌, ◌<◌, ◌≤◌, ◌==◌, ◌&&◌, ◌||◌, not, Bool, true, false, List, [], ◌∷◌, ◌++◌, Some}
use Rattle.std.proofs.Common.{get_or, length, length-append, refl, ap, ◌∙◌, sym, arith, ltb, subst, ⊎_elim}
use Rattle.std.proofs.lemmas.Bool.{cases_eq, cases_lt, eq-eqb, false≢true, ne_eqb, lt-ltb, le-ltb}
use Rattle.std.proofs.lemmas.Option.{slice_get_past}
use Rattle.std.proofs.lemmas.List.{get_or_push, get_or_append_left}
use Rattle.std.specs.Prelude.{slice_get}
use Rattle.std.specs.Option.{option_map_or}
use Rattle.cs_sets.specs.declared.row.Row.{Row}
use Rattle.cs_sets.specs.Bits.{has_place}
use Rattle.cs_sets.specs.Every.{lacking}
use Rattle.cs_sets.specs.Rows.{bit_in, needed_in}
use Rattle.cs_sets.specs.Laws.Counts.{all_at_first, none_below}
use Rattle.cs_sets.specs.Laws.Walking.{IsAt}

slice_get_at : {X : Type 0} (xs : List X) (i : ℕ) (d : X) → i < length xs → slice_get xs i ≡ Some (get_or xs i d)
slice_get_at [] i d low = absurd (omega (arith, low))
slice_get_at (x ∷ xs) zero d low = refl
slice_get_at (x ∷ xs) (suc i) d low = slice_get_at xs i d (omega (arith, low))

needed_read : (rows : List Row) (i j : ℕ) (d : Row) → i < length rows → needed_in rows i j ≡ has_place (get_or rows i d) j
unfolding needed_in
needed_read rows i j d low = ap (λ o. option_map_or (λ row. has_place row j) o false) (slice_get_at rows i d low)

pub bit_read : (rows : List Row) (j i : ℕ) (d : Row) → j < length rows → bit_in rows i j ≡ has_place (get_or rows j d) i
unfolding bit_in
bit_read rows j i d low = ap (λ o. option_map_or (λ row. has_place row i) o false) (slice_get_at rows j d low)

-- the future without a place, in two steps
pub cleared_out : (rows : List Row) (left other out : Row) (k : ℕ) (d : Row) → k < length rows
    → ((j : ℕ) → has_place other j ≡ (has_place left j && not (has_place (get_or rows k d) j)))
    → ((j : ℕ) → has_place out j ≡ (has_place other j && not (j == k)))
    → (j : ℕ) → has_place out j ≡ (lacking (needed_in rows) k (has_place left) j && not (j == k))
cleared_out rows left other out k d low is cleared j =
    cleared j
    ∙ ap (λ b. b && not (j == k)) (is j ∙ ap (λ b. has_place left j && not b) (sym (needed_read rows k j d low)))

pub at_first : (needs : ℕ → ℕ → Bool) (n : ℕ) (row : Row) → ((k : ℕ) → has_place row k ≡ ltb k n) → IsAt needs n 0 [] (has_place row)
at_first needs n row is = record {
  below = none_below;
  future = all_at_first needs n (has_place row) (λ j low. is j ∙ lt-ltb j n low);
}

-- one row more is looked at
below_next : (k j : ℕ) (b : Bool) → (k ≡ j → ⊥) → (ltb k (j + 1) && b) ≡ (ltb k j && b)
below_next k j b ne = ⊎_elim
    (λ (l : k < j). ap (λ v. v && b) (lt-ltb k (j + 1) (omega (arith, l)) ∙ sym (lt-ltb k j l)))
    (λ (h : j ≤ k). ap (λ v. v && b) (le-ltb k (j + 1) (omega (arith, h, ne)) ∙ sym (le-ltb k j h)))
    (cases_lt k j)

pub takes_row : (old new : Row) (j : ℕ) (p : ℕ → Bool) → p j ≡ true → ((k : ℕ) → has_place new k ≡ (k == j || has_place old k))
    → ((k : ℕ) → has_place old k ≡ (ltb k j && p k)) → (k : ℕ) → has_place new k ≡ (ltb k (j + 1) && p k)
takes_row old new j p t set before k = ⊎_elim
    (λ (e : k ≡ j). set k ∙ ap (λ b. b || has_place old k) (eq-eqb k j e)
    ∙ sym (ap (λ b. b && p k) (lt-ltb k (j + 1) (omega (arith, e))) ∙ ap p e ∙ t))
    (λ (ne : k ≡ j → ⊥). set k ∙ ap (λ b. b || has_place old k) (ne_eqb k j ne) ∙ before k ∙ sym (below_next k j (p k) ne))
    (cases_eq k j)

pub passes_row : (old : Row) (j : ℕ) (p : ℕ → Bool) → p j ≡ false → ((k : ℕ) → has_place old k ≡ (ltb k j && p k))
    → (k : ℕ) → has_place old k ≡ (ltb k (j + 1) && p k)
passes_row old j p f before k = ⊎_elim
    (λ (e : k ≡ j). before k ∙ ap (λ b. b && p k) (le-ltb k j (omega (arith, e)))
    ∙ sym (ap (λ b. b && p k) (lt-ltb k (j + 1) (omega (arith, e))) ∙ ap p e ∙ f))
    (λ (ne : k ≡ j → ⊥). before k ∙ sym (below_next k j (p k) ne))
    (cases_eq k j)

-- one row more is pushed
pub pushed_row : (old new : List Row) (row : Row) (n : ℕ) (p : ℕ → ℕ → Bool) → new ≡ old ++ row ∷ []
    → ((i j : ℕ) → i < length old → needed_in old i j ≡ p i j) → ((j : ℕ) → has_place row j ≡ p (length old) j)
    → (i j : ℕ) → i < length old + 1 → needed_in new i j ≡ p i j
pushed_row old new row n p e before is i j low =
    ap (λ v. needed_in v i j) e
    ∙ needed_read (old ++ row ∷ []) i j row (omega (arith, low, length-append old (row ∷ [])))
    ∙ ⊎_elim
    (λ (q : i ≡ length old). ap (λ r. has_place r j) (get_or_push old row row i (sym q)) ∙ is j ∙ ap (λ v. p v j) (sym q))
    (λ (ne : i ≡ length old → ⊥).
    (let l : i < length old = omega (arith, low, ne) in
    ap (λ r. has_place r j) (get_or_append_left old (row ∷ []) row i l) ∙ sym (needed_read old i j row l) ∙ before i j l))
    (cases_eq i (length old))

pub bits_past : (rows : List Row) (z k : ℕ) → length rows ≤ k → bit_in rows z k ≡ false
unfolding bit_in
bits_past rows z k high = ap (λ o. option_map_or (λ row. has_place row z) o false) (slice_get_past rows k high)

-- what is known of the bits of each row, and of one row more
pub pushed_bits : (P : ℕ → ℕ → Type 0) (old new : List Row) (row : Row) → new ≡ old ++ row ∷ []
    → ((z k : ℕ) → bit_in old z k ≡ true → P z k) → ((z : ℕ) → has_place row z ≡ true → P z (length old))
    → (z k : ℕ) → bit_in new z k ≡ true → P z k
pushed_bits P old new row e before last z k t = ⊎_elim
    (λ (low : k < length old).
    before z k (bit_read old k z row low ∙ ap (λ r. has_place r z) (sym (get_or_append_left old (row ∷ []) row k low))
    ∙ sym (bit_read (old ++ row ∷ []) k z row (omega (arith, low, length-append old (row ∷ [])))) ∙ ap (λ v. bit_in v z k) (sym e) ∙ t))
    (λ (high : length old ≤ k). ⊎_elim
    (λ (same : k ≡ length old).
    subst (P z) (sym same) (last z (ap (λ r. has_place r z) (sym (get_or_push old row row k (sym same)))
    ∙ sym (bit_read (old ++ row ∷ []) k z row (omega (arith, same, length-append old (row ∷ [])))) ∙ ap (λ v. bit_in v z k) (sym e) ∙ t)))
    (λ (ne : k ≡ length old → ⊥).
    absurd (false≢true (sym (bits_past (old ++ row ∷ []) z k (omega (arith, high, ne, length-append old (row ∷ []))))
    ∙ ap (λ v. bit_in v z k) (sym e) ∙ t)))
    (cases_eq k (length old)))
    (cases_lt k (length old))
