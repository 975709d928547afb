-- Rows of what needs a place.
use Rattle.std.proofs.Common.{◌≡◌, ℕ, ◌+◌, ◌<◌, ◌≤◌, ◌==◌, ◌&&◌, ◌||◌, Bool, true, false, List, [], ◌∷◌, ◌++◌, ltb, get_or, length}
use Rattle.std.proofs.Common.{sym, ap, ◌∙◌, ⊎_elim, arith, length-append}
use Rattle.std.proofs.lemmas.Bool.{cases_eq, cases_lt, eq-eqb, ne_eqb, lt-ltb, le-ltb}
use Rattle.std.proofs.lemmas.List.{get_or_push, get_or_append_left}
use Rattle.std.specs.Option.{option_map_or}
use Rattle.cs_sets.specs.declared.row.Row.{Row}
use Rattle.cs_sets.specs.Bits.{has_place}
use Rattle.cs_sets.specs.Rows.{bit_in, needed_in}
use Rattle.cs_sets.proofs.Reading.{needed_read, slice_get_at}

pub bit_read : (rows : List Row) (i j : ℕ) (d : Row) → j < length rows → bit_in rows i j ≡ has_place (get_or rows j d) i
unfolding bit_in
bit_read rows i j d low = ap (λ o. option_map_or (λ row. has_place row i) o false) (slice_get_at rows j d low)

-- one row more is looked at
pub below_next : (k j : ℕ) (b : Bool) → (k ≡ j → ⊥) → (ltb k (j + 1) && b) ≡ (ltb k j && b)
below_next k j b ne = ⊎_elim
    (λ (l : k < j). ap (λ v. v && b) (lt-ltb k (j + 1) (omega (arith, l)) ∙ sym (lt-ltb k j l)))
    (λ (h : j ≤ k). ap (λ v. v && b) (le-ltb k (j + 1) (omega (arith, h, ne)) ∙ sym (le-ltb k j h)))
    (cases_lt k j)

pub takes_row : (old new : Row) (j : ℕ) (p : ℕ → Bool) → p j ≡ true → ((k : ℕ) → has_place new k ≡ (k == j || has_place old k))
    → ((k : ℕ) → has_place old k ≡ (ltb k j && p k)) → (k : ℕ) → has_place new k ≡ (ltb k (j + 1) && p k)
takes_row old new j p t set before k = ⊎_elim
    (λ (e : k ≡ j). set k ∙ ap (λ b. b || has_place old k) (eq-eqb k j e)
    ∙ sym (ap (λ b. b && p k) (lt-ltb k (j + 1) (omega (arith, e))) ∙ ap p e ∙ t))
    (λ (ne : k ≡ j → ⊥). set k ∙ ap (λ b. b || has_place old k) (ne_eqb k j ne) ∙ before k ∙ sym (below_next k j (p k) ne))
    (cases_eq k j)

pub passes_row : (old : Row) (j : ℕ) (p : ℕ → Bool) → p j ≡ false → ((k : ℕ) → has_place old k ≡ (ltb k j && p k))
    → (k : ℕ) → has_place old k ≡ (ltb k (j + 1) && p k)
passes_row old j p f before k = ⊎_elim
    (λ (e : k ≡ j). before k ∙ ap (λ b. b && p k) (le-ltb k j (omega (arith, e)))
    ∙ sym (ap (λ b. b && p k) (lt-ltb k (j + 1) (omega (arith, e))) ∙ ap p e ∙ f))
    (λ (ne : k ≡ j → ⊥). before k ∙ sym (below_next k j (p k) ne))
    (cases_eq k j)

-- one row more is pushed
pub pushed_row : (old new : List Row) (row : Row) (n : ℕ) (p : ℕ → ℕ → Bool) → new ≡ old ++ row ∷ []
    → ((i j : ℕ) → i < length old → needed_in old i j ≡ p i j) → ((j : ℕ) → has_place row j ≡ p (length old) j)
    → (i j : ℕ) → i < length old + 1 → needed_in new i j ≡ p i j
pushed_row old new row n p e before is i j low =
    ap (λ v. needed_in v i j) e
    ∙ needed_read (old ++ row ∷ []) i j row (omega (arith, low, length-append old (row ∷ [])))
    ∙ ⊎_elim
    (λ (q : i ≡ length old). ap (λ r. has_place r j) (get_or_push old row row i (sym q)) ∙ is j ∙ ap (λ v. p v j) (sym q))
    (λ (ne : i ≡ length old → ⊥).
    (let l : i < length old = omega (arith, low, ne) in
    ap (λ r. has_place r j) (get_or_append_left old (row ∷ []) row i l) ∙ sym (needed_read old i j row l) ∙ before i j l))
    (cases_eq i (length old))
