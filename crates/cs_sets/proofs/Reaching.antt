-- Rows as a test on places.
use Rattle.std.proofs.Common.{◌≡◌, ℕ, ◌+◌, ◌<◌, ◌==◌, ◌&&◌, ◌||◌, Bool, true, false, List, [], ◌∷◌, ◌++◌, length, get_or, Some, sym, ap}
use Rattle.std.proofs.Common.{◌∙◌, ⊎_elim, arith, length-append}
use Rattle.std.proofs.lemmas.Bool.{cases_eq}
use Rattle.std.proofs.lemmas.List.{get_or_append_left, get_or_at}
use Rattle.std.proofs.lemmas.Option.{slice_get-get_or}
use Rattle.std.specs.List.{list_any, range_with_len, slice_get}
use Rattle.std.specs.Option.{option_map_or}
use Rattle.cs_sets.specs.declared.row.Row.{Row}
use Rattle.cs_sets.specs.Bits.{has_place}
use Rattle.cs_sets.specs.Chains.{by_chain}
use Rattle.cs_sets.specs.Rows.{bit_in, AreReach}
use Rattle.cs_sets.specs.Laws.Chains.{chain_step, row_takes, row_passes}

pub row_at : (rows : List Row) (k i : ℕ) (d : Row) → k < length rows → bit_in rows i k ≡ has_place (get_or rows k d) i
unfolding bit_in
row_at rows k i d low = ap (λ o. option_map_or (λ r. has_place r i) o false) (slice_get-get_or rows k d low)

-- what a row has, as far as it has come
abbrev pub IsPart : (ℕ → ℕ → Bool) → Row → ℕ → ℕ → Type 0
IsPart needs row k w = (i : ℕ) → has_place row i ≡ list_any (λ m. needs m k && (i == m || by_chain needs i m)) (range_with_len 0 w)

pub part_takes : (needs : ℕ → ℕ → Bool) (row set joined reach : Row) (k w : ℕ) → needs w k ≡ true
    → ((i : ℕ) → has_place set i ≡ (i == w || has_place row i)) → ((i : ℕ) → has_place joined i ≡ (has_place set i || has_place reach i))
    → ((i : ℕ) → has_place reach i ≡ by_chain needs i w)
    → IsPart needs row k w → IsPart needs joined k (w + 1)
part_takes needs row set joined reach k w is one more right part i =
    more i ∙ ap (λ b. b || has_place reach i) (one i ∙ ap (λ b. i == w || b) (part i)) ∙ ap
    (λ b. (i == w || list_any (λ m. needs m k && (i == m || by_chain needs i m)) (range_with_len 0 w)) || b) (right i)
    ∙ sym (row_takes needs k w i is)

pub part_passes : (needs : ℕ → ℕ → Bool) (row : Row) (k w : ℕ) → needs w k ≡ false → IsPart needs row k w → IsPart needs row k (w + 1)
part_passes needs row k w is part i = part i ∙ sym (row_passes needs k w i is)

pub part_whole : (needs : ℕ → ℕ → Bool) (row : Row) (k : ℕ) → IsPart needs row k k → (i : ℕ) → has_place row i ≡ by_chain needs i k
part_whole needs row k part i = part i ∙ sym (chain_step needs i k)

-- one row more
pub reach_more : (rows reach : List Row) (row : Row) (k : ℕ) → length reach ≡ k → AreReach rows reach k
    → ((i : ℕ) → has_place row i ≡ by_chain (bit_in rows) i k) → AreReach rows (reach ++ row ∷ []) (k + 1)
unfolding bit_in
reach_more rows reach row k long reached right m i low = ⊎_elim
    (λ (e : m ≡ k).
    let last : slice_get (reach ++ row ∷ []) m ≡ Some row =
    slice_get-get_or (reach ++ row ∷ []) m row (omega (arith, e, long, length-append reach (row ∷ []))) ∙ ap Some
    (get_or_at reach row [] row m (omega (arith, e, long))) in
    ap (λ o. option_map_or (λ r. has_place r i) o false) last ∙ right i ∙ ap (λ v. by_chain (bit_in rows) i v) (sym e))
    (λ (e : m ≡ k → ⊥).
    let old : slice_get (reach ++ row ∷ []) m ≡ slice_get reach m =
    slice_get-get_or (reach ++ row ∷ []) m row (omega (arith, low, long, length-append reach (row ∷ []))) ∙ ap Some
    (get_or_append_left reach (row ∷ []) row m (omega (arith, low, e, long))) ∙ sym
    (slice_get-get_or reach m row (omega (arith, low, e, long))) in
    ap (λ o. option_map_or (λ r. has_place r i) o false) old ∙ reached m i (omega (arith, low, e)))
    (cases_eq m k)
