-- The table of an order says what its rows say.
use Rattle.std.proofs.Common.{◌≡◌, ℕ, ◌<◌, ◌≤◌, Bool, true, false, List, [], get_or, length, sym, ap, ◌∙◌, subst, ⊎_elim, arith}
use Rattle.std.proofs.lemmas.Bool.{cases_lt, cases_Bool}
use Rattle.std.proofs.lemmas.List.{get_or_past}
use Rattle.cs_sets.specs.declared.row.Row.{Row}
use Rattle.cs_sets.specs.Chains.{IsBackward, by_chain}
use Rattle.cs_sets.specs.Orders.{needs_in, table}
use Rattle.cs_sets.specs.Rows.{IsOrder, bit_in}
use Rattle.cs_sets.specs.Bits.{has_place}
use Rattle.cs_sets.proofs.Entries.{bit_read, bits_past, entry, length_table}

pub past_table : (need : ℕ → ℕ → Bool) (n i j : ℕ) → n ≤ j → needs_in (table need n) i j ≡ false
unfolding needs_in
past_table need n i j high = ap (λ row. get_or row i false) (get_or_past (table need n) j [] (omega (arith, high, length_table need n)))

module _ (rows reach : List Row) (is : IsOrder rows reach) where
  later : (i j : ℕ) → j ≤ i → bit_in rows i j ≡ false
  later i j high = ⊎_elim
      (λ (yes : bit_in rows i j ≡ true). (let low = is.backward i j yes in absurd (omega (arith, low, high))))
      (λ (none : bit_in rows i j ≡ false). none)
      (cases_Bool (bit_in rows i j))

  entry_same : (i j : ℕ) → needs_in (table (bit_in rows) (length rows)) i j ≡ bit_in rows i j
  entry_same i j = ⊎_elim
      (λ (low : j < length rows). entry (bit_in rows) (length rows) i j later low)
      (λ (high : length rows ≤ j). past_table (bit_in rows) (length rows) i j high ∙ sym (bits_past rows i j high))
      (cases_lt j (length rows))

  pub needs_same : needs_in (table (bit_in rows) (length rows)) ≡ bit_in rows
  needs_same = λ w i j. entry_same i j w

  module _ (order : List (List Bool)) (view : table (bit_in rows) (length rows) ≡ order) where
    pub bits_are : bit_in rows ≡ needs_in order
    bits_are = sym needs_same ∙ ap needs_in view

    pub long : length rows ≡ length order
    long = sym (length_table (bit_in rows) (length rows)) ∙ ap length view

    pub backward : IsBackward (needs_in order)
    backward = subst IsBackward bits_are is.backward

    pub low : (j : ℕ) → j < length order → j < length rows
    low j h = subst (λ n. j < n) (sym long) h

    pub needs_read : (j i : ℕ) (row : Row) → j < length order → row ≡ get_or rows j row → has_place row i ≡ needs_in order i j
    needs_read j i row h read = sym (bit_read rows j i row (low j h) read) ∙ (λ w. bits_are w i j)

    pub reach_low : (j : ℕ) → j < length order → j < length reach
    reach_low j h = subst (λ n. j < n) (sym is.same) (low j h)

    pub chain_read : (j i : ℕ) (row : Row) → j < length order → row ≡ get_or reach j row → has_place row i ≡ by_chain (needs_in order) i j
    chain_read j i row h read =
        sym (bit_read reach j i row (reach_low j h) read) ∙ is.reached j i (low j h) ∙ (λ w. by_chain (bits_are w) i j)

    pub few : (i : ℕ) → i < length order → i < 1024
    few i h = (let l = low i h in let f = is.few in omega (arith, l, f))
