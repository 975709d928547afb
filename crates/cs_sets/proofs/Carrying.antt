-- What is said of the rows, said of the order.
use Rattle.std.proofs.Common.{◌≡◌, ℕ, ◌<◌, ◌≤◌, ◌&&◌, nat_lt, Bool, true, false, List, length, sym, ap, ◌∙◌, subst, arith, ⊎_elim}
use Rattle.std.proofs.lemmas.Bool.{cases_Bool, cases_lt, false≢true, le-ltb, lt-ltb}
use Rattle.std.proofs.lemmas.Option.{slice_get_past}
use Rattle.std.specs.Option.{option_map_or}
use Rattle.cs_sets.specs.Bits.{has_place}
use Rattle.cs_sets.specs.Chains.{IsBackward, by_chain}
use Rattle.cs_sets.specs.Every.{every}
use Rattle.cs_sets.specs.Reach.{IsTransitive}
use Rattle.cs_sets.specs.Laws.Reaching.{chains_backward, chains_reach, every_reach, every_same, reach_transitive}
use Rattle.cs_sets.specs.declared.row.Row.{Row}
use Rattle.cs_sets.specs.Orders.{needs_in, table}
use Rattle.cs_sets.specs.Rows.{AreColumns, IsKept, IsOrder, bit_in, needed_in}
use Rattle.cs_sets.proofs.Ordering.{backward, bits_are, long, past_table}

module _ (rows reach : List Row) (is : IsOrder rows reach) (order : List (List Bool)) (view : table (bit_in rows) (length rows) ≡ order)
    (lent : List Row) (same : lent ≡ rows) (P : (ℕ → ℕ → Bool) → ℕ → Type 0) where
  pub to_order : P (bit_in lent) (length lent) → P (needs_in order) (length order)
  to_order h =
      subst (P (needs_in order)) (ap length same ∙ long rows reach is order view)
      (subst (λ needs. P needs (length lent)) (ap bit_in same ∙ bits_are rows reach is order view) h)

  pub to_rows : P (needs_in order) (length order) → P (bit_in lent) (length lent)
  to_rows h =
      subst (P (bit_in lent)) (sym (ap length same ∙ long rows reach is order view))
      (subst (λ needs. P needs (length order)) (sym (ap bit_in same ∙ bits_are rows reach is order view)) h)

-- ---- the columns

past : (rows : List Row) (i j : ℕ) → length rows ≤ i → needed_in rows i j ≡ false
unfolding needed_in
past rows i j high = ap (λ o. option_map_or (λ row. has_place row j) o false) (slice_get_past rows i high)

module _ (rows reach needed : List Row) (is : IsKept rows reach needed) (order : List (List Bool))
    (view : table (bit_in rows) (length rows) ≡ order) where
  abbrev needs : ℕ → ℕ → Bool
  needs = needs_in order

  back : IsBackward needs
  back = backward rows reach is.order order view

  -- for places that are there, a column says what is needed by any chain
  pub column : (i j : ℕ) → j < length order → needed_in needed i j ≡ by_chain needs i j
  column i j low =
      let low_row : j < length rows = subst (λ n. j < n) (sym (long rows reach is.order order view)) low in
      let same : length reach ≡ length rows = is.order.same in
      ⊎_elim
      (λ (inside : i < length reach).
      is.columns.each i j inside ∙ ap (λ b. b && bit_in reach i j) (lt-ltb j (length reach) (omega (arith, low_row, same)))
      ∙ is.order.reached j i low_row ∙ (λ w. by_chain (bits_are rows reach is.order order view w) i j))
      (λ (high : length reach ≤ i).
      past needed i j (omega (arith, high, is.columns.long))
      ∙ sym (none i j (omega (arith, high, same, low_row))))
      (cases_lt i (length reach))
    where
      none : (i j : ℕ) → j ≤ i → by_chain needs i j ≡ false
      none i j high = ⊎_elim
          (λ (t : by_chain needs i j ≡ true). (let less = chains_backward needs back i j t in absurd (omega (arith, less, high))))
          (λ (f : by_chain needs i j ≡ false). f)
          (cases_Bool (by_chain needs i j))

  pub column_past : (i j : ℕ) → length order ≤ j → needed_in needed i j ≡ false
  column_past i j high =
      let same : length reach ≡ length order = is.order.same ∙ long rows reach is.order order view in
      ⊎_elim
      (λ (inside : i < length reach).
      is.columns.each i j inside ∙ ap (λ b. b && bit_in reach i j) (le-ltb j (length reach) (omega (arith, high, same))))
      (λ (over : length reach ≤ i). past needed i j (omega (arith, over, is.columns.long)))
      (cases_lt i (length reach))

  pub columns_long : length needed ≡ length order
  columns_long = is.columns.long ∙ is.order.same ∙ long rows reach is.order order view

  -- they have the same sets
  pub same_sets : every (needed_in needed) (length needed) ≡ every needs (length order)
  same_sets =
      ap (every (needed_in needed)) columns_long
      ∙ every_same (needed_in needed) (by_chain needs) (length order) column
      ∙ sym (every_reach needs (by_chain needs) (chains_reach needs back) (length order))

  pub columns_chained : IsTransitive (needed_in needed)
  columns_chained i j k s t =
      ⊎_elim
      (λ (low : k < length order).
      let r : by_chain needs j k ≡ true = sym (column j k low) ∙ t in
      let less = chains_backward needs back j k r in
      let q : by_chain needs i j ≡ true = sym (column i j (omega (arith, less, low))) ∙ s in
      column i k low ∙ reach_transitive needs (by_chain needs) (chains_reach needs back) i j k q r)
      (λ (high : length order ≤ k). absurd (false≢true (sym (column_past j k high) ∙ t)))
      (cases_lt k (length order))

  -- as one function
  pub chains_are : needed_in needed ≡ by_chain needs
  chains_are = λ w i j. chain_same i j w
    where
      none_past : (i j : ℕ) → length order ≤ j → by_chain needs i j ≡ false
      none_past i j high = ⊎_elim
          (λ (t : by_chain needs i j ≡ true).
          (let step = (chains_reach needs back).last_step i j t in
          let none : needs step.0 j ≡ false =
          ap (λ o. needs_in o step.0 j) (sym view)
          ∙ past_table (bit_in rows) (length rows) step.0 j (subst (λ n. n ≤ j) (sym (long rows reach is.order order view)) high) in
          absurd (false≢true (sym none ∙ step.1.0))))
          (λ (f : by_chain needs i j ≡ false). f)
          (cases_Bool (by_chain needs i j))

      chain_same : (i j : ℕ) → needed_in needed i j ≡ by_chain needs i j
      chain_same i j = ⊎_elim
          (λ (low : j < length order). column i j low)
          (λ (high : length order ≤ j). column_past i j high ∙ sym (none_past i j high))
          (cases_lt j (length order))
