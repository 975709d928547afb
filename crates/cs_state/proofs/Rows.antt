-- A map of rows with one row more.
use Rattle.std.proofs.Common.{◌≡◌, ◌≢◌, ℕ, ◌<◌, ◌≤◌, ◌==◌, nat_lt, true, false, cond, List, Option, Some, refl, sym, ap, ◌∙◌, arith, ⊎_elim}
use Rattle.std.proofs.lemmas.Bool.{cases_eq, cases_lt, eq-eqb, le-ltb, lt-ltb, ne_eqb}
use Rattle.std.specs.Global.{Vec}
use Rattle.std.specs.Ordering.{is_eq, nat_cmp}
use Rattle.std.specs.Prelude.{IsSome}

module _ (rows new : ℕ → Option (Vec ℕ)) (page : ℕ) (row : Vec ℕ)
    (goes : (q : ℕ) → new q ≡ cond (is_eq (nat_cmp page q)) (Some row) (rows q)) where
  pub row_there : (q : ℕ) → q ≡ page → new q ≡ Some row
  row_there q e = let t : page == q ≡ true = eq-eqb _ _ (sym e) in let u : nat_lt page q ≡ false = le-ltb _ _ (omega (arith, e)) in
      goes q ∙ rw (t, u) refl

  row_other : (q : ℕ) → q ≢ page → new q ≡ rows q
  row_other q ne = let t : page == q ≡ false = ne_eqb _ _ (λ e. ne (sym e)) in ⊎_elim
      (λ (a : page < q). let u : nat_lt page q ≡ true = lt-ltb _ _ a in goes q ∙ rw (t, u) refl)
      (λ (a : q ≤ page). let u : nat_lt page q ≡ false = le-ltb _ _ a in goes q ∙ rw (t, u) refl)
      (cases_lt page q)

  pub rows_keep : (q : ℕ) → IsSome (rows q) → IsSome (new q)
  rows_keep q some = ⊎_elim
      (λ (e : q ≡ page). cc (row_there q e))
      (λ (ne : q ≢ page). cc (row_other q ne))
      (cases_eq q page)

  -- each row has what is to be in it
  pub rows_right : (wanted : ℕ → List ℕ) → row.items ≡ wanted page → ((q : ℕ) (r : Vec ℕ) → rows q ≡ Some r → r.items ≡ wanted q)
      → (q : ℕ) (r : Vec ℕ) → new q ≡ Some r → r.items ≡ wanted q
  rows_right wanted is are q r there = ⊎_elim
      (λ (e : q ≡ page).
      let same : Some row ≡ Some r = sym (row_there q e) ∙ there in
      let one : row ≡ r = cc in
      ap (λ (v : Vec ℕ). v.items) (sym one) ∙ is ∙ ap wanted (sym e))
      (λ (ne : q ≢ page). are q r (sym (row_other q ne) ∙ there))
      (cases_eq q page)
