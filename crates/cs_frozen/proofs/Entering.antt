-- Paths entered by number.
use Rattle.std.proofs.Common.{◌≡◌, ◌≢◌, ◌+◌, ◌<◌, ◌≤◌, ℕ, nat_lt, true, false, cond, Option, None, Some, refl, sym, ap, ◌∙◌, ⊎_elim, arith}
use Rattle.std.proofs.lemmas.Bool.{false≢true, cases_eq, cases_lt, lt-ltb, le-ltb}
use Rattle.std.specs.Cmp.{tied_itself}
use Rattle.std.specs.Option.{option_map, option_map_or, is_some}
use Rattle.std.specs.Ordering.{is_eq, eq_by_cmp}
use Rattle.cs_tree_model.specs.declared.record.Record.{Record}
use Rattle.cs_tree_model.specs.Tree.{Path, path_cmp, Tree, IsTree, record_at, number_at, path_numbered}
use Rattle.cs_tree_model.specs.Laws.Paths.{path_cases, path_total}
use Rattle.cs_tree_model.specs.Laws.Round.{numbered_in, found_in}

-- a number, if it is below k
abbrev pub below : ℕ → Option ℕ → Option ℕ
below k None = None
below k (Some n) = cond (nat_lt n k) (Some n) None

pub below_zero : (o : Option ℕ) → None ≡ below 0 o
below_zero None = refl
below_zero (Some n) = let e : nat_lt n 0 ≡ false = le-ltb n 0 (omega arith) in rw e refl

below_kept : (k n : ℕ) → n ≢ k → below k (Some n) ≡ below (k + 1) (Some n)
below_kept k n ne = ⊎_elim
    (λ (lt : n < k). let a : nat_lt n k ≡ true = lt-ltb n k lt in let b : nat_lt n (k + 1) ≡ true = lt-ltb n (k + 1) (omega arith) in
    rw (a, b) refl)
    (λ (le : k ≤ n). let a : nat_lt n k ≡ false = le-ltb n k le in let b : nat_lt n (k + 1) ≡ false =
    le-ltb n (k + 1) (omega (arith, ne)) in rw (a, b) refl)
    (cases_lt n k)

module _ (t : Tree) (h : IsTree t) where
  pub below_all_numbers : (q : Path) (k : ℕ) → t.next ≤ k → below k (number_at t q) ≡ number_at t q
  below_all_numbers q k le = by (record_at t q) refl
    where
      by : (o : Option Record) → record_at t q ≡ o
          → below k (option_map (λ (r : Record). r.number) (record_at t q)) ≡ option_map (λ (r : Record). r.number) (record_at t q)
      by None e = ap (λ w. below k (option_map (λ (r : Record). r.number) w)) e ∙ sym (ap (option_map (λ (r : Record). r.number)) e)
      by (Some r) e =
          let less = h.below q r e in
          let a : nat_lt r.number k ≡ true = lt-ltb r.number k (omega (arith, less)) in
          ap (λ w. below k (option_map (λ (r : Record). r.number) w)) e ∙ ap (λ b. cond b (Some r.number) None) a ∙ sym
          (ap (option_map (λ (r : Record). r.number)) e)

  module _ (k : ℕ) (q : Path) where
    abbrev entered : Option Path → Option ℕ → Option ℕ
    entered path o = option_map_or (λ p. cond (is_eq (path_cmp p q)) (Some k) (below k o)) path (below k o)

    -- a path that is not at q changes nothing there
    untouched : (path : Option Path) (o : Option ℕ) → path ≢ Some q → entered path o ≡ below k o
    untouched None o ne = refl
    untouched (Some p) o ne = ⊎_elim
        (λ (one : (eq_by_cmp path_cmp p q ≡ true) × (p ≡ q)). absurd (ne (ap Some one.1)))
        (λ (two : (eq_by_cmp path_cmp p q ≡ false) × (p ≢ q)). ap (λ b. cond b (Some k) (below k o)) two.0)
        (path_cases p q)

    pub enters : entered (path_numbered t k) (number_at t q) ≡ below (k + 1) (number_at t q)
    enters = by (record_at t q) refl
      where
        by : (o : Option Record) → record_at t q ≡ o
            → entered (path_numbered t k) (option_map (λ (r : Record). r.number) (record_at t q))
            ≡ below (k + 1) (option_map (λ (r : Record). r.number) (record_at t q))
        by None e =
            let other : path_numbered t k ≢ Some q = λ is. (let f = found_in t h k q is in false≢true (ap is_some (sym e ∙ f.1))) in
            ap (λ w. entered (path_numbered t k) (option_map (λ (r : Record). r.number) w)) e ∙ untouched (path_numbered t k) None other ∙
            sym (ap (λ w. below (k + 1) (option_map (λ (r : Record). r.number) w)) e)
        by (Some r) e = ap (λ w. entered (path_numbered t k) (option_map (λ (r : Record). r.number) w)) e ∙ ⊎_elim
            (λ (same : r.number ≡ k).
            let here : path_numbered t k ≡ Some q = ap (path_numbered t) (sym same) ∙ (numbered_in t h q r e).0 in
            let a : nat_lt r.number (k + 1) ≡ true = lt-ltb r.number (k + 1) (omega (arith, same)) in
            ap (λ p. entered p (Some r.number)) here ∙ ap (λ o. cond (is_eq o) (Some k) (below k (Some r.number)))
            (tied_itself path_total q) ∙ ap Some (sym same) ∙ sym (ap (λ b. cond b (Some r.number) None) a))
            (λ (ne : r.number ≢ k).
            let other : path_numbered t k ≢ Some q = λ is.
            (let f = found_in t h k q is in
            let one : f.0 ≡ r = (let two : Some f.0 ≡ Some r = sym f.1 ∙ e in cc) in
            ne (ap (λ (w : Record). w.number) (sym one) ∙ f.2)) in
            untouched (path_numbered t k) (Some r.number) other ∙ below_kept k r.number ne)
            (cases_eq r.number k)
            ∙ sym (ap (λ w. below (k + 1) (option_map (λ (r : Record). r.number) w)) e)
