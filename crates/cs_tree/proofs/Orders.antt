-- Tables and look-ups in which the same places are set in another order.
use Rattle.std.proofs.Common.{◌≡◌, ◌≢◌, ◌==◌, ℕ, true, false, Option, refl, sym, ◌∙◌, ⊎_elim}
use Rattle.std.proofs.lemmas.Bool.{cases_eq, eq-eqb, ne_eqb}
use Rattle.cs_tree_model.specs.Laws.Lookups.{place_cases, set_kid_here, set_kid_other}
use Rattle.cs_tree_model.specs.Lookups.{Lookup, set_kid}
use Rattle.cs_tree_model.specs.Table as table
use Rattle.cs_tree_model.specs.Table.{Nodes, set_node}
use Rattle.cs_tree_model.specs.Tree.{NameBytes}

-- ---- tables of the model in which the same numbers are set in another order

module _ (at : Nodes) (n u : ℕ) (apart : n ≢ u) (a b c d : table.Node) where
  -- u, then n, then u again
  pub set_around : set_node (set_node (set_node at u a) n b) u c ≡ set_node (set_node at u c) n b
  set_around = λ i q. each q i
    where
      each : (q : ℕ) → set_node (set_node (set_node at u a) n b) u c q ≡ set_node (set_node at u c) n b q
      each q = ⊎_elim
          (λ (e : q ≡ u).
          let t : q == u ≡ true = eq-eqb q u e in
          let s : q == n ≡ false = ne_eqb q n (λ f. apart (sym f ∙ e)) in
          rw (t, s) refl)
          (λ (ne : q ≢ u). let t : q == u ≡ false = ne_eqb q u ne in rw t refl)
          (cases_eq q u)

  -- u, n, u and n again
  pub set_twice : set_node (set_node (set_node (set_node at u a) n b) u c) n d ≡ set_node (set_node at n d) u c
  set_twice = λ i q. each q i
    where
      each : (q : ℕ) → set_node (set_node (set_node (set_node at u a) n b) u c) n d q ≡ set_node (set_node at n d) u c q
      each q = ⊎_elim
          (λ (e : q ≡ n).
          let t : q == n ≡ true = eq-eqb q n e in
          let s : q == u ≡ false = ne_eqb q u (λ f. apart (sym e ∙ f)) in
          rw (t, s) refl)
          (λ (ne : q ≢ n). let t : q == n ≡ false = ne_eqb q n ne in ⊎_elim
          (λ (f : q ≡ u). let s : q == u ≡ true = eq-eqb q u f in rw (t, s) refl)
          (λ (nf : q ≢ u). let s : q == u ≡ false = ne_eqb q u nf in rw (t, s) refl)
          (cases_eq q u))
          (cases_eq q n)

-- two names of a directory can be set in either order
pub set_kid_swap : (k : Lookup) (u : ℕ) (x y : NameBytes) (v w : Option ℕ) → x ≢ y
    → set_kid (set_kid k u y v) u x w ≡ set_kid (set_kid k u x w) u y v
set_kid_swap k u x y v w apart = λ i a b. each a b i
  where
    each : (a : ℕ) (b : NameBytes) → set_kid (set_kid k u y v) u x w a b ≡ set_kid (set_kid k u x w) u y v a b
    each a b = ⊎_elim
        (λ (e : (a ≡ u) × (b ≡ x)).
        let no : (a ≡ u) × (b ≡ y) → ⊥ = λ f. apart (sym e.1 ∙ f.1) in
        (λ i. set_kid (set_kid k u y v) u x w (e.0 i) (e.1 i)) ∙ set_kid_here (set_kid k u y v) u x w
        ∙ sym (set_kid_other (set_kid k u x w) u y v a b no ∙ (λ i. set_kid k u x w (e.0 i) (e.1 i)) ∙ set_kid_here k u x w))
        (λ (ne : (a ≡ u) × (b ≡ x) → ⊥). set_kid_other (set_kid k u y v) u x w a b ne ∙ ⊎_elim
        (λ (f : (a ≡ u) × (b ≡ y)). (λ i. set_kid k u y v (f.0 i) (f.1 i)) ∙ set_kid_here k u y v ∙ sym
        ((λ i. set_kid (set_kid k u x w) u y v (f.0 i) (f.1 i)) ∙ set_kid_here (set_kid k u x w) u y v))
        (λ (nf : (a ≡ u) × (b ≡ y) → ⊥). set_kid_other k u y v a b nf ∙ sym
        (set_kid_other (set_kid k u x w) u y v a b nf ∙ set_kid_other k u x w a b ne))
        (place_cases u y a b))
        (place_cases u x a b)
