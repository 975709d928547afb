-- A file in its directory, before a call that changes the directory's answers.
use Rattle.std.proofs.Common.{◌≡◌, ◌≢◌, ◌==◌, ℕ, true, false, Option, None, Some, refl, sym, ap, ◌∙◌, subst, ⊎_elim}
use Rattle.std.proofs.lemmas.Bool.{cases_eq, eq-eqb, ne_eqb}
use Rattle.cs_tree_model.specs.declared.change.Stamp.{Stamp}
use Rattle.cs_tree_model.specs.Effects.{record_with_stamp}
use Rattle.cs_tree_model.specs.Lookups.{set_kid}
use Rattle.cs_tree_model.specs.Record.{kind_of}
use Rattle.cs_tree_model.specs.Table as table
use Rattle.cs_tree_model.specs.Table.{Nodes, set_node, unset_node, with_file}
use Rattle.cs_tree_model.specs.Tree.{NameBytes, Tree, content_numbered}
use Rattle.cs_overlay.specs.declared.node.Node.{Node}
use Rattle.cs_overlay.specs.Layers.{SameNodes, AreNodes, HasNode, IsNode, Upper, content_over, layered_lookup, layers, shape_over, step_at}
use Rattle.cs_overlay.specs.Layers.{with_answer, with_at, with_stamp}
use Rattle.cs_overlay.proofs.Layering.{content_said, found_said, found_same, hides_said, layers_put, nodes_put, one_upper, step_here}
use Rattle.cs_overlay.proofs.Layering.{with_at_here}

-- ---- tables of the model in which the same numbers are set in another order

module _ (at : Nodes) (n u : ℕ) (apart : n ≢ u) (a b : table.Node) where
  pub unset_around : unset_node (set_node (set_node at u a) u b) n ≡ set_node (unset_node at n) u b
  unset_around = λ i q. each q i
    where
      each : (q : ℕ) → unset_node (set_node (set_node at u a) u b) n q ≡ set_node (unset_node at n) u b q
      each q = ⊎_elim
          (λ (e : q ≡ n). let t : q == n ≡ true = eq-eqb q n e in let s : q == u ≡ false = ne_eqb q u (λ f. apart (sym e ∙ f)) in
          rw (t, s) refl)
          (λ (ne : q ≢ n). let t : q == n ≡ false = ne_eqb q n ne in ⊎_elim
          (λ (f : q ≡ u). let s : q == u ≡ true = eq-eqb q u f in rw (t, s) refl)
          (λ (nf : q ≢ u). let s : q == u ≡ false = ne_eqb q u nf in rw (t, s) refl)
          (cases_eq q u))
          (cases_eq q n)

  pub set_around : (c : table.Node) → set_node (set_node (set_node at u a) u b) n c ≡ set_node (set_node at u b) n c
  set_around c = λ i q. each q i
    where
      each : (q : ℕ) → set_node (set_node (set_node at u a) u b) n c q ≡ set_node (set_node at u b) n c q
      each q = ⊎_elim
          (λ (f : q ≡ u). let s : q == u ≡ true = eq-eqb q u f in rw s refl)
          (λ (nf : q ≢ u). let s : q == u ≡ false = ne_eqb q u nf in rw s refl)
          (cases_eq q u)

  pub set_thrice : (c : table.Node) → set_node (set_node (set_node at n a) u b) n c ≡ set_node (set_node at n c) u b
  set_thrice c = λ i q. each q i
    where
      each : (q : ℕ) → set_node (set_node (set_node at n a) u b) n c q ≡ set_node (set_node at n c) u b q
      each q = ⊎_elim
          (λ (e : q ≡ n). let t : q == n ≡ true = eq-eqb q n e in let s : q == u ≡ false = ne_eqb q u (λ f. apart (sym e ∙ f)) in
          rw (t, s) refl)
          (λ (ne : q ≢ n). let t : q == n ≡ false = ne_eqb q n ne in rw t refl)
          (cases_eq q n)

-- what was put twice is what was put last
pub put_twice : (c : Upper) (k : ℕ) (v w : Option (Option Node)) → with_at (with_at c k v) k w ≡ with_at c k w
put_twice c k v w = λ i q. each q i
  where
    each : (q : ℕ) → with_at (with_at c k v) k w q ≡ with_at c k w q
    each q = ⊎_elim
        (λ (e : k ≡ q). let t : k == q ≡ true = eq-eqb k q e in rw t refl)
        (λ (ne : k ≢ q). let t : k == q ≡ false = ne_eqb k q ne in rw t refl)
        (cases_eq k q)

-- a directory with the answer o for x, stamped
module _ (t : Tree) (u : ℕ) (x : NameBytes) (o : Option ℕ) (s : Stamp) where
  pub shape_touched : (d : Node)
      → shape_over (content_numbered t u) (with_stamp (with_answer d x o) s)
      ≡ with_file (shape_over (content_numbered t u) d) (record_with_stamp s (shape_over (content_numbered t u) d).file)
  shape_touched d =
      λ i. record (shape_over (content_numbered t u) d) {
        file =
            record (record_with_stamp s (shape_over (content_numbered t u) d).file) {
              content =
                  content_said (content_numbered t u) d.body x o i;
            };
      }

  pub node_touched : (d : Node) → IsNode (content_numbered t u) u d → IsNode (content_numbered t u) u (with_stamp (with_answer d x o) s)
  node_touched d h = record {
    kind = h.kind ∙ ap kind_of (sym (content_said (content_numbered t u) d.body x o));
    named = h.named;
    hides = hides_said (content_numbered t u) d.body x o h.hides;
  }

  module _ (c : Upper) (has : HasNode c u) (c2 c3 : Upper) (one : SameNodes (step_at c u (λ d. with_answer d x o)) c2)
      (two : SameNodes (step_at c2 u (λ d. with_stamp d s)) c3) where
    pub answered : with_at c u (Some (Some (with_answer has.0 x o))) ≡ c2
    answered = sym (step_here t c u (λ d. with_answer d x o) has.0 has.1) ∙ one_upper _ c2 one

    pub answered_here : c2 u ≡ Some (Some (with_answer has.0 x o))
    answered_here = ap (λ v. v u) (sym answered) ∙ with_at_here t c u (Some (Some (with_answer has.0 x o)))

    pub touched : with_at c2 u (Some (Some (with_stamp (with_answer has.0 x o) s))) ≡ c3
    touched = sym (step_here t c2 u (λ d. with_stamp d s) (with_answer has.0 x o) answered_here) ∙ one_upper _ c3 two

    pub layers_touched : layers t c3
        ≡ set_node (set_node (layers t c) u (shape_over (content_numbered t u) (with_answer has.0 x o))) u
        (with_file (shape_over (content_numbered t u) has.0) (record_with_stamp s (shape_over (content_numbered t u) has.0).file))
    layers_touched = ap (layers t) (sym touched) ∙ layers_put t c2 u (with_stamp (with_answer has.0 x o) s)
        ∙ (λ i. set_node ((ap (layers t) (sym answered) ∙ layers_put t c u (with_answer has.0 x o)) i) u (shape_touched has.0 i))

    pub found_touched : content_over (content_numbered t u) has.0.body ≡ None → layered_lookup t c3 ≡ set_kid (layered_lookup t c) u x o
    found_touched directory =
        ap (layered_lookup t) (sym touched) ∙ found_same t c2 u (with_answer has.0 x o) (with_stamp (with_answer has.0 x o) s) answered_here
        (λ y. refl)
        ∙ ap (layered_lookup t) (sym answered) ∙ found_said t c u has.0 (with_answer has.0 x o) has.1 directory x o refl

    pub nodes_touched : AreNodes t c → AreNodes t c3
    nodes_touched nodes =
        subst (AreNodes t)
        (sym (put_twice c u (Some (Some (with_answer has.0 x o))) (Some (Some (with_stamp (with_answer has.0 x o) s)))) ∙ ap
        (λ v. with_at v u (Some (Some (with_stamp (with_answer has.0 x o) s)))) answered ∙ touched)
        (nodes_put t c u nodes (with_stamp (with_answer has.0 x o) s) (node_touched has.0 (nodes u has.0 has.1)))
