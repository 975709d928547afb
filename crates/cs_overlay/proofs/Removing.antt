-- A call that takes a file out.
use Rattle.std.proofs.Common.{◌≡◌, ◌≢◌, ◌+◌, ◌-◌, ◌≤◌, ◌==◌, ℕ, true, false, List, Option, None, Some, IsSome, refl, sym, ap, ◌∙◌, subst}
use Rattle.std.proofs.Common.{⊎_elim, arith}
use Rattle.std.proofs.lemmas.Bool.{cases_eq, eq-eqb, ne_eqb}
use Rattle.std.specs.Option.{is_some, option_map}
use Rattle.cs_tree_model.specs.declared.change.Stamp.{Stamp}
use Rattle.cs_tree_model.specs.Effects.{record_with_stamp}
use Rattle.cs_tree_model.specs.Laws.Changes.{set_node_here, set_node_other}
use Rattle.cs_tree_model.specs.Laws.Counts.{count_below, count_more}
use Rattle.cs_tree_model.specs.Laws.Lookups.{set_kid_other}
use Rattle.cs_tree_model.specs.Laws.Stores as laws
use Rattle.cs_tree_model.specs.Lookups.{IsIndexed, set_kid}
use Rattle.cs_tree_model.specs.Stores.{tree_without_file}
use Rattle.cs_tree_model.specs.Table as table
use Rattle.cs_tree_model.specs.Table.{set_node, tree_of, unset_node, with_file}
use Rattle.cs_tree_model.specs.Tree.{NameBytes, Tree, content_numbered, name_numbered, number_in, parent_numbered, record_numbered}
use Rattle.cs_overlay.specs.declared.node.Node.{Node}
use Rattle.cs_overlay.specs.Layers.{SameNodes, AreNodes, HasNode, IsOver, Upper, content_over, layered_lookup, layer_at, layers, shape_over}
use Rattle.cs_overlay.specs.Layers.{step_at, with_answer, with_at, with_stamp}
use Rattle.cs_overlay.proofs.Layering.{found_stay, layers_gone, nodes_gone, one_upper}
use Rattle.cs_overlay.proofs.Views.{found_is, name_here, parent_is}
use Rattle.cs_overlay.proofs.Linking.{found_touched, layers_touched, nodes_touched, unset_around}

module _ (t : Tree) (c : Upper) (next count : ℕ) (h : IsOver t c next count) (whole : Tree) (view : tree_of (layers t c) next ≡ whole)
    (n : ℕ) (not_root : n ≢ 0) (there : IsSome (record_numbered whole n)) (u : ℕ) (parent : Some u ≡ parent_numbered whole n)
    (x : NameBytes) (name : Some x ≡ name_numbered whole n) where
  -- the file by its directory and its name
  pub file : (d : table.Node) × (layers t c n ≡ Some (record d { parent = u; name = x }))
  file =
      let d = laws.node_there (layers t c) (layered_lookup t c) next h.indexed whole view n there in
      let up : d.0.parent ≡ u =
      (let two : Some u ≡ Some d.0.parent =
      parent ∙ sym (parent_is t c next count h whole view n) ∙ ap (option_map (λ (v : table.Node). v.parent)) d.1 in (cc)) in
      let own : d.0.name ≡ x =
      (let two : Some x ≡ Some d.0.name =
      name ∙ sym (name_here t c next count h whole view n not_root) ∙ ap (option_map (λ (v : table.Node). v.name)) d.1 in (cc)) in
      (d.0, d.1 ∙ (λ i. Some (record d.0 { parent = up i; name = own i })))

  abbrev pub d : table.Node
  d = record file.0 { parent = u; name = x }

  pub apart : n ≢ u
  apart e = laws.parent_apart (layers t c) (layered_lookup t c) next h.indexed whole view n d file.1 not_root (sym e)

  -- its directory has it under the name
  pub own_found : layered_lookup t c u x ≡ Some n
  own_found = h.indexed.links.listed n d file.1 not_root

  module _ (dir : Node) (here : c u ≡ Some (Some dir)) where
    pub shape_here : layers t c u ≡ Some (shape_over (content_numbered t u) dir)
    shape_here = ap (layer_at t u) here

    pub directory : content_over (content_numbered t u) dir.body ≡ None
    directory =
        let up = laws.node_above (layers t c) (layered_lookup t c) next h.indexed whole view n d file.1 not_root in
        let two : Some up.0 ≡ Some (shape_over (content_numbered t u) dir) = sym up.1 ∙ shape_here in
        let one : up.0 ≡ shape_over (content_numbered t u) dir = (cc) in
        ap (λ (v : table.Node). v.file.content) (sym one) ∙ up.2

  module _ (s : Stamp) (empty : (y : NameBytes) → number_in whole n y ≡ None) (has : HasNode c u) (c2 c3 e : Upper)
      (one : SameNodes (step_at c u (λ d. with_answer d x None)) c2) (two : SameNodes (step_at c2 u (λ d. with_stamp d s)) c3)
      (three : SameNodes (with_at c3 n (Some None)) e) where
    abbrev low : Option (List ℕ)
    low = content_numbered t u

    e_is : with_at c3 n (Some None) ≡ e
    e_is = one_upper _ e three

    layers_are : layers t e
        ≡ set_node (unset_node (layers t c) n) u (with_file (shape_over low has.0) (record_with_stamp s (shape_over low has.0).file))
    layers_are = ap (layers t) (sym e_is) ∙ layers_gone t c3 n ∙ ap (λ v. unset_node v n) (layers_touched t u x None s c has c2 c3 one two)
        ∙ unset_around (layers t c) n u apart (shape_over low (with_answer has.0 x None))
        (with_file (shape_over low has.0) (record_with_stamp s (shape_over low has.0).file))

    found3 : layered_lookup t c3 ≡ set_kid (layered_lookup t c) u x None
    found3 = found_touched t u x None s c has c2 c3 one two (directory has.0 has.1)

    leaf : (y : NameBytes) → None ≡ layered_lookup t c3 n y
    leaf y = sym
        (ap (λ k. k n y) found3 ∙ set_kid_other (layered_lookup t c) u x None n y (λ both. apart both.0) ∙ found_is t c next count h whole
        view n y ∙ empty y)

    found_are : layered_lookup t e ≡ set_kid (layered_lookup t c) u x None
    found_are = ap (layered_lookup t) (sym e_is) ∙ found_stay t c3 n (Some None) leaf ∙ found3

    fewer : count_below (layers t c) next ≡ count_below (layers t e) next + 1
    fewer = count_more (layers t e) (layers t c) n (ap is_some file.1)
        (ap is_some (ap (λ v. v n) layers_are ∙ set_node_other (unset_node (layers t c) n) u n _ apart ∙ unset_here))
        (λ m ne. ⊎_elim
        (λ (f : m ≡ u). ap (λ k. is_some (layers t c k)) f ∙ ap is_some (shape_here has.0 has.1) ∙ sym
        (ap (λ k. is_some (layers t e k)) f ∙ ap (λ v. is_some (v u)) layers_are ∙ ap is_some
        (set_node_here (unset_node (layers t c) n) u
        (with_file (shape_over low has.0) (record_with_stamp s (shape_over low has.0).file)))))
        (λ (nf : m ≢ u). sym
        (ap (λ v. is_some (v m)) layers_are ∙ ap is_some (set_node_other (unset_node (layers t c) n) u m _ nf ∙ unset_other m ne)))
        (cases_eq m u)) next (h.indexed.table.below n d file.1)
      where
        unset_here : unset_node (layers t c) n n ≡ None
        unset_here = (let b : n == n ≡ true = eq-eqb n n refl in rw b refl)

        unset_other : (m : ℕ) → m ≢ n → unset_node (layers t c) n m ≡ layers t c m
        unset_other m ne = (let b : m == n ≡ false = ne_eqb m n ne in rw b refl)

    pub some_count : 1 ≤ count
    some_count = omega (arith, h.counted, fewer)

    pub over_removed : IsOver t e next (count - 1)
    over_removed = record {
      tree = h.tree;
      above = h.above;
      indexed =
          subst (λ k. IsIndexed (layers t e) k next) (sym found_are)
          (subst (λ v. IsIndexed v (set_kid (layered_lookup t c) u x None) next) (sym layers_are)
          (laws.indexed_removed (layers t c) (layered_lookup t c) next h.indexed whole view n d file.1 not_root (shape_over low has.0)
          (shape_here has.0 has.1) s empty));
      nodes = subst (AreNodes t) e_is (nodes_gone t c3 n (nodes_touched t u x None s c has c2 c3 one two h.nodes));
      counted = omega (arith, h.counted, fewer);
    }

    pub tree_removed : tree_of (layers t e) next ≡ tree_without_file n s whole
    tree_removed =
        ap (λ v. tree_of v next) layers_are ∙ laws.tree_removed (layers t c) (layered_lookup t c) next h.indexed whole view n d file.1
        not_root (shape_over low has.0) (shape_here has.0 has.1) s empty
