-- A call that removes a file.
use Rattle.std.proofs.Common.{◌≡◌, ◌≢◌, ℕ, [], Option, None, Some, IsSome, IfSome, refl, sym, ap, ◌∙◌, subst, unwrap_or}
use Rattle.std.specs.Option.{option_map}
use Rattle.cs_tree_model.specs.declared.change.Stamp.{Stamp}
use Rattle.cs_tree_model.specs.Effects.{record_with_stamp}
use Rattle.cs_tree_model.specs.Laws.Stores as laws
use Rattle.cs_tree_model.specs.Lookups.{IsIndexed, set_kid}
use Rattle.cs_tree_model.specs.Record.{kind_of}
use Rattle.cs_tree_model.specs.Stores.{tree_without_file}
use Rattle.cs_tree_model.specs.Table as table
use Rattle.cs_tree_model.specs.Table.{set_node, tree_of, unset_node, with_file}
use Rattle.cs_tree_model.specs.Tree.{NameBytes, Tree, number_in, record_numbered}
use Rattle.cs_tree.specs.declared.node.Node.{Node}
use Rattle.cs_tree.specs.Held.{IsHeld, IsNode, child_lookup, model_nodes}
use Rattle.cs_tree.specs.Node.{Alike, content_of, shape_of, with_at, with_stamp, without_child, without_node}
use Rattle.cs_tree.proofs.Lookups.{node_there}
use Rattle.cs_tree.proofs.Tables.{content_without_child, kids_gone, kids_without, node_behind, nodes_gone, nodes_put, one_table}
use Rattle.cs_tree.proofs.Tables.{shapes_gone, shapes_put, step_here, with_at_other}

module _ (at : ℕ → Option Node) (next : ℕ) (h : IsHeld at next) (t : Tree) (view : tree_of (model_nodes at) next ≡ t) where
  module _ (n : ℕ) (d : Node) (here : at n ≡ Some d) (not_root : n ≢ 0) (s : Stamp) where
    shape_here : model_nodes at n ≡ Some (shape_of d)
    shape_here = ap (option_map shape_of) here

    abbrev own : NameBytes
    own = unwrap_or d.name []

    pub above : (dir : Node) × (at d.parent ≡ Some dir) × (content_of dir.body ≡ None)
    above =
        let u = laws.node_above (model_nodes at) (child_lookup at) next h.indexed t view n (shape_of d) shape_here not_root in
        let b = node_behind at d.parent u.0 u.1 in
        (b.0, b.1, ap (λ (w : table.Node). w.file.content) b.2 ∙ u.2)

    pub is_above : IsSome (at d.parent)
    is_above = subst IsSome (sym above.1) refl

    abbrev dir : Node
    dir = above.0

    shape_above : model_nodes at d.parent ≡ Some (shape_of dir)
    shape_above = ap (option_map shape_of) above.1

    apart : d.parent ≢ n
    apart = laws.parent_apart (model_nodes at) (child_lookup at) next h.indexed t view n (shape_of d) shape_here not_root

    was_above : IsNode d.parent dir
    was_above = h.nodes d.parent dir above.1

    module _ (empty : (x : NameBytes) → number_in t n x ≡ None) (g : ℕ → Option Node) (goes : Alike (without_node at n d s) g) where
      abbrev without : ℕ → Option Node
      without = with_at at n None

      abbrev touched : Node
      touched = with_stamp (without_child dir own) s

      without_above : without d.parent ≡ Some dir
      without_above = with_at_other at n None d.parent apart ∙ above.1

      g_is : with_at without d.parent (Some touched) ≡ g
      g_is = sym (step_here without d.parent (λ u. with_stamp (without_child u own) s) dir without_above) ∙ one_table _ g goes

      shape_touched : shape_of touched ≡ with_file (shape_of dir) (record_with_stamp s (shape_of dir).file)
      shape_touched = λ i. record (shape_of dir) {
        file = record (record_with_stamp s (shape_of dir).file) { content = content_without_child dir.body own i };
      }

      shapes_are : model_nodes g
          ≡ set_node (unset_node (model_nodes at) n) d.parent (with_file (shape_of dir) (record_with_stamp s (shape_of dir).file))
      shapes_are =
          ap model_nodes (sym g_is) ∙ shapes_put without d.parent touched ∙ (λ i. set_node (shapes_gone at n i) d.parent (shape_touched i))

      leaf : (x : NameBytes) → child_lookup at n x ≡ None
      leaf x = sym (laws.number_in_kids (model_nodes at) (child_lookup at) next h.indexed t view n x) ∙ empty x

      kids_are : child_lookup g ≡ set_kid (child_lookup at) d.parent own None
      kids_are =
          ap child_lookup (sym g_is) ∙ kids_without without d.parent dir touched without_above own refl ∙ ap
          (λ k. set_kid k d.parent own None) (kids_gone at n leaf)

      pub held_removed : IsHeld g next
      held_removed = record {
        indexed =
            (subst (λ k. IsIndexed (model_nodes g) k next) (sym kids_are)
            (subst (λ v. IsIndexed v (set_kid (child_lookup at) d.parent own None) next) (sym shapes_are)
            (laws.indexed_removed (model_nodes at) (child_lookup at) next h.indexed t view n (shape_of d) shape_here not_root (shape_of dir)
            shape_above s empty)));
        nodes = subst (λ v. (m : ℕ) (c : Node) → v m ≡ Some c → IsNode m c) g_is
            (nodes_put without d.parent (nodes_gone at n h.nodes) touched
            (record { kind = was_above.kind ∙ ap kind_of (sym (content_without_child dir.body own)); named = was_above.named }));
      }

      pub tree_removed : tree_of (model_nodes g) next ≡ tree_without_file n s t
      tree_removed =
          ap (λ v. tree_of v next) shapes_are ∙ laws.tree_removed (model_nodes at) (child_lookup at) next h.indexed t view n (shape_of d)
          shape_here not_root (shape_of dir) shape_above s empty

module _ (at : ℕ → Option Node) (next : ℕ) (h : IsHeld at next) (t : Tree) (view : tree_of (model_nodes at) next ≡ t) (n : ℕ)
    (not_root : n ≢ 0) (there : IsSome (record_numbered t n)) (s : Stamp) where
  -- the file's directory is there
  pub parent_there : IfSome (at n) (λ d. IsSome (at d.parent))
  parent_there =
      let found : (d : Node) × (at n ≡ Some d) = node_there at next h t view n there in
      subst (λ o. IfSome o (λ d. IsSome (at d.parent))) (sym found.1) (is_above at next h t view n found.0 found.1 not_root s)

-- ---- the same from what a caller promises

module _ (at : ℕ → Option Node) (next : ℕ) (h : IsHeld at next) (t : Tree) (view : tree_of (model_nodes at) next ≡ t) (n : ℕ)
    (not_root : n ≢ 0) (there : IsSome (record_numbered t n)) (s : Stamp)
    (empty : (x : NameBytes) → number_in t n x ≡ None) (g : ℕ → Option Node)
    (goes : IfSome (at n) (λ d. Alike (without_node at n d s) g)) where
  found : (d : Node) × (at n ≡ Some d)
  found = node_there at next h t view n there

  goes_there : Alike (without_node at n found.0 s) g
  goes_there = subst (λ o. IfSome o (λ d. Alike (without_node at n d s) g)) found.1 goes

  pub held_after_remove : IsHeld g next
  held_after_remove = held_removed at next h t view n found.0 found.1 not_root s empty g goes_there

  pub tree_after_remove : tree_of (model_nodes g) next ≡ tree_without_file n s t
  tree_after_remove = tree_removed at next h t view n found.0 found.1 not_root s empty g goes_there
