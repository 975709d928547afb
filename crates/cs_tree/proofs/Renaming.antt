-- A call that gives a file another name.
use Rattle.std.proofs.Common.{◌≡◌, ◌≢◌, ◌+◌, ◌<◌, ◌^◌, ℕ, [], List, Option, None, Some, IsSome, IfSome, refl, sym, ap, ◌∙◌, subst}
use Rattle.std.proofs.Common.{unwrap_or}
use Rattle.std.proofs.lemmas.Bool.{false≢true}
use Rattle.std.specs.Option.{option_map, option_map_or, is_some}
use Rattle.cs_tree_model.specs.declared.change.Change.{Change}
use Rattle.cs_tree_model.specs.declared.change.Stamp.{Stamp}
use Rattle.cs_tree_model.specs.declared.record.Record.{Record}
use Rattle.cs_tree_model.specs.Effects.{change_at, rename, record_with_stamp}
use Rattle.cs_tree_model.specs.Laws.Stores as laws
use Rattle.cs_tree_model.specs.Lookups.{IsIndexed, set_kid}
use Rattle.cs_tree_model.specs.Record.{IsDirectory, kind_of}
use Rattle.cs_tree_model.specs.Stores.{CanStamp, at_number, tree_with_change, changed_record}
use Rattle.cs_tree_model.specs.Table.{set_node, tree_of, with_file}
use Rattle.cs_tree_model.specs.Tree.{NameBytes, Tree, content_numbered, number_in, parent_numbered, record_numbered}
use Rattle.cs_tree.specs.declared.node.Node.{Node}
use Rattle.cs_tree.specs.Held.{IsHeld, IsNode, child_lookup, model_nodes}
use Rattle.cs_tree.specs.Node.{Alike, CanStampNode, child_in, content_of, renamed, resized_bytes, shape_of, step_at, with_at}
use Rattle.cs_tree.specs.Node.{with_attributes, with_bytes, with_child, with_name, with_stamp, without_child}
use Rattle.cs_tree.proofs.Tables.{content_with_child, content_without_child, kids_same, kids_with, kids_without, nodes_put, one_table}
use Rattle.cs_tree.proofs.Tables.{shapes_put, step_here, with_at_here, with_at_other}
use Rattle.cs_tree.proofs.Changing.{children_changed, fields_are, file_changed, file_of, kind_changed, name_kept, node_of, parent_kept}
use Rattle.cs_tree.proofs.Changing.{with_fields}
use Rattle.cs_tree.proofs.Lookups.{can_stamp, parent_is}
use Rattle.cs_tree.proofs.Orders.{set_kid_swap, set_twice}
use Rattle.cs_tree.proofs.Removing.{above}

module _ (at : ℕ → Option Node) (next : ℕ) (h : IsHeld at next) (t : Tree) (view : tree_of (model_nodes at) next ≡ t) where
  module _ (n : ℕ) (d : Node) (here : at n ≡ Some d) (not_root : n ≢ 0) (s : Stamp) where
    shape_here : model_nodes at n ≡ Some (shape_of d)
    shape_here = ap (option_map shape_of) here

    abbrev own : NameBytes
    own = unwrap_or d.name []

    abbrev dir : Node
    dir = (above at next h t view n d here not_root s).0

    above_is : at d.parent ≡ Some dir
    above_is = (above at next h t view n d here not_root s).1

    above_directory : content_of dir.body ≡ None
    above_directory = (above at next h t view n d here not_root s).2

    shape_above : model_nodes at d.parent ≡ Some (shape_of dir)
    shape_above = ap (option_map shape_of) above_is

    apart : d.parent ≢ n
    apart = laws.parent_apart (model_nodes at) (child_lookup at) next h.indexed t view n (shape_of d) shape_here not_root

    was_above : IsNode d.parent dir
    was_above = h.nodes d.parent dir above_is

    module _ (y : NameBytes) where
      abbrev linked : Node
      linked = with_child dir y n

      abbrev touched : Node
      touched = with_stamp (without_child linked own) s

      abbrev first : ℕ → Option Node
      first = with_at at d.parent (Some linked)

      abbrev second : ℕ → Option Node
      second = with_at first n (Some (with_name d y))

      abbrev third : ℕ → Option Node
      third = with_at second d.parent (Some touched)

      first_here : first n ≡ Some d
      first_here = with_at_other at d.parent (Some linked) n (λ z. apart (sym z)) ∙ here

      second_above : second d.parent ≡ Some linked
      second_above = with_at_other first n (Some (with_name d y)) d.parent apart ∙ with_at_here at d.parent (Some linked)

      pub third_here : third n ≡ Some (with_name d y)
      third_here = with_at_other second d.parent (Some touched) n (λ z. apart (sym z)) ∙ with_at_here first n (Some (with_name d y))

      pub third_is : renamed at n d y s ≡ third
      third_is =
          ap (λ v. step_at (step_at v n (λ c. with_name c y)) d.parent (λ u. with_stamp (without_child u own) s))
          (step_here at d.parent (λ u. with_child u y n) dir above_is)
          ∙ ap (λ v. step_at v d.parent (λ u. with_stamp (without_child u own) s)) (step_here first n (λ c. with_name c y) d first_here)
          ∙ step_here second d.parent (λ u. with_stamp (without_child u own) s) linked second_above

      module _ (free : number_in t d.parent y ≡ None) (e : Node) (f : Record → Record)
          (number : (f (shape_of d).file).number ≡ d.metadata.number)
          (kind : IsDirectory (shape_of d).file → IsDirectory (f (shape_of d).file))
          (shape : shape_of e ≡ record {
            parent = d.parent;
            name = y;
            file = f (shape_of d).file;
          }) (children : (x : NameBytes) → child_in e.body x ≡ child_in d.body x) (node : IsNode n e)
          (step : Node → Node) (steps : step (with_name d y) ≡ e)
          (g : ℕ → Option Node) (goes : Alike (step_at (renamed at n d y s) n step) g) where
        g_is : with_at third n (Some e) ≡ g
        g_is = ap (λ c. with_at third n (Some c)) (sym steps) ∙ sym (step_here third n step (with_name d y) third_here) ∙ ap
            (λ v. step_at v n step) (sym third_is) ∙ one_table _ g goes

        shape_touched : shape_of touched ≡ with_file (shape_of dir) (record_with_stamp s (shape_of dir).file)
        shape_touched = λ i. record (shape_of dir) {
          file = record (record_with_stamp s (shape_of dir).file) {
            content =
                (content_without_child linked.body own ∙ content_with_child dir.body y n) i;
          };
        }

        shapes_are : model_nodes g ≡ set_node (set_node (model_nodes at) n (record {
          parent = d.parent;
          name = y;
          file = f (shape_of d).file;
        })) d.parent (with_file (shape_of dir) (record_with_stamp s (shape_of dir).file))
        shapes_are = ap model_nodes (sym g_is) ∙ shapes_put third n e
            ∙ ap (λ v. set_node v n (shape_of e)) (shapes_put second d.parent touched
            ∙ ap (λ v. set_node v d.parent (shape_of touched)) (shapes_put first n (with_name d y)
            ∙ ap (λ v. set_node v n (shape_of (with_name d y))) (shapes_put at d.parent linked)))
            ∙ set_twice (model_nodes at) n d.parent (λ z. apart (sym z)) (shape_of linked) (shape_of (with_name d y)) (shape_of touched)
            (shape_of e)
            ∙ (λ i. set_node (set_node (model_nodes at) n (shape i)) d.parent (shape_touched i))

        -- the old name isn't the new one
        names_apart : own ≢ y
        names_apart same =
            false≢true
            (ap is_some
            (sym (sym (laws.number_in_kids (model_nodes at) (child_lookup at) next h.indexed t view d.parent y) ∙ free) ∙ ap
            (child_lookup at d.parent) (sym same) ∙ h.indexed.links.listed n (shape_of d) shape_here not_root))

        kids_are : child_lookup g ≡ set_kid (set_kid (child_lookup at) d.parent own None) d.parent y (Some n)
        kids_are = ap child_lookup (sym g_is) ∙ kids_same third n (with_name d y) e third_here children
            ∙ kids_without second d.parent linked touched second_above own refl
            ∙ ap (λ k. set_kid k d.parent own None)
            (kids_same first n d (with_name d y) first_here (λ x. refl) ∙ kids_with at d.parent dir linked above_is above_directory y n
            refl)
            ∙ set_kid_swap (child_lookup at) d.parent own y (Some n) None names_apart

        was : IsNode n d
        was = h.nodes n d here

        content_touched : content_of touched.body ≡ content_of dir.body
        content_touched = content_without_child linked.body own ∙ content_with_child dir.body y n

        pub held_moved : IsHeld g next
        held_moved = record {
          indexed =
              (subst (λ k. IsIndexed (model_nodes g) k next) (sym kids_are)
              (subst (λ v. IsIndexed v (set_kid (set_kid (child_lookup at) d.parent own None) d.parent y (Some n)) next) (sym shapes_are)
              (laws.indexed_moved (model_nodes at) (child_lookup at) next h.indexed t view n (shape_of d) shape_here not_root (shape_of dir)
              shape_above s f number kind y free)));
          nodes = subst (λ v. (m : ℕ) (c : Node) → v m ≡ Some c → IsNode m c) g_is
              (nodes_put third n (nodes_put second d.parent (nodes_put first n (nodes_put at d.parent h.nodes linked
              (record { kind = was_above.kind ∙ ap kind_of (sym (content_with_child dir.body y n)); named = was_above.named }))
              (with_name d y) (record { kind = was.kind; named = λ _. refl }))
              touched (record { kind = was_above.kind ∙ ap kind_of (sym content_touched); named = was_above.named }))
              e node);
        }

        pub tree_moved : tree_of (model_nodes g) next ≡ at_number n (λ p v. rename p y s (change_at p f v)) t
        tree_moved =
            ap (λ v. tree_of v next) shapes_are ∙ laws.tree_moved (model_nodes at) (child_lookup at) next h.indexed t view n (shape_of d)
            shape_here not_root (shape_of dir) shape_above s f number kind y free

-- ---- the same from what a caller promises

module _ (at : ℕ → Option Node) (next : ℕ) (h : IsHeld at next) (t : Tree) (view : tree_of (model_nodes at) next ≡ t) (n : ℕ)
    (there : IsSome (record_numbered t n)) (c : Change) (s : Stamp)
    (file : IsSome c.length → IsSome (content_numbered t n)) (bytes : Option (List ℕ)) (bytes_are : bytes ≡ resized_bytes at n c.length)
    (group : Option (List ℕ)) (group_is : group ≡ c.group)
    (not_root : n ≢ 0) (y : NameBytes) (name : c.name ≡ Some y)
    (free : IfSome c.name (λ z. IfSome (parent_numbered t n) (λ u. number_in t u z ≡ None)))
    (moment : Stamp) (moment_is : moment ≡ s) (f : ℕ → Option Node) (renames : IfSome (at n) (λ d. Alike (renamed at n d y moment) f)) where
  abbrev d : Node
  d = (node_of at next h t view n there c s file bytes bytes_are group group_is).0

  d_here : at n ≡ Some d
  d_here = (node_of at next h t view n there c s file bytes bytes_are group group_is).1

  free_above : number_in t d.parent y ≡ None
  free_above =
      subst (λ o. IfSome o (λ u. number_in t u y ≡ None)) (sym (parent_is at next h t view n) ∙ ap (option_map (λ v. v.parent)) d_here)
      (subst (λ o. IfSome o (λ z. IfSome (parent_numbered t n) (λ u. number_in t u z ≡ None))) name free)

  renamed_is : renamed at n d y s ≡ f
  renamed_is =
      one_table _ f
      (subst (λ m. Alike (renamed at n d y m) f) moment_is (subst (λ o. IfSome o (λ v. Alike (renamed at n v y moment) f)) d_here renames))

  pub can_stamp_renamed : CanStamp t n → CanStampNode f n
  can_stamp_renamed can = subst (λ o. IfSome o (λ v. v.metadata.vers + 1 < 2 ^ 32))
      (sym (ap (λ v. v n) (sym renamed_is ∙ third_is at next h t view n d d_here not_root s y) ∙ third_here at next h t view n d d_here
      not_root s y))
      (subst (λ o. IfSome o (λ v. v.metadata.vers + 1 < 2 ^ 32)) d_here (can_stamp at next h t view n can))

  module _ (g : ℕ → Option Node) (goes : Alike (step_at f n (λ v. with_attributes (with_bytes v bytes s) c.mode group c.mtime)) g) where
    abbrev named : Node
    named = with_name d y

    goes_on : Alike (step_at (renamed at n d y s) n (λ v. with_attributes (with_bytes v bytes s) c.mode group c.mtime)) g
    goes_on = subst (λ v. Alike (step_at v n (λ w. with_attributes (with_bytes w bytes s) c.mode group c.mtime)) g) (sym renamed_is) goes

    steps : with_attributes (with_bytes named bytes s) c.mode group c.mtime ≡ with_fields c s named
    steps = fields_are at next h t view n there c s file bytes bytes_are group group_is (Some y)

    is_file : IsSome c.length → IsSome (content_of d.body)
    is_file = file_of at next h t view n there c s file bytes bytes_are group group_is

    new_shape : shape_of (with_fields c s named) ≡ record { parent = d.parent; name = y; file = changed_record c s (shape_of d).file }
    new_shape = λ i. record {
      parent = parent_kept c s named i;
      name = unwrap_or (name_kept c s named i) [];
      file = file_changed c s named is_file i;
    }

    new_node : IsNode n (with_fields c s named)
    new_node = record {
      kind = kind_changed c s named (h.nodes n d d_here).kind;
      named = λ z. subst IsSome (sym (name_kept c s named)) refl;
    }

    pub held_after_rename : IsHeld g next
    held_after_rename =
        held_moved at next h t view n d d_here not_root s y free_above (with_fields c s named) (changed_record c s)
        (laws.number_stays c.length s (shape_of d).file) (laws.directory_stays c.length s (shape_of d).file) new_shape
        (children_changed c s named) new_node
        (λ v. with_attributes (with_bytes v bytes s) c.mode group c.mtime) steps g goes_on

    pub tree_after_rename : tree_of (model_nodes g) next ≡ tree_with_change n c s t
    tree_after_rename =
        tree_moved at next h t view n d d_here not_root s y free_above (with_fields c s named) (changed_record c s)
        (laws.number_stays c.length s (shape_of d).file) (laws.directory_stays c.length s (shape_of d).file) new_shape
        (children_changed c s named) new_node
        (λ v. with_attributes (with_bytes v bytes s) c.mode group c.mtime) steps g goes_on
        ∙ ap (λ o. at_number n
        (λ p v. option_map_or (λ z. rename p z s (change_at p (changed_record c s) v)) o (change_at p (changed_record c s) v)) t)
        (sym name)
