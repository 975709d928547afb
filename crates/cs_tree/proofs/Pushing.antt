-- A record that follows those of the tree.
use Rattle.std.proofs.Common.{◌≡◌, ◌≢◌, ◌+◌, ◌<◌, ◌≤◌, ℕ, Bool, true, false, not, if◌then◌else◌, [], ◌∷◌, ◌++◌, Option, None, Some, IsSome}
use Rattle.std.proofs.Common.{refl, sym, ap, ◌∙◌, subst, ⊎_elim, unwrap_or, arith}
use Rattle.std.proofs.lemmas.Bool.{cases_eq}
use Rattle.std.specs.FinMap as map
use Rattle.std.specs.Option.{option_map}
use Rattle.cs_tree_model.specs.declared.record.Record.{Record}
use Rattle.cs_tree_model.specs.Laws.Changes.{set_node_here, set_node_other}
use Rattle.cs_tree_model.specs.Laws.Listings.{table_with, tree_with, directory_node, place_of, follows_in}
use Rattle.cs_tree_model.specs.Laws.Lookups.{links_more}
use Rattle.cs_tree_model.specs.Laws.Paths.{option_cases}
use Rattle.cs_tree_model.specs.Laws.Stores as laws
use Rattle.cs_tree_model.specs.Laws.Walks.{number_in_record}
use Rattle.cs_tree_model.specs.Listing.{Follows, IsPlace}
use Rattle.cs_tree_model.specs.Lookups.{IsIndexed, set_kid}
use Rattle.cs_tree_model.specs.Record.{IsMarked, is_directory, is_marked, kind_of}
use Rattle.cs_tree_model.specs.Mode.{is_directory_mode}
use Rattle.cs_tree_model.specs.Table as table
use Rattle.cs_tree_model.specs.Table.{Nodes, set_node, tree_of, path_of}
use Rattle.cs_tree_model.specs.Tree.{NameBytes, Path, Tree, number_at, number_in, record_at}
use Rattle.cs_tree.specs.declared.node.Node.{Node}
use Rattle.cs_tree.specs.Held.{IsHeld, IsNode, child_lookup, model_nodes}
use Rattle.cs_tree.specs.Node.{Alike, IsNodeOf, content_of, shape_of, step_at, with_at, with_child}
use Rattle.cs_tree.proofs.Lookups.{is_tree, next_is}
use Rattle.cs_tree.proofs.Tables.{content_with_child, kids_new, kids_with, node_behind, nodes_put, one_table, shapes_put, step_here}
use Rattle.cs_tree.proofs.Tables.{with_at_other}

-- the test of a mode answers whether the mode is right
told : (d m : Bool) → (if d then m else not m) ≡ true → m ≡ d
told true true e = refl
told true false e = e
told false true e = sym e
told false false e = refl

tells : (d m : Bool) → m ≡ d → (if d then m else not m) ≡ true
tells true true e = refl
tells true false e = e
tells false true e = sym e
tells false false e = refl

pub marked_if_tested : (r : Record) → is_marked r ≡ true → IsMarked r
marked_if_tested r = told (is_directory r.content) (is_directory_mode r.mode)

pub tested_if_marked : (r : Record) → IsMarked r → is_marked r ≡ true
tested_if_marked r = tells (is_directory r.content) (is_directory_mode r.mode)

-- a table in which a number's node is put again is the same
set_again : (at : Nodes) (k : ℕ) (d : table.Node) → at k ≡ Some d → set_node at k d ≡ at
set_again at k d here = λ i q. each q i
  where
    each : (q : ℕ) → set_node at k d q ≡ at q
    each q = ⊎_elim
        (λ (e : q ≡ k). ap (set_node at k d) e ∙ set_node_here at k d ∙ sym here ∙ ap at (sym e))
        (λ (ne : q ≢ k). set_node_other at k q d ne)
        (cases_eq q k)

module _ (at : ℕ → Option Node) (next : ℕ) (h : IsHeld at next) (p : Path) (u : ℕ) (x : NameBytes)
    (place : IsPlace (tree_of (model_nodes at) next) p u x) where
  free : record_at (tree_of (model_nodes at) next) (place.parent ++ x ∷ []) ≡ None
  free = ap (record_at (tree_of (model_nodes at) next)) (sym place.path) ∙ place.free

  -- the node of the directory
  directory : (o : Node) × (at u ≡ Some o) × (content_of o.body ≡ None)
  directory =
      let d = directory_of in
      let b = node_behind at place.directory.number d.0 d.1 in
      (b.0, ap at (sym place.number) ∙ b.1, ap (λ (w : table.Node). w.file.content) b.2 ∙ ap (λ (w : Record). w.content) d.2 ∙ place.kind)
    where
      directory_of : (w : table.Node) × (model_nodes at place.directory.number ≡ Some w) × (w.file ≡ place.directory)
          × (path_of (model_nodes at) place.directory.number ≡ place.parent)
      directory_of = directory_node (model_nodes at) next h.indexed.table place.parent x place.directory (record place.directory {
        number = next;
      }) place.there place.kind free (omega arith)

  lower : u < next
  lower = h.indexed.table.below u (shape_of directory.0) (ap (option_map shape_of) directory.1)

  -- the name is free in the directory
  free_kid : child_lookup at u x ≡ None
  free_kid =
      sym (laws.number_in_kids (model_nodes at) (child_lookup at) next h.indexed (tree_of (model_nodes at) next) refl u x)
      ∙ ap (λ k. number_in (tree_of (model_nodes at) next) k x) (sym place.number)
      ∙ number_in_record (tree_of (model_nodes at) next) (is_tree at next h (tree_of (model_nodes at) next) refl) place.parent
      place.directory x place.there
      ∙ ap (λ q. number_at (tree_of (model_nodes at) next) q) (sym place.path)
      ∙ ap (option_map (λ (r : Record). r.number)) place.free

  module _ (r : Record) (above : next ≤ r.number) (node : Node) (made : IsNodeOf u (Some x) r node) where
    absent : at r.number ≡ None
    absent = ⊎_elim
        (λ (none : at r.number ≡ None). none)
        (λ (some : (o : Node) × (at r.number ≡ Some o)). let less =
        h.indexed.table.below r.number (shape_of some.0) (ap (option_map shape_of) some.1) in absurd (omega arith))
        (option_cases (at r.number))

    apart : r.number ≢ u
    apart e = (let less = lower in omega (arith, e))

    not_root : r.number ≢ 0
    not_root z = (let less = lower in omega (arith, z))

    abbrev linked : Node
    linked = with_child directory.0 x r.number

    abbrev first : ℕ → Option Node
    first = with_at at u (Some linked)

    first_absent : first r.number ≡ None
    first_absent = with_at_other at u (Some linked) r.number apart ∙ absent

    abbrev fresh : table.Node
    fresh = record { parent = place.directory.number; name = x; file = r }

    shape_new : shape_of node ≡ fresh
    shape_new = λ i. record { parent = (made.parent_is ∙ sym place.number) i; name = unwrap_or (made.name_is i) []; file = made.file_is i }

    shape_linked : shape_of linked ≡ shape_of directory.0
    shape_linked = λ i. record (shape_of directory.0) {
      file = record (shape_of directory.0).file { content = content_with_child directory.0.body x r.number i };
    }

    shapes_first : model_nodes first ≡ model_nodes at
    shapes_first =
        shapes_put at u linked ∙ ap (set_node (model_nodes at) u) shape_linked ∙ set_again (model_nodes at) u (shape_of directory.0)
        (ap (option_map shape_of) directory.1)

    was : IsNode u directory.0
    was = h.nodes u directory.0 directory.1

    module _ (g : ℕ → Option Node) (grows : Alike (with_at (step_at at u (λ d. with_child d x r.number)) r.number (Some node)) g) where
      g_is : with_at first r.number (Some node) ≡ g
      g_is = ap (λ v. with_at v r.number (Some node)) (sym (step_here at u (λ d. with_child d x r.number) directory.0 directory.1)) ∙
          one_table _ g grows

      shapes_are : model_nodes g ≡ set_node (model_nodes at) r.number fresh
      shapes_are = ap model_nodes (sym g_is) ∙ shapes_put first r.number node ∙ (λ i. set_node (shapes_first i) r.number (shape_new i))

      kids_are : child_lookup g ≡ set_kid (child_lookup at) place.directory.number x (Some r.number)
      kids_are =
          ap child_lookup (sym g_is) ∙ kids_new first r.number node first_absent made.childless ∙ kids_with at u directory.0 linked
          directory.1 directory.2 x r.number refl
          ∙ ap (λ k. set_kid (child_lookup at) k x (Some r.number)) (sym place.number)

      pub held_pushed : IsHeld g (r.number + 1)
      held_pushed = record {
        indexed =
            subst (λ k. IsIndexed (model_nodes g) k (r.number + 1)) (sym kids_are)
            (subst (λ v. IsIndexed v (set_kid (child_lookup at) place.directory.number x (Some r.number)) (r.number + 1)) (sym shapes_are)
            (record {
              table = table_with (model_nodes at) next h.indexed.table place.parent x place.directory r place.there place.kind free above;
              links = links_more (model_nodes at) (child_lookup at) h.indexed.links r.number (ap (option_map shape_of) absent) not_root
                  fresh
                  (ap (λ k. child_lookup at k x) place.number ∙ free_kid);
            }));
        nodes = subst (λ v. (m : ℕ) (c : Node) → v m ≡ Some c → IsNode m c) g_is
            (nodes_put first r.number (nodes_put at u h.nodes linked
            (record { kind = was.kind ∙ ap kind_of (sym (content_with_child directory.0.body x r.number)); named = was.named }))
            node (record { kind = made.kind_is; named = λ _. subst IsSome (sym made.name_is) refl }));
      }

      pub tree_pushed : tree_of (model_nodes g) (r.number + 1) ≡ record {
        files = map.insert (tree_of (model_nodes at) next).files p r;
        next = r.number + 1;
      }
      tree_pushed = ap (λ v. tree_of v (r.number + 1)) shapes_are
          ∙ tree_with (model_nodes at) next h.indexed.table place.parent x place.directory r place.there place.kind free above
          ∙ (λ i. record { files = map.insert (tree_of (model_nodes at) next).files (sym place.path i) r; next = r.number + 1 })

-- ---- the same of any tree that the table makes, as a value's view

module _ (at : ℕ → Option Node) (next : ℕ) (h : IsHeld at next) (t : Tree) (view : tree_of (model_nodes at) next ≡ t) (names p : Path)
    (same : names ≡ p) where
  -- no record follows with an old number
  pub refuses_number : (r : Record) → r.number < next → Follows t.files t.next p r → ⊥
  refuses_number r low f = (let e = next_is at next h t view in let above = f.above in omega arith)

  -- and none without a place
  pub refuses_path : (r : Record) → ((u : ℕ) (x : NameBytes) → IsPlace t names u x → ⊥) → Follows t.files t.next p r → ⊥
  refuses_path r none f =
      let root = (is_tree at next h t view).root in
      let w = place_of t root.0 root.1 p r f in
      none w.0 w.1 (subst (λ q. IsPlace t q w.0 w.1) (sym same) w.2)

  module _ (u : ℕ) (x : NameBytes) (w : IsPlace t names u x) where
    pub follows : (r : Record) → next ≤ r.number → IsMarked r → Follows t.files t.next p r
    follows r above marked =
        follows_in t p r u x (subst (λ q. IsPlace t q u x) same w) (subst (λ k. k ≤ r.number) (sym (next_is at next h t view)) above) marked

    -- the directory of the place is there
    pub place_there : IsSome (at u)
    place_there = subst IsSome
        (sym (directory at next h p u x (subst (λ v. IsPlace v p u x) (sym view) (subst (λ q. IsPlace t q u x) same w))).1) refl

    module _ (r : Record) (above : next ≤ r.number) (label : NameBytes) (same_label : label ≡ x) (node : Node)
        (made : IsNodeOf u (Some label) r node)
        (key : NameBytes) (same_key : key ≡ x) (g : ℕ → Option Node)
        (grows : Alike (with_at (step_at at u (λ d. with_child d key r.number)) r.number (Some node)) g) where
      place_in : IsPlace (tree_of (model_nodes at) next) p u x
      place_in = subst (λ v. IsPlace v p u x) (sym view) (subst (λ q. IsPlace t q u x) same w)

      made_so : IsNodeOf u (Some x) r node
      made_so = subst (λ y. IsNodeOf u (Some y) r node) same_label made

      grows_so : Alike (with_at (step_at at u (λ d. with_child d x r.number)) r.number (Some node)) g
      grows_so = subst (λ k. Alike (with_at (step_at at u (λ d. with_child d k r.number)) r.number (Some node)) g) same_key grows

      pub held_after_push : IsHeld g (r.number + 1)
      held_after_push = held_pushed at next h p u x place_in r above node made_so g grows_so

      pub tree_after_push : tree_of (model_nodes g) (r.number + 1) ≡ record { files = map.insert t.files p r; next = r.number + 1 }
      tree_after_push = tree_pushed at next h p u x place_in r above node made_so g grows_so ∙ ap (λ v. record {
        files = map.insert v.files p r;
        next = r.number + 1;
      }) view
