-- A call that changes one record.
use Rattle.std.proofs.Common.{◌≡◌, ℕ, [], List, Option, None, Some, IsSome, refl, sym, ap, ◌∙◌, subst, unwrap_or, ◌++◌, take, replicate}
use Rattle.std.proofs.lemmas.Bool.{false≢true}
use Rattle.std.specs.Option.{option_map, option_map_or, option_and_then}
use Rattle.cs_tree_model.specs.declared.change.Change.{Change}
use Rattle.cs_tree_model.specs.declared.change.Stamp.{Stamp}
use Rattle.cs_tree_model.specs.declared.record.Record.{Record}
use Rattle.cs_tree_model.specs.Effects.{change_at, bytes_after_write, rename, record_with_stamp}
use Rattle.cs_tree_model.specs.Laws.Stores as laws
use Rattle.cs_tree_model.specs.Lookups.{IsIndexed}
use Rattle.cs_tree_model.specs.Record.{IsDirectory, kind_of, record_of}
use Rattle.cs_tree_model.specs.Stores.{at_number, tree_with_change, changed_record, stamped_write, written_to}
use Rattle.cs_tree_model.specs.Table.{set_node, tree_of, with_file}
use Rattle.cs_tree_model.specs.Tree.{NameBytes, Tree, content_numbered, record_numbered}
use Rattle.cs_tree.specs.declared.node.Node.{Node}
use Rattle.cs_tree.specs.Held.{IsHeld, IsNode, child_lookup, model_nodes}
use Rattle.cs_tree.specs.declared.node.Body.{Body}
use Rattle.cs_tree.specs.declared.node.Body.TheVariants.{Directory, File}
use Rattle.cs_tree_model.specs.declared.record.Kind.{Kind}
use Rattle.cs_tree_model.specs.declared.record.MetadataBuf.{MetadataBuf}
use Rattle.cs_tree.specs.Node.{Alike, body_with_write, child_in, content_of, resized_bytes, shape_of, step_at, with_at}
use Rattle.cs_tree.specs.Node.{with_attributes, with_bytes, with_write}
use Rattle.cs_tree.proofs.Lookups.{node_there, file_there, content_is}
use Rattle.cs_tree.proofs.Tables.{kids_same, nodes_put, one_table, shapes_put, step_here}

module _ (at : ℕ → Option Node) (next : ℕ) (h : IsHeld at next) (t : Tree) (view : tree_of (model_nodes at) next ≡ t) where
  module _ (n : ℕ) (d : Node) (here : at n ≡ Some d) (e : Node) (f : Record → Record)
      (number : (f (shape_of d).file).number ≡ d.metadata.number) (kind : IsDirectory (shape_of d).file → IsDirectory (f (shape_of d).file))
      (shape : shape_of e ≡ with_file (shape_of d) (f (shape_of d).file))
      (children : (x : NameBytes) → child_in e.body x ≡ child_in d.body x) (node : IsNode n e)
      (g : ℕ → Option Node) (goes : Alike (with_at at n (Some e)) g) where
    shapes_are : model_nodes g ≡ set_node (model_nodes at) n (with_file (shape_of d) (f (shape_of d).file))
    shapes_are = ap model_nodes (sym (one_table _ g goes)) ∙ shapes_put at n e ∙ ap (set_node (model_nodes at) n) shape

    kids_are : child_lookup g ≡ child_lookup at
    kids_are = ap child_lookup (sym (one_table _ g goes)) ∙ kids_same at n d e here children

    pub held_changed : IsHeld g next
    held_changed = record {
      indexed =
          (subst (λ k. IsIndexed (model_nodes g) k next) (sym kids_are) (subst (λ v. IsIndexed v (child_lookup at) next) (sym shapes_are)
          (laws.indexed_changed (model_nodes at) (child_lookup at) next h.indexed t view n (shape_of d) (ap (option_map shape_of) here) f
          number kind)));
      nodes = subst (λ v. (m : ℕ) (c : Node) → v m ≡ Some c → IsNode m c) (one_table _ g goes) (nodes_put at n h.nodes e node);
    }

    pub tree_changed : tree_of (model_nodes g) next ≡ at_number n (λ p. change_at p f) t
    tree_changed =
        ap (λ v. tree_of v next) shapes_are ∙ laws.tree_changed (model_nodes at) (child_lookup at) next h.indexed t view n (shape_of d)
        (ap (option_map shape_of) here) f number kind

-- ---- bytes in a file

content_with_write : (b : Body) (k : ℕ) (w : List ℕ)
    → content_of (body_with_write b k w) ≡ option_map (bytes_after_write k w) (content_of b)
content_with_write (Directory m) k w = refl
content_with_write (File bytes) k w = refl

children_with_write : (b : Body) (k : ℕ) (w : List ℕ) (x : NameBytes) → child_in (body_with_write b k w) x ≡ child_in b x
children_with_write (Directory m) k w x = refl
children_with_write (File bytes) k w x = refl

module _ (at : ℕ → Option Node) (next : ℕ) (h : IsHeld at next) (t : Tree) (view : tree_of (model_nodes at) next ≡ t) (n : ℕ)
    (file : IsSome (content_numbered t n))
    (k : ℕ) (w : List ℕ) (s : Stamp) (g : ℕ → Option Node) (goes : Alike (step_at at n (λ d. with_write d k w s)) g) where
  found : (d : Node) × (at n ≡ Some d)
  found = node_there at next h t view n (file_there at next h t view n file)

  goes_there : Alike (with_at at n (Some (with_write found.0 k w s))) g
  goes_there q = goes q ∙ ap (λ v. v q) (step_here at n (λ d. with_write d k w s) found.0 found.1)

  shape : shape_of (with_write found.0 k w s) ≡ with_file (shape_of found.0) (stamped_write k w s (shape_of found.0).file)
  shape = λ i. record (shape_of found.0) {
    file = record (record_with_stamp s (shape_of found.0).file) { content = content_with_write found.0.body k w i };
  }

  written_node : IsNode n (with_write found.0 k w s)
  written_node = record { kind = refl; named = (h.nodes n found.0 found.1).named }

  pub held_written : IsHeld g next
  held_written =
      held_changed at next h t view n found.0 found.1 (with_write found.0 k w s) (stamped_write k w s) refl
      (ap (option_map (bytes_after_write k w))) shape (children_with_write found.0.body k w) written_node g goes_there

  pub tree_written : tree_of (model_nodes g) next ≡ written_to n k w s t
  tree_written =
      tree_changed at next h t view n found.0 found.1 (with_write found.0 k w s) (stamped_write k w s) refl
      (ap (option_map (bytes_after_write k w))) shape (children_with_write found.0.body k w) written_node g goes_there

-- ---- the fields of a change

-- what a length makes of a node's bytes
abbrev pub resized_of : Option ℕ → Body → Option (List ℕ)
resized_of length body = option_and_then (λ n. option_map (λ bytes. take n (bytes ++ replicate n 0)) (content_of body)) length

-- a node with the fields of a change but its name
abbrev pub with_fields : Change → Stamp → Node → Node
with_fields c s d = with_attributes (with_bytes d (resized_of c.length d.body) s) c.mode c.group c.mtime

module _ (p : ℕ) (x : Option NameBytes) (m : MetadataBuf) (kind : Kind) (name : Option NameBytes) (mode : Option ℕ)
    (group : Option (List ℕ)) (mtime : Option ℕ) (s : Stamp) where
  abbrev node : Body → Node
  node b = record { parent = p; name = x; metadata = m; body = b }

  abbrev change : Option ℕ → Change
  change length = record { name = name; length = length; mode = mode; group = group; mtime = mtime }

  file_with : (length : Option ℕ) (b : Body) → (IsSome length → IsSome (content_of b))
      → record_of (with_fields (change length) s (node b)).metadata (content_of (with_fields (change length) s (node b)).body)
      ≡ changed_record (change length) s (record_of m (content_of b))
  file_with None b is_file = refl
  file_with (Some n) (Directory c) is_file = absurd (false≢true (is_file refl))
  file_with (Some n) (File bytes) is_file = refl

  children_with : (length : Option ℕ) (b : Body) (y : NameBytes) → child_in (with_fields (change length) s (node b)).body y ≡ child_in b y
  children_with None b y = refl
  children_with (Some n) (Directory c) y = refl
  children_with (Some n) (File bytes) y = refl

  parent_with : (length : Option ℕ) (b : Body) → (with_fields (change length) s (node b)).parent ≡ p
  parent_with None b = refl
  parent_with (Some n) (Directory c) = refl
  parent_with (Some n) (File bytes) = refl

  name_with : (length : Option ℕ) (b : Body) → (with_fields (change length) s (node b)).name ≡ x
  name_with None b = refl
  name_with (Some n) (Directory c) = refl
  name_with (Some n) (File bytes) = refl

  kind_with : (length : Option ℕ) (b : Body) → m.kind ≡ kind_of (content_of b)
      → (with_fields (change length) s (node b)).metadata.kind ≡ kind_of (content_of (with_fields (change length) s (node b)).body)
  kind_with None b is = is
  kind_with (Some n) (Directory c) is = is
  kind_with (Some n) (File bytes) is = refl

module _ (c : Change) (s : Stamp) (d : Node) where
  pub file_changed : (IsSome c.length → IsSome (content_of d.body))
      → record_of (with_fields c s d).metadata (content_of (with_fields c s d).body)
      ≡ changed_record c s (record_of d.metadata (content_of d.body))
  file_changed = file_with d.parent d.name d.metadata d.metadata.kind c.name c.mode c.group c.mtime s c.length d.body

  pub parent_kept : (with_fields c s d).parent ≡ d.parent
  parent_kept = parent_with d.parent d.name d.metadata d.metadata.kind c.name c.mode c.group c.mtime s c.length d.body

  pub name_kept : (with_fields c s d).name ≡ d.name
  name_kept = name_with d.parent d.name d.metadata d.metadata.kind c.name c.mode c.group c.mtime s c.length d.body

  pub children_changed : (y : NameBytes) → child_in (with_fields c s d).body y ≡ child_in d.body y
  children_changed = children_with d.parent d.name d.metadata d.metadata.kind c.name c.mode c.group c.mtime s c.length d.body

  pub kind_changed : d.metadata.kind ≡ kind_of (content_of d.body)
      → (with_fields c s d).metadata.kind ≡ kind_of (content_of (with_fields c s d).body)
  kind_changed = kind_with d.parent d.name d.metadata d.metadata.kind c.name c.mode c.group c.mtime s c.length d.body

-- what was made of the bytes before a change is what the change makes of them
pub resized_here : (at : ℕ → Option Node) (n : ℕ) (d : Node) → at n ≡ Some d → (length : Option ℕ)
    → resized_bytes at n length ≡ resized_of length d.body
resized_here at n d here length =
    ap (λ o. option_and_then (λ m. option_map (λ bytes. take m (bytes ++ replicate m 0)) (option_and_then (λ v. content_of v.body) o))
    length) here

module _ (at : ℕ → Option Node) (next : ℕ) (h : IsHeld at next) (t : Tree) (view : tree_of (model_nodes at) next ≡ t) (n : ℕ)
    (there : IsSome (record_numbered t n)) (c : Change) (s : Stamp)
    (file : IsSome c.length → IsSome (content_numbered t n)) (bytes : Option (List ℕ)) (bytes_are : bytes ≡ resized_bytes at n c.length)
    (group : Option (List ℕ)) (group_is : group ≡ c.group) where
  pub node_of : (d : Node) × (at n ≡ Some d)
  node_of = node_there at next h t view n there

  pub file_of : IsSome c.length → IsSome (content_of node_of.0.body)
  file_of some = subst IsSome (sym (content_is at next h t view n) ∙ ap (option_and_then (λ d. content_of d.body)) node_of.1) (file some)

  -- the step that the table is given
  pub fields_are : (x : Option NameBytes) → with_attributes (with_bytes (record node_of.0 {
    name = x;
  }) bytes s) c.mode group c.mtime ≡ with_fields c s (record node_of.0 { name = x })
  fields_are x = λ i. with_attributes (with_bytes (record node_of.0 {
    name = x;
  }) ((bytes_are ∙ resized_here at n node_of.0 node_of.1 c.length) i) s) c.mode (group_is i) c.mtime

  module _ (no_name : c.name ≡ None) (g : ℕ → Option Node)
      (goes : Alike (step_at at n (λ d. with_attributes (with_bytes d bytes s) c.mode group c.mtime)) g) where
    goes_here : Alike (with_at at n (Some (with_fields c s node_of.0))) g
    goes_here q =
        goes q ∙ ap (λ v. v q) (step_here at n (λ d. with_attributes (with_bytes d bytes s) c.mode group c.mtime) node_of.0 node_of.1)
        ∙ ap (λ v. with_at at n (Some v) q) (fields_are node_of.0.name)

    new_shape : shape_of (with_fields c s node_of.0) ≡ with_file (shape_of node_of.0) (changed_record c s (shape_of node_of.0).file)
    new_shape = λ i. record {
      parent = parent_kept c s node_of.0 i;
      name = unwrap_or (name_kept c s node_of.0 i) [];
      file = file_changed c s node_of.0 file_of i;
    }

    new_node : IsNode n (with_fields c s node_of.0)
    new_node = record {
      kind = kind_changed c s node_of.0 (h.nodes n node_of.0 node_of.1).kind;
      named = λ z. subst IsSome (sym (name_kept c s node_of.0)) ((h.nodes n node_of.0 node_of.1).named z);
    }

    pub held_with_fields : IsHeld g next
    held_with_fields =
        held_changed at next h t view n node_of.0 node_of.1 (with_fields c s node_of.0) (changed_record c s)
        (laws.number_stays c.length s (shape_of node_of.0).file) (laws.directory_stays c.length s (shape_of node_of.0).file) new_shape
        (children_changed c s node_of.0) new_node g goes_here

    pub tree_with_fields : tree_of (model_nodes g) next ≡ tree_with_change n c s t
    tree_with_fields =
        tree_changed at next h t view n node_of.0 node_of.1 (with_fields c s node_of.0) (changed_record c s)
        (laws.number_stays c.length s (shape_of node_of.0).file) (laws.directory_stays c.length s (shape_of node_of.0).file) new_shape
        (children_changed c s node_of.0) new_node g goes_here
        ∙ ap (λ o. at_number n
        (λ p v. option_map_or (λ y. rename p y s (change_at p (changed_record c s) v)) o (change_at p (changed_record c s) v)) t)
        (sym no_name)
