-- What the overlay's files say of the tree that they make.
use Rattle.std.proofs.Common.{◌≡◌, ◌≢◌, ℕ, zero, suc, [], Option, None, Some, IsSome, refl, sym, ap, ◌∙◌, subst, take, drop, arith}
use Rattle.std.proofs.lemmas.Bool.{false≢true}
use Rattle.std.specs.FinMap.{len}
use Rattle.std.specs.Option.{option_map, option_and_then, is_some}
use Rattle.cs_tree_model.specs.declared.record.MetadataBuf.{MetadataBuf}
use Rattle.cs_tree_model.specs.declared.record.Record.{Record}
use Rattle.cs_tree_model.specs.Laws.Counts.{len-files}
use Rattle.cs_tree_model.specs.Laws.Lookups.{links_of_tree, tree_round}
use Rattle.cs_tree_model.specs.Laws.Paths.{path_of_root, path_step, unwrapped}
use Rattle.cs_tree_model.specs.Laws.Round.{last_of_snoc, table_of_tree}
use Rattle.cs_tree_model.specs.Laws.Stores as laws
use Rattle.cs_tree_model.specs.Lookups.{IsIndexed, Lookup}
use Rattle.cs_tree_model.specs.Record.{metadata_of}
use Rattle.cs_tree_model.specs.Table as table
use Rattle.cs_tree_model.specs.Table.{Nodes, node_in, path_of, tree_of}
use Rattle.cs_tree_model.specs.Tree.{IsTree, NameBytes, Tree, bytes_at, content_numbered, last_name, name_numbered, number_in}
use Rattle.cs_tree_model.specs.Tree.{parent_numbered, record_numbered}
use Rattle.cs_overlay.specs.declared.node.Node.{Node}
use Rattle.cs_overlay.specs.Layers.{IsOver, Upper, content_at, layered_lookup, layer_at, layers, metadata_at, own_name_at, parent_at}
use Rattle.cs_overlay.specs.Layers.{shape_over}

-- ---- a table's tree, by number

abbrev name_at : ℕ → Option table.Node → Option NameBytes
name_at zero o = None
name_at (suc n) o = option_map (λ d. d.name) o

module _ (at : Nodes) (kids : Lookup) (next : ℕ) (h : IsIndexed at kids next) (t : Tree) (view : tree_of at next ≡ t) where
  names : (n : ℕ) → name_numbered t n ≡ name_at n (at n)
  names n = ap (option_and_then last_name) (laws.path_in at kids next h t view n) ∙ by n (at n) refl
    where
      by : (n : ℕ) (o : Option table.Node) → at n ≡ o → option_and_then last_name (option_map (λ _. path_of at n) (at n)) ≡ name_at n (at n)
      by zero None e = ap (λ w. option_and_then last_name (option_map (λ _. path_of at 0) w)) e
      by zero (Some d) e = ap (λ w. option_and_then last_name (option_map (λ _. path_of at 0) w)) e ∙ ap last_name (path_of_root at)
      by (suc n) None e =
          ap (λ w. option_and_then last_name (option_map (λ _. path_of at (suc n)) w)) e ∙ ap (option_map (λ (d : table.Node). d.name))
          (sym e)
      by (suc n) (Some d) e = ap (λ w. option_and_then last_name (option_map (λ _. path_of at (suc n)) w)) e
          ∙ ap last_name (path_step at h.table.parent_below (suc n) d e (λ z. (cc))) ∙ last_of_snoc (path_of at d.parent) d.name
          ∙ ap (option_map (λ (v : table.Node). v.name)) (sym e)

-- ---- the lower tree

pub indexed_of : (t : Tree) → IsTree t → IsIndexed (node_in t) (number_in t) t.next
indexed_of t h = record { table = table_of_tree t h; links = links_of_tree t h }

-- a file of a tree has a directory
pub has_directory : (t : Tree) → IsTree t → (n : ℕ) (m : MetadataBuf) → Some m ≡ option_map metadata_of (record_numbered t n)
    → parent_numbered t n ≡ None → ⊥
has_directory t h n m has none = by (node_in t n)
    (laws.record_in (node_in t) (number_in t) t.next (indexed_of t h) t (tree_round t h) n)
    (sym none ∙ laws.parent_in (node_in t) (number_in t) t.next (indexed_of t h) t (tree_round t h) n)
  where
    by : (o : Option table.Node) → record_numbered t n ≡ option_map (λ d. d.file) o → None ≡ option_map (λ d. d.parent) o → ⊥
    by None e p = false≢true (sym (ap is_some (has ∙ ap (option_map metadata_of) e)))
    by (Some d) e p = false≢true (ap is_some p)

-- ---- the layers

module _ (t : Tree) (c : Upper) (next count : ℕ) (h : IsOver t c next count) (whole : Tree) (view : tree_of (layers t c) next ≡ whole) where
  pub is_tree_in : IsTree whole
  is_tree_in = laws.is_tree_in (layers t c) (layered_lookup t c) next h.indexed whole view

  pub next_is : whole.next ≡ next
  next_is = sym (laws.next_in (layers t c) (layered_lookup t c) next h.indexed whole view)

  pub count_is : count ≡ len whole.files
  count_is = h.counted ∙ sym (len-files (layers t c) next h.indexed.table) ∙ ap (λ v. len v.files) view

  pub record_is : (n : ℕ) → option_map (λ d. d.file) (layers t c n) ≡ record_numbered whole n
  record_is n = sym (laws.record_in (layers t c) (layered_lookup t c) next h.indexed whole view n)

  pub parent_is : (n : ℕ) → option_map (λ d. d.parent) (layers t c n) ≡ parent_numbered whole n
  parent_is n = sym (laws.parent_in (layers t c) (layered_lookup t c) next h.indexed whole view n)

  pub name_is : (n : ℕ) → name_at n (layers t c n) ≡ name_numbered whole n
  name_is n = sym (names (layers t c) (layered_lookup t c) next h.indexed whole view n)

  -- the name of a node that isn't the root
  pub name_here : (n : ℕ) → n ≢ 0 → option_map (λ d. d.name) (layers t c n) ≡ name_numbered whole n
  name_here zero z = absurd (z refl)
  name_here (suc n) z = name_is (suc n)

  -- a file has a directory, and a name unless it is the root
  pub parent_there : (n : ℕ) → IsSome (record_numbered whole n) → parent_numbered whole n ≡ None → ⊥
  parent_there n there none = by (layers t c n) (record_is n) (sym none ∙ sym (parent_is n))
    where
      by : (o : Option table.Node) → option_map (λ d. d.file) o ≡ record_numbered whole n → None ≡ option_map (λ d. d.parent) o → ⊥
      by None e p = false≢true (ap is_some e ∙ there)
      by (Some d) e p = false≢true (ap is_some p)

  pub name_there : (n : ℕ) → n ≢ 0 → IsSome (record_numbered whole n) → name_numbered whole n ≡ None → ⊥
  name_there n z there none = by (layers t c n) (record_is n) (sym none ∙ sym (name_here n z))
    where
      by : (o : Option table.Node) → option_map (λ d. d.file) o ≡ record_numbered whole n → None ≡ option_map (λ d. d.name) o → ⊥
      by None e p = false≢true (ap is_some e ∙ there)
      by (Some d) e p = false≢true (ap is_some p)

  pub found_is : (u : ℕ) (x : NameBytes) → layered_lookup t c u x ≡ number_in whole u x
  found_is u x = sym (laws.number_in_kids (layers t c) (layered_lookup t c) next h.indexed whole view u x)

  -- if the overlay has no entry, the lower tree's answer
  record_lower : (n : ℕ) → None ≡ c n → record_numbered t n ≡ record_numbered whole n
  record_lower n none =
      laws.record_in (node_in t) (number_in t) t.next (indexed_of t h.tree) t (tree_round t h.tree) n ∙ ap
      (λ o. option_map (λ (d : table.Node). d.file) (layer_at t n o)) none ∙ record_is n

  parent_lower : (n : ℕ) → None ≡ c n → parent_numbered t n ≡ parent_numbered whole n
  parent_lower n none =
      laws.parent_in (node_in t) (number_in t) t.next (indexed_of t h.tree) t (tree_round t h.tree) n ∙ ap
      (λ o. option_map (λ (d : table.Node). d.parent) (layer_at t n o)) none ∙ parent_is n

  name_lower : (n : ℕ) → None ≡ c n → name_numbered t n ≡ name_numbered whole n
  name_lower n none =
      names (node_in t) (number_in t) t.next (indexed_of t h.tree) t (tree_round t h.tree) n ∙ ap (λ o. name_at n (layer_at t n o)) none ∙
      name_is n

  -- what is gone
  record_gone : (n : ℕ) → Some None ≡ c n → None ≡ record_numbered whole n
  record_gone n gone = ap (λ o. option_map (λ (d : table.Node). d.file) (layer_at t n o)) gone ∙ record_is n

  -- if the overlay has an entry, that one's
  record_own : (n : ℕ) (d : Node) → Some (Some d) ≡ c n → Some (shape_over (content_numbered t n) d).file ≡ record_numbered whole n
  record_own n d own = ap (λ o. option_map (λ (d : table.Node). d.file) (layer_at t n o)) own ∙ record_is n

  -- ---- all of an entry's answers

  pub metadata_all : (n : ℕ) → metadata_at t n (c n) ≡ option_map metadata_of (record_numbered whole n)
  metadata_all n = by (c n) refl
    where
      by : (o : Option (Option Node)) → o ≡ c n → metadata_at t n o ≡ option_map metadata_of (record_numbered whole n)
      by None e = ap (option_map metadata_of) (record_lower n e)
      by (Some None) e = ap (option_map metadata_of) (record_gone n e)
      by (Some (Some d)) e = (let kind = (h.nodes n d (sym e)).kind in λ i. Some (record d.metadata {
        kind = kind i;
      })) ∙ ap (option_map metadata_of) (record_own n d e)

  pub parent_all : (n : ℕ) → parent_at t n (c n) ≡ parent_numbered whole n
  parent_all n = by (c n) refl
    where
      by : (o : Option (Option Node)) → o ≡ c n → parent_at t n o ≡ parent_numbered whole n
      by None e = parent_lower n e
      by (Some None) e = ap (λ o. option_map (λ (d : table.Node). d.parent) (layer_at t n o)) e ∙ parent_is n
      by (Some (Some d)) e = ap (λ o. option_map (λ (d : table.Node). d.parent) (layer_at t n o)) e ∙ parent_is n

  pub name_all : (n : ℕ) → n ≢ 0 → own_name_at t n (c n) ≡ name_numbered whole n
  name_all zero z = absurd (z refl)
  name_all (suc n) z = by (c (suc n)) refl
    where
      by : (o : Option (Option Node)) → o ≡ c (suc n) → own_name_at t (suc n) o ≡ name_numbered whole (suc n)
      by None e = name_lower (suc n) e
      by (Some None) e = ap (λ o. name_at (suc n) (layer_at t (suc n) o)) e ∙ name_is (suc n)
      by (Some (Some d)) e =
          unwrapped d.name [] ((h.nodes (suc n) d (sym e)).named z) ∙ ap (λ o. name_at (suc n) (layer_at t (suc n) o)) e ∙ name_is (suc n)

  pub name_root : None ≡ name_numbered whole 0
  name_root = name_is 0

  content_all : (n : ℕ) → content_at t n (c n) ≡ content_numbered whole n
  content_all n = by (c n) refl
    where
      by : (o : Option (Option Node)) → o ≡ c n → content_at t n o ≡ content_numbered whole n
      by None e = ap (option_and_then (λ (r : Record). r.content)) (record_lower n e)
      by (Some None) e = ap (option_and_then (λ (r : Record). r.content)) (record_gone n e)
      by (Some (Some d)) e = ap (option_and_then (λ (r : Record). r.content)) (record_own n d e)

  pub bytes_all : (n offset count : ℕ) → option_map (λ b. take count (drop offset b)) (content_at t n (c n)) ≡ bytes_at whole n offset count
  bytes_all n offset count = ap (option_map (λ b. take count (drop offset b))) (content_all n)

-- ---- no changes

module _ (t : Tree) (h : IsTree t) (count : ℕ) (counted : count ≡ len t.files) (next : ℕ) (next_of : t.next ≡ next) (c : Upper)
    (none : (n : ℕ) → c n ≡ None) where
  abbrev nothing : Upper
  nothing n = None

  c_is : nothing ≡ c
  c_is = λ i n. sym (none n) i

  pub over_none : IsOver t c next count
  over_none = subst (λ e. IsOver t e next count) c_is (subst (λ m. IsOver t nothing m count) next_of (record {
    tree = h;
    above = omega arith;
    indexed = indexed_of t h;
    nodes = λ n d is. absurd (false≢true (ap is_some is));
    counted = counted ∙ ap (λ v. len v.files) (sym (tree_round t h)) ∙ len-files (node_in t) t.next (table_of_tree t h);
  }))

  pub tree_none : tree_of (layers t c) next ≡ t
  tree_none = (λ i. tree_of (layers t (sym c_is i)) (sym next_of i)) ∙ tree_round t h
