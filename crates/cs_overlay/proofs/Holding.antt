-- What holds of an overlay goes on to hold; what a caller promises, of its nodes.
use Rattle.std.proofs.Common.{◌≡◌, ◌≢◌, ◌+◌, ◌<◌, ◌^◌, ℕ, Option, None, Some, IsSome, IfSome, refl, sym, ap, ◌∙◌, subst, ⊎_elim}
use Rattle.std.proofs.lemmas.Bool.{cases_eq}
use Rattle.std.specs.Option.{IsSomeAnd, is_some, option_and_then, option_map}
use Rattle.cs_tree_model.specs.declared.record.Record.{Record}
use Rattle.cs_tree_model.specs.Laws.Counts.{count_below, counted_alike}
use Rattle.cs_tree_model.specs.Laws.Changes.{set_node_here, set_node_other}
use Rattle.cs_tree_model.specs.Laws.Stores as laws
use Rattle.cs_tree_model.specs.Lookups.{IsIndexed}
use Rattle.cs_tree_model.specs.Record.{IsDirectory}
use Rattle.cs_tree_model.specs.Stores.{CanStamp, CanStampParent, IsDirectoryNumbered, at_number}
use Rattle.cs_tree_model.specs.Effects.{change_at}
use Rattle.cs_tree_model.specs.Table as table
use Rattle.cs_tree_model.specs.Table.{set_node, tree_of, with_file}
use Rattle.cs_tree_model.specs.Tree.{NameBytes, Tree, content_numbered, parent_numbered, record_numbered}
use Rattle.cs_overlay.specs.Layers.{SameNodes, AreNodes, CanStampNode, HasNode, IsFileIf, IsOver, SameLayers, StepsAt, Upper}
use Rattle.cs_overlay.specs.Layers.{layered_lookup, layer_at, layers, shape_over, step_at, with_answer, with_at}
use Rattle.cs_overlay.proofs.Layering.{found_same, layers_put, nodes_put, one_upper, step_here, with_at_here}
use Rattle.cs_overlay.proofs.Views.{parent_is, record_is}

-- ---- growths that no read shows

module _ (t : Tree) (c e : Upper) (s : SameLayers t c e) where
  layers_same : layers t c ≡ layers t e
  layers_same = λ i n. sym (s.layer n) i

  found_as : layered_lookup t c ≡ layered_lookup t e
  found_as = λ i u x. sym (s.finds u x) i

  pub over_same : (next count : ℕ) → IsOver t c next count → IsOver t e next count
  over_same next count h = record {
    tree = h.tree;
    above = h.above;
    indexed =
        subst (λ k. IsIndexed (layers t e) k next) found_as (subst (λ v. IsIndexed v (layered_lookup t c) next) layers_same h.indexed);
    nodes = s.nodes h.nodes;
    counted = h.counted ∙ ap (λ v. count_below v next) layers_same;
  }

  pub tree_same : (next : ℕ) (whole : Tree) → tree_of (layers t c) next ≡ whole → tree_of (layers t e) next ≡ whole
  tree_same next whole view = ap (λ v. tree_of v next) (sym layers_same) ∙ view

-- over the lower tree the nodes make the whole
pub record MakesOver (lower : Tree) (nodes : Upper) (next count : ℕ) (whole : Tree) : Type 0 where
  pub held : IsOver lower nodes next count
  pub view : tree_of (layers lower nodes) next ≡ whole

-- after a growth that no read shows they make the same; the growth was lent the lower tree
module _ {A : Type 0} (tree_in : A → Tree) {lent lower : A} (is : lent ≡ lower) {c e : Upper} (s : SameLayers (tree_in lent) c e)
    {next count : ℕ} {whole : Tree} (held : IsOver (tree_in lower) c next count)
    (view : tree_of (layers (tree_in lower) c) next ≡ whole) where
  same_here : SameLayers (tree_in lower) c e
  same_here = subst (λ v. SameLayers (tree_in v) c e) is s

  pub unseen : MakesOver (tree_in lower) e next count whole
  unseen = record {
    held = over_same (tree_in lower) c e same_here next count held;
    view = tree_same (tree_in lower) c e same_here next whole view;
  }

-- ---- what a caller promises

module _ (t : Tree) (c : Upper) (next count : ℕ) (h : IsOver t c next count) (whole : Tree) (view : tree_of (layers t c) next ≡ whole) where
  pub there_in : (n : ℕ) → IsSome (record_numbered whole n) → IsSome (layers t c n)
  there_in n there = by (layers t c n) (subst IsSome (sym (record_is t c next count h whole view n)) there)
    where
      by : (o : Option table.Node) → IsSome (option_map (λ d. d.file) o) → IsSome o
      by None p = p
      by (Some d) p = refl

  pub file_in : (n : ℕ) → IsSome (content_numbered whole n) → IsSome (layers t c n)
  file_in n there = there_in n (laws.file_there (layers t c) (layered_lookup t c) next h.indexed whole view n there)

  pub directory_in : (n : ℕ) → IsDirectoryNumbered whole n → IsSomeAnd (layers t c n) (λ d. IsDirectory d.file)
  directory_in n is =
      (let d = laws.directory_there (layers t c) (layered_lookup t c) next h.indexed whole view n is in
      subst (λ o. IsSomeAnd o (λ d. IsDirectory d.file)) (sym d.1) d.2)

  -- the directory of a file
  pub above_in : (n : ℕ) → n ≢ 0 → IsSome (record_numbered whole n) → (u : ℕ) → Some u ≡ parent_numbered whole n
      → IsSomeAnd (layers t c u) (λ d. IsDirectory d.file)
  above_in n z there u is =
      let d = laws.node_there (layers t c) (layered_lookup t c) next h.indexed whole view n there in
      let two : Some u ≡ Some d.0.parent =
      is ∙ sym (parent_is t c next count h whole view n) ∙ ap (option_map (λ (v : table.Node). v.parent)) d.1 in
      let one : d.0.parent ≡ u = (cc) in
      let up = laws.node_above (layers t c) (layered_lookup t c) next h.indexed whole view n d.0 d.1 z in
      subst (λ k. IsSomeAnd (layers t c k) (λ d. IsDirectory d.file)) one
      (subst (λ o. IsSomeAnd o (λ d. IsDirectory d.file)) (sym up.1) up.2)

  pub stamps_in : (n : ℕ) → CanStamp whole n → CanStampNode c n
  stamps_in n can d here =
      subst (λ o. IfSome o (λ (r : Record). r.vers + 1 < 2 ^ 32))
      (sym (record_is t c next count h whole view n) ∙ ap (λ o. option_map (λ (v : table.Node). v.file) (layer_at t n o)) here) can

  pub parent_stamps_in : (n : ℕ) → CanStampParent whole n → (u : ℕ) → Some u ≡ parent_numbered whole n → CanStampNode c u
  parent_stamps_in n can u is = stamps_in u (subst (λ o. IfSome o (CanStamp whole)) (sym is) can)

  pub file_if_in : (length : Option ℕ) (n : ℕ) → (IsSome length → IsSome (content_numbered whole n)) → IsFileIf length t c n
  file_if_in length n file d here some =
      subst IsSome
      (ap (option_and_then (λ (r : Record). r.content))
      (sym (record_is t c next count h whole view n) ∙ ap (λ o. option_map (λ (v : table.Node). v.file) (layer_at t n o)) here)) (file some)

-- after an answer the directory can be stamped as before
pub stamps_said : (t : Tree) (c e : Upper) (u : ℕ) (x : NameBytes) (o : Option ℕ) → CanStampNode c u → HasNode c u
    → SameNodes (step_at c u (λ d. with_answer d x o)) e → CanStampNode e u
stamps_said t c e u x o can has goes d here =
    let now : e u ≡ Some (Some (with_answer has.0 x o)) =
    goes u ∙ ap (λ w. w u) (step_here t c u (λ v. with_answer v x o) has.0 has.1) ∙ with_at_here t c u
    (Some (Some (with_answer has.0 x o))) in
    let two : Some (Some (with_answer has.0 x o)) ≡ Some (Some d) = sym now ∙ here in
    let one : with_answer has.0 x o ≡ d = (let three : Some (with_answer has.0 x o) ≡ Some d = cc in cc) in
    subst (λ v. v.metadata.vers + 1 < 2 ^ 32) one (can has.0 has.1)

-- ---- another record

module _ (t : Tree) (c : Upper) (next count : ℕ) (h : IsOver t c next count) (whole : Tree) (view : tree_of (layers t c) next ≡ whole)
    (n : ℕ) (f : Record → Record) (e : Upper) (s : StepsAt t n f c e)
    (number : (r : Record) → (f r).number ≡ r.number) (kind : (r : Record) → IsDirectory r → IsDirectory (f r)) where
  abbrev old : table.Node
  old = shape_over (content_numbered t n) s.was

  old_here : layers t c n ≡ Some old
  old_here = ap (layer_at t n) s.here

  e_is : with_at c n (Some (Some s.is)) ≡ e
  e_is = one_upper _ e s.goes

  layers_are : layers t e ≡ set_node (layers t c) n (with_file old (f old.file))
  layers_are = ap (layers t) (sym e_is) ∙ layers_put t c n s.is ∙ ap (set_node (layers t c) n) s.step.shape

  found_are : layered_lookup t e ≡ layered_lookup t c
  found_are = ap (layered_lookup t) (sym e_is) ∙ found_same t c n s.was s.is s.here s.step.own

  pub over_step : IsOver t e next count
  over_step = record {
    tree = h.tree;
    above = h.above;
    indexed =
        subst (λ k. IsIndexed (layers t e) k next) (sym found_are) (subst (λ v. IsIndexed v (layered_lookup t c) next) (sym layers_are)
        (laws.indexed_changed (layers t c) (layered_lookup t c) next h.indexed whole view n old old_here f (number old.file)
        (kind old.file)));
    nodes = subst (AreNodes t) e_is (nodes_put t c n h.nodes s.is (s.step.node (h.nodes n s.was s.here)));
    counted = h.counted ∙ counted_alike (layers t c) (layers t e) (λ m. ⊎_elim
        (λ (one : m ≡ n). ap (λ k. is_some (layers t c k)) one ∙ ap is_some old_here ∙ sym
        (ap (λ k. is_some (layers t e k)) one ∙ ap (λ v. is_some (v n)) layers_are ∙ ap is_some
        (set_node_here (layers t c) n (with_file old (f old.file)))))
        (λ (other : m ≢ n). sym
        (ap (λ v. is_some (v m)) layers_are ∙ ap is_some (set_node_other (layers t c) n m (with_file old (f old.file)) other)))
        (cases_eq m n)) next;
  }

  pub tree_step : tree_of (layers t e) next ≡ at_number n (λ p. change_at p f) whole
  tree_step =
      ap (λ v. tree_of v next) layers_are ∙ laws.tree_changed (layers t c) (layered_lookup t c) next h.indexed whole view n old old_here f
      (number old.file) (kind old.file)
