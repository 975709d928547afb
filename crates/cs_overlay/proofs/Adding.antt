-- A call that makes a file.
use Rattle.std.proofs.Common.{◌≡◌, ◌≢◌, ◌+◌, ◌<◌, ℕ, zero, suc, true, cond, [], ◌∷◌, ◌++◌, Option, None, Some, refl, sym, ap, ◌∙◌, subst}
use Rattle.std.proofs.Common.{⊎_elim, arith}
use Rattle.std.proofs.lemmas.Bool.{cases_eq}
use Rattle.std.specs.Option.{is_some, option_and_then, option_map}
use Rattle.cs_tree_model.specs.declared.change.New.{New}
use Rattle.cs_tree_model.specs.declared.change.Stamp.{Stamp}
use Rattle.cs_tree_model.specs.declared.record.Record.{Record}
use Rattle.cs_tree_model.specs.Effects.{new_record, record_with_stamp}
use Rattle.cs_tree_model.specs.Laws.Changes.{set_node_here, set_node_other}
use Rattle.cs_tree_model.specs.Laws.Counts.{count_below}
use Rattle.cs_tree_model.specs.Laws.Lookups.{set_kid_other}
use Rattle.cs_tree_model.specs.Laws.Numbered.{next_free}
use Rattle.cs_tree_model.specs.Laws.Round.{found_in}
use Rattle.cs_tree_model.specs.Laws.Stores as laws
use Rattle.cs_tree_model.specs.Lookups.{IsIndexed, set_kid}
use Rattle.cs_tree_model.specs.Record.{IsDirectory, metadata_of}
use Rattle.cs_tree_model.specs.Stores.{IsDirectoryNumbered, tree_with_file}
use Rattle.cs_tree_model.specs.Table as table
use Rattle.cs_tree_model.specs.Table.{path_of, set_node, tree_of, with_file}
use Rattle.cs_tree_model.specs.Tree.{NameBytes, Path, Tree, content_numbered, number_at, number_in, path_numbered, record_numbered}
use Rattle.cs_overlay.specs.declared.node.Node.{Node}
use Rattle.cs_overlay.specs.Layers.{SameNodes, AreNodes, HasNode, IsNewFile, IsNode, IsOver, Upper, layered_lookup, layer_at, layers}
use Rattle.cs_overlay.specs.Layers.{own_in, said_over, shape_over, step_at, with_answer, with_at, with_stamp}
use Rattle.cs_overlay.proofs.Layering.{found_stay, layers_put, nodes_put, one_upper}
use Rattle.cs_overlay.proofs.Views.{found_is, record_is}
use Rattle.cs_overlay.proofs.Linking.{found_touched, layers_touched, nodes_touched, set_around}

-- of numbers from a bound on nothing is counted
counted_below : {A B : Type 0} (f : ℕ → Option A) (g : ℕ → Option B) (k : ℕ) → ((n : ℕ) → n < k → is_some (f n) ≡ is_some (g n))
    → count_below f k ≡ count_below g k
counted_below f g zero same = refl
counted_below f g (suc k) same =
    λ i. cond (same k (omega arith) i) (counted_below f g k (λ n lt. same n (omega (arith, lt))) i + 1)
    (counted_below f g k (λ n lt. same n (omega (arith, lt))) i)

-- what a record lends of its group
pub group_lent : (o : Option Record) → option_map (λ m. m.group) (option_map metadata_of o) ≡ option_map (λ r. r.group) o
group_lent None = refl
group_lent (Some r) = refl

module _ (t : Tree) (c : Upper) (next count : ℕ) (h : IsOver t c next count) (whole : Tree) (view : tree_of (layers t c) next ≡ whole)
    (u : ℕ) (is : IsDirectoryNumbered whole u) (x : NameBytes) (w : New) (s : Stamp) (free : number_in whole u x ≡ None) (has : HasNode c u)
    (group : NameBytes) (grouped : Some group ≡ option_map (λ r. r.group) (record_numbered whole u)) (node : Node)
    (made : IsNewFile u x (new_record next group w s) node)
    (c2 c3 e : Upper) (one : SameNodes (step_at c u (λ d. with_answer d x (Some next))) c2)
    (two : SameNodes (step_at c2 u (λ d. with_stamp d s)) c3) (three : SameNodes (with_at c3 next (Some (Some node))) e) where
  abbrev dir : table.Node
  dir = shape_over (content_numbered t u) has.0

  shape_here : layers t c u ≡ Some dir
  shape_here = ap (layer_at t u) has.1

  directory : IsDirectory dir.file
  directory =
      let d = laws.directory_there (layers t c) (layered_lookup t c) next h.indexed whole view u is in
      let two : Some d.0 ≡ Some dir = sym d.1 ∙ shape_here in
      let one : d.0 ≡ dir = (cc) in
      ap (λ (v : table.Node). v.file.content) (sym one) ∙ d.2

  group_is : group ≡ dir.file.group
  group_is =
      (let two : Some group ≡ Some dir.file.group =
      grouped ∙ ap (option_map (λ (r : Record). r.group))
      (sym (record_is t c next count h whole view u) ∙ ap (option_map (λ (v : table.Node). v.file)) shape_here) in cc)

  absent : layers t c next ≡ None
  absent = laws.absent (layers t c) (layered_lookup t c) next h.indexed whole view u dir shape_here directory x w s free

  apart : next ≢ u
  apart = laws.apart (layers t c) (layered_lookup t c) next h.indexed whole view u dir shape_here directory x w s free

  -- the lower tree has no such number
  none_below : content_numbered t next ≡ None
  none_below = ap (option_and_then (λ (r : Record). r.content)) (next_free t h.tree next h.above)

  no_names : (y : NameBytes) → number_in t next y ≡ None
  no_names y = ap (option_and_then (λ p. number_at t (p ++ y ∷ []))) (no_path (path_numbered t next) refl)
    where
      no_path : (o : Option Path) → path_numbered t next ≡ o → path_numbered t next ≡ None
      no_path None e = e
      no_path (Some p) e =
          (let f = found_in t h.tree next p e in let less = h.tree.below p f.0 f.1 in let up = h.above in
          absurd (omega (arith, f.2, less, up)))

  shape_new : shape_over (content_numbered t next) node ≡ record { parent = u; name = x; file = new_record next dir.file.group w s }
  shape_new = ap (λ o. shape_over o node) none_below ∙ made.shape ∙ (λ i. record {
    parent = u;
    name = x;
    file = new_record next (group_is i) w s;
  })

  e_is : with_at c3 next (Some (Some node)) ≡ e
  e_is = one_upper _ e three

  layers_are : layers t e ≡ set_node (set_node (layers t c) u (with_file dir (record_with_stamp s dir.file))) next (record {
    parent = u;
    name = x;
    file = new_record next dir.file.group w s;
  })
  layers_are =
      ap (layers t) (sym e_is) ∙ layers_put t c3 next node ∙
      (λ i. set_node (layers_touched t u x (Some next) s c has c2 c3 one two i) next (shape_new i))
      ∙ set_around (layers t c) next u apart (shape_over (content_numbered t u) (with_answer has.0 x (Some next)))
      (with_file dir (record_with_stamp s dir.file)) (record { parent = u; name = x; file = new_record next dir.file.group w s })

  found3 : layered_lookup t c3 ≡ set_kid (layered_lookup t c) u x (Some next)
  found3 = found_touched t u x (Some next) s c has c2 c3 one two directory

  nobody : (y : NameBytes) → number_in whole next y ≡ None
  nobody y =
      ap (option_and_then (λ p. number_at whole (p ++ y ∷ [])))
      (laws.path_in (layers t c) (layered_lookup t c) next h.indexed whole view next ∙ ap (option_map (λ _. path_of (layers t c) next))
      absent)

  leaf : (y : NameBytes) → said_over t next y (own_in node.body y) ≡ layered_lookup t c3 next y
  leaf y = ap (said_over t next y) (made.own y) ∙ no_names y
      ∙ sym (ap (λ k. k next y) found3 ∙ set_kid_other (layered_lookup t c) u x (Some next) next y (λ both. apart both.0) ∙ found_is t c
      next count h whole view next y ∙ nobody y)

  found_are : layered_lookup t e ≡ set_kid (layered_lookup t c) u x (Some next)
  found_are = ap (layered_lookup t) (sym e_is) ∙ found_stay t c3 next (Some (Some node)) leaf ∙ found3

  there_now : is_some (layers t e next) ≡ true
  there_now =
      ap (λ v. is_some (v next)) layers_are ∙ ap is_some
      (set_node_here (set_node (layers t c) u (with_file dir (record_with_stamp s dir.file))) next (record {
        parent = u;
        name = x;
        file = new_record next dir.file.group w s;
      }))

  others : (m : ℕ) → m < next → is_some (layers t e m) ≡ is_some (layers t c m)
  others m lt =
      ap (λ v. is_some (v m)) layers_are ∙ ap is_some
      (set_node_other (set_node (layers t c) u (with_file dir (record_with_stamp s dir.file))) next m _
      (λ z. (omega (arith, lt, z)))) ∙ ⊎_elim
      (λ (f : m ≡ u). ap (λ k. is_some (set_node (layers t c) u (with_file dir (record_with_stamp s dir.file)) k)) f ∙ ap is_some
      (set_node_here (layers t c) u (with_file dir (record_with_stamp s dir.file))) ∙ sym
      (ap (λ k. is_some (layers t c k)) f ∙ ap is_some shape_here))
      (λ (nf : m ≢ u). ap is_some (set_node_other (layers t c) u m (with_file dir (record_with_stamp s dir.file)) nf))
      (cases_eq m u)

  one_more : suc next ≡ next + 1
  one_more = omega arith

  pub over_added : IsOver t e (next + 1) (count + 1)
  over_added = record {
    tree = h.tree;
    above = (let up = h.above in omega (arith, up));
    indexed =
        subst (λ k. IsIndexed (layers t e) k (next + 1)) (sym found_are)
        (subst (λ v. IsIndexed v (set_kid (layered_lookup t c) u x (Some next)) (next + 1)) (sym layers_are)
        (laws.indexed_added (layers t c) (layered_lookup t c) next h.indexed whole view u dir shape_here directory x w s free));
    nodes = subst (AreNodes t) e_is
        (nodes_put t c3 next (nodes_touched t u x (Some next) s c has c2 c3 one two h.nodes) node
        (subst (λ o. IsNode o next node) (sym none_below) (made.node next)));
    counted =
        ap (λ k. k + 1) h.counted ∙ sym
        (ap (λ b. cond b (count_below (layers t e) next + 1) (count_below (layers t e) next)) there_now ∙ ap (λ k. k + 1)
        (counted_below (layers t e) (layers t c) next others)) ∙ ap (count_below (layers t e)) one_more;
  }

  pub tree_added : tree_of (layers t e) (next + 1) ≡ tree_with_file u x w s whole
  tree_added =
      ap (λ v. tree_of v (next + 1)) layers_are ∙ laws.tree_added (layers t c) (layered_lookup t c) next h.indexed whole view u dir
      shape_here directory x w s free
