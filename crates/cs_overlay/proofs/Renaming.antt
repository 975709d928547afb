-- A call that gives a file another name, and other fields.
use Rattle.std.proofs.Common.{◌≡◌, ◌≢◌, ℕ, None, Some, IsSome, refl, sym, ap, ◌∙◌, subst, ⊎_elim}
use Rattle.std.proofs.lemmas.Bool.{cases_eq}
use Rattle.std.specs.Option.{is_some, option_map_or}
use Rattle.cs_tree_model.specs.declared.change.Change.{Change}
use Rattle.cs_tree_model.specs.declared.change.Stamp.{Stamp}
use Rattle.cs_tree_model.specs.declared.record.Record.{Record}
use Rattle.cs_tree_model.specs.Effects.{change_at, rename, record_with_stamp}
use Rattle.cs_tree_model.specs.Laws.Changes.{set_node_here, set_node_other}
use Rattle.cs_tree_model.specs.Laws.Stores as laws
use Rattle.cs_tree_model.specs.Lookups.{IsIndexed, set_kid}
use Rattle.cs_tree_model.specs.Record.{kind_of}
use Rattle.cs_tree_model.specs.Stores.{at_number, tree_with_change, changed_record}
use Rattle.cs_tree_model.specs.Table as table
use Rattle.cs_tree_model.specs.Table.{set_node, tree_of, with_file}
use Rattle.cs_tree_model.specs.Tree.{NameBytes, Tree, content_numbered, name_numbered, number_in, parent_numbered, record_numbered}
use Rattle.cs_overlay.specs.declared.node.Node.{Node}
use Rattle.cs_overlay.specs.Layers.{SameNodes, AreNodes, IsNode, IsOver, SaysBoth, StepsAt, Upper, content_over, layered_lookup, layer_at}
use Rattle.cs_overlay.specs.Layers.{layers, shape_over, step_at, with_answer, with_at, with_name, with_stamp}
use Rattle.cs_overlay.proofs.Layering.{content_said, found_said, found_same, hides_said, layers_put, nodes_put, one_upper, step_here}
use Rattle.cs_overlay.proofs.Layering.{with_at_here, with_at_other}
use Rattle.cs_tree_model.specs.Laws.Counts.{counted_alike}
use Rattle.cs_overlay.proofs.Linking.{put_twice, set_thrice}
use Rattle.cs_overlay.proofs.Removing as removing

-- without a new name
pub unnamed : (n : ℕ) (ch : Change) (s : Stamp) (whole : Tree) → ch.name ≡ None
    → at_number n (λ p. change_at p (changed_record ch s)) whole ≡ tree_with_change n ch s whole
unnamed n ch s whole none =
    ap (λ o. at_number n
    (λ p v. option_map_or (λ z. rename p z s (change_at p (changed_record ch s) v)) o (change_at p (changed_record ch s) v)) whole)
    (sym none)

module _ (t : Tree) (c : Upper) (next count : ℕ) (h : IsOver t c next count) (whole : Tree) (view : tree_of (layers t c) next ≡ whole)
    (n : ℕ) (not_root : n ≢ 0) (there : IsSome (record_numbered whole n)) (u : ℕ) (parent : Some u ≡ parent_numbered whole n)
    (x : NameBytes) (name : Some x ≡ name_numbered whole n)
    (ch : Change) (s : Stamp) (y : NameBytes) (named : ch.name ≡ Some y) (free : number_in whole u y ≡ None) (c3 e : Upper)
    (st : StepsAt t n (changed_record ch s) c c3) (said : SaysBoth c u x y)
    (goes : SameNodes (step_at (step_at c3 u (λ d. with_stamp (with_answer (with_answer d x None) y (Some n)) s)) n (λ d. with_name d y))
    e) where
  abbrev f : Record → Record
  f = changed_record ch s

  abbrev d : table.Node
  d = removing.d t c next count h whole view n not_root there u parent x name

  here : layers t c n ≡ Some d
  here = (removing.file t c next count h whole view n not_root there u parent x name).1

  apart : n ≢ u
  apart = removing.apart t c next count h whole view n not_root there u parent x name

  abbrev dir : Node
  dir = said.0

  abbrev shape : table.Node
  shape = shape_over (content_numbered t u) dir

  shape_here : layers t c u ≡ Some shape
  shape_here = ap (layer_at t u) said.1

  directory : content_over (content_numbered t u) dir.body ≡ None
  directory = removing.directory t c next count h whole view n not_root there u parent x name dir said.1

  -- what the file is, but for its place
  was_is : shape_over (content_numbered t n) st.was ≡ d
  was_is = (let two : Some (shape_over (content_numbered t n) st.was) ≡ Some d = ap (layer_at t n) (sym st.here) ∙ here in cc)

  abbrev less : Node
  less = with_answer dir x None

  abbrev moved : Node
  moved = with_stamp (with_answer less y (Some n)) s

  abbrev new : Node
  new = with_name st.is y

  c3_is : with_at c n (Some (Some st.is)) ≡ c3
  c3_is = one_upper _ c3 st.goes

  c3_here : c3 n ≡ Some (Some st.is)
  c3_here = ap (λ v. v n) (sym c3_is) ∙ with_at_here t c n (Some (Some st.is))

  c3_above : c3 u ≡ Some (Some dir)
  c3_above = ap (λ v. v u) (sym c3_is) ∙ with_at_other t c n (Some (Some st.is)) u (λ z. apart (sym z)) ∙ said.1

  mid_is : with_at c3 u (Some (Some moved)) ≡ step_at c3 u (λ d. with_stamp (with_answer (with_answer d x None) y (Some n)) s)
  mid_is = sym (step_here t c3 u (λ d. with_stamp (with_answer (with_answer d x None) y (Some n)) s) dir c3_above)

  mid_here : with_at c3 u (Some (Some moved)) n ≡ Some (Some st.is)
  mid_here = with_at_other t c3 u (Some (Some moved)) n apart ∙ c3_here

  e_is : with_at (with_at c3 u (Some (Some moved))) n (Some (Some new)) ≡ e
  e_is = sym (step_here t (with_at c3 u (Some (Some moved))) n (λ d. with_name d y) st.is mid_here) ∙ ap
      (λ v. step_at v n (λ d. with_name d y)) mid_is ∙ one_upper _ e goes

  shape_moved : shape_over (content_numbered t u) moved ≡ with_file shape (record_with_stamp s shape.file)
  shape_moved = λ i. record shape {
    file = record (record_with_stamp s shape.file) {
      content = (content_said (content_numbered t u) less.body y (Some n) ∙ content_said (content_numbered t u) dir.body x None) i;
    };
  }

  shape_new : shape_over (content_numbered t n) new ≡ record { parent = u; name = y; file = f d.file }
  shape_new = ap (λ (v : table.Node). record v { name = y }) (st.step.shape ∙ (λ i. with_file (was_is i) (f (was_is i).file)))

  layers_are : layers t e ≡ set_node (set_node (layers t c) n (record {
    parent = u;
    name = y;
    file = f d.file;
  })) u (with_file shape (record_with_stamp s shape.file))
  layers_are = ap (layers t) (sym e_is) ∙ layers_put t (with_at c3 u (Some (Some moved))) n new
      ∙ (λ i. set_node
      ((layers_put t c3 u moved ∙ (λ j. set_node ((ap (layers t) (sym c3_is) ∙ layers_put t c n st.is) j) u (shape_moved j))) i) n
      (shape_new i))
      ∙ set_thrice (layers t c) n u apart (shape_over (content_numbered t n) st.is) (with_file shape (record_with_stamp s shape.file))
      (record { parent = u; name = y; file = f d.file })

  found3 : layered_lookup t c3 ≡ layered_lookup t c
  found3 = ap (layered_lookup t) (sym c3_is) ∙ found_same t c n st.was st.is st.here st.step.own

  found_less : layered_lookup t (with_at c3 u (Some (Some less))) ≡ set_kid (layered_lookup t c) u x None
  found_less = found_said t c3 u dir less c3_above directory x None refl ∙ ap (λ k. set_kid k u x None) found3

  found_mid : layered_lookup t (with_at c3 u (Some (Some moved))) ≡ set_kid (set_kid (layered_lookup t c) u x None) u y (Some n)
  found_mid = ap (layered_lookup t) (sym (put_twice c3 u (Some (Some less)) (Some (Some moved))))
      ∙ found_said t (with_at c3 u (Some (Some less))) u less moved (with_at_here t c3 u (Some (Some less)))
      (content_said (content_numbered t u) dir.body x None ∙ directory) y (Some n) refl
      ∙ ap (λ k. set_kid k u y (Some n)) found_less

  found_are : layered_lookup t e ≡ set_kid (set_kid (layered_lookup t c) u x None) u y (Some n)
  found_are =
      ap (layered_lookup t) (sym e_is) ∙ found_same t (with_at c3 u (Some (Some moved))) n st.is new mid_here (λ z. refl) ∙ found_mid

  node_new : IsNode (content_numbered t n) n new
  node_new = (let k = st.step.node (h.nodes n st.was st.here) in record { kind = k.kind; named = λ z. refl; hides = k.hides })

  node_moved : IsNode (content_numbered t u) u moved
  node_moved = (let k = h.nodes u dir said.1 in record {
    kind = k.kind ∙ ap kind_of
        (sym (content_said (content_numbered t u) less.body y (Some n) ∙ content_said (content_numbered t u) dir.body x None));
    named = k.named;
    hides = hides_said (content_numbered t u) less.body y (Some n) (hides_said (content_numbered t u) dir.body x None k.hides);
  })

  as_many : (m : ℕ) → is_some (layers t c m) ≡ is_some (layers t e m)
  as_many m = sym (ap (λ v. is_some (v m)) layers_are ∙ ⊎_elim
      (λ (a : m ≡ u). ap (λ k. is_some (set_node (set_node (layers t c) n (record {
        parent = u;
        name = y;
        file = f d.file;
      })) u (with_file shape (record_with_stamp s shape.file)) k)) a
      ∙ ap is_some (set_node_here (set_node (layers t c) n (record {
        parent = u;
        name = y;
        file = f d.file;
      })) u (with_file shape (record_with_stamp s shape.file))) ∙ sym (ap (λ k. is_some (layers t c k)) a ∙ ap is_some shape_here))
      (λ (b : m ≢ u). ap is_some (set_node_other (set_node (layers t c) n (record {
        parent = u;
        name = y;
        file = f d.file;
      })) u m (with_file shape (record_with_stamp s shape.file)) b) ∙ ⊎_elim
      (λ (a : m ≡ n). ap (λ k. is_some (set_node (layers t c) n (record {
        parent = u;
        name = y;
        file = f d.file;
      }) k)) a ∙ ap is_some (set_node_here (layers t c) n (record {
        parent = u;
        name = y;
        file = f d.file;
      })) ∙ sym (ap (λ k. is_some (layers t c k)) a ∙ ap is_some here))
      (λ (z : m ≢ n). ap is_some (set_node_other (layers t c) n m (record { parent = u; name = y; file = f d.file }) z))
      (cases_eq m n))
      (cases_eq m u))

  pub over_renamed : IsOver t e next count
  over_renamed = record {
    tree = h.tree;
    above = h.above;
    indexed =
        subst (λ k. IsIndexed (layers t e) k next) (sym found_are)
        (subst (λ v. IsIndexed v (set_kid (set_kid (layered_lookup t c) u x None) u y (Some n)) next) (sym layers_are)
        (laws.indexed_moved (layers t c) (layered_lookup t c) next h.indexed whole view n d here not_root shape shape_here s f
        (laws.number_stays ch.length s d.file) (laws.directory_stays ch.length s d.file) y free));
    nodes = subst (AreNodes t) e_is
        (nodes_put t (with_at c3 u (Some (Some moved))) n
        (nodes_put t c3 u (subst (AreNodes t) c3_is (nodes_put t c n h.nodes st.is (st.step.node (h.nodes n st.was st.here)))) moved
        node_moved) new node_new);
    counted = h.counted ∙ counted_alike (layers t c) (layers t e) as_many next;
  }

  pub tree_renamed : tree_of (layers t e) next ≡ tree_with_change n ch s whole
  tree_renamed = ap (λ v. tree_of v next) layers_are
      ∙ laws.tree_moved (layers t c) (layered_lookup t c) next h.indexed whole view n d here not_root shape shape_here s f
      (laws.number_stays ch.length s d.file) (laws.directory_stays ch.length s d.file) y free
      ∙ ap (λ o. at_number n (λ p v. option_map_or (λ z. rename p z s (change_at p f v)) o (change_at p f v)) whole) (sym named)
