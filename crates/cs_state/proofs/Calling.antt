-- What is read of a state's tree, by the ids of its order of paths.
use Rattle.std.proofs.Common.{◌≡◌, ℕ, zero, suc, ◌+◌, ◌<◌, cond, List, [], ◌∷◌, ◌++◌, ◌≢◌, None, Some, refl, sym, ap, ◌∙◌, subst}
use Rattle.std.proofs.Common.{arith, ⊎_elim, length, slice_get}
use Rattle.std.proofs.lemmas.Bool.{cases_eq, eq-eqb, ne_eqb}
use Rattle.std.specs.Arc.{arc_value}
use Rattle.std.specs.FinMap.{entries, get, len}
use Rattle.cs_tree_model.specs.Tree.{IsTree, Path, number_at}
use Rattle.cs_entries.specs.declared.entry.Entry.{Entry}
use Rattle.cs_entries.specs.declared.node.Node.{Node}
use Rattle.cs_entries.specs.declared.node.Node.TheVariants.{Directory}
use Rattle.cs_entries.specs.Entries.{Entries}
use Rattle.cs_entries.specs.Legal.{IsTree as IsEntryTree}
use Rattle.cs_entries.specs.Paths.{at_path, entry_in}
use Rattle.cs_entries.specs.Positions.{climb}
use Rattle.cs_entries.specs.Tables.{held_in}
use Rattle.cs_entries.specs.Laws.Depths.{AreBelow}
use Rattle.cs_entries.specs.Laws.One.{same_number}
use Rattle.cs_entries.specs.Laws.Paths.{IsMore, at_more, in_directory, last_cases, one_path}
use Rattle.cs_apm.specs.Atlases.{IsAtlas, atlas_in}
use Rattle.cs_apm.specs.Slots.{Slot, entry_at, slot_at, slot_of}
use Rattle.cs_apm.specs.States as states
use Rattle.cs_apm.specs.States.{nodes_left, start_state, state_of}
use Rattle.cs_apm.proofs.Building.{is_tree_left, long_left}
use Rattle.cs_paths.specs.declared.path_order.PathOrder.{PathOrder}
use Rattle.cs_paths.specs.Marks.{kept_at}
use Rattle.cs_paths.specs.PathOrders.{AreInOrder, ArePlaces, IsPathOrder, path_of_place, position_by}
use Rattle.cs_paths.proofs.Laws.{placed_left, place_there, positions_there}
use Rattle.cs_state.specs.declared.parts.Parts.{Parts}
use Rattle.cs_state.specs.declared.state.State.{State}
use Rattle.cs_state.specs.Parts.{IsState}
use Rattle.cs_state.specs.Shares.{count_standing, ids_by_path, is_entry, number_of_id, places_by_path, positions_of, slots_left}
use Rattle.cs_state.specs.States.{count_shown, number_of_directory, number_of_place, places_in, positions_shown, slots_in, tree_in}
use Rattle.cs_state.specs.States.{IsMade}
use Rattle.cs_state.proofs.Holding.{entries_are, path_at, standing, IsThere}
use Rattle.cs_state.proofs.Leading.{directory_leads, has_id, held, held_place, leads, path_is, paths, paths_long, rising, shown_long, slot_is}
use Rattle.cs_state.proofs.Leaving.{below_left, leads_left, mirror_left, tree_left}
use Rattle.cs_state.proofs.Placing.{count, next, no_number, number_found}
use Rattle.cs_state.proofs.Sharing.{id_is, ids_are, is_order, order_there, places_are}

-- ---- the state of a set

module _ (s : State) (is_made : IsMade s) where
  abbrev pub parts : Parts
  parts = arc_value s.parts

  abbrev pub places : List ℕ
  places = places_in s

  pub h : IsState parts places s.moved s.own.items
  h = is_made.state

  pub atlas : IsAtlas parts.trace parts.micros (atlas_in parts.tables)
  atlas = h.whole.whole.atlas

  abbrev pub left : states.State
  left = state_of (start_state parts.trace) parts.micros.ops places

  abbrev pub es : List Entry
  es = parts.tables.entries.items

  abbrev pub slots : List Slot
  slots = slots_left parts.tables places

  abbrev pub m : Entries
  m = held_in left.entries

  abbrev pub order : List ℕ
  order = places_by_path parts.shares s.moved

  abbrev pub at : ℕ → Entry
  at = position_by es (positions_shown s)

  abbrev pub deep : ℕ
  deep = length parts.tables.directories.items

  pub slots_long : length slots ≡ length es
  slots_long = long_left parts.trace parts.micros (atlas_in parts.tables) atlas places h.allowed

  pub mirror : (e : Entry) → m e ≡ slot_of es slots e
  mirror = mirror_left parts.trace parts.micros (atlas_in parts.tables) atlas places h.allowed

  pub entry_tree : IsEntryTree m
  entry_tree = tree_left parts.trace parts.micros (atlas_in parts.tables) atlas places h.allowed

  pub few : AreBelow deep m
  few = below_left parts.trace parts.micros (atlas_in parts.tables) atlas places h.allowed

  pub placed : (e : Entry) (d : ℕ) → m e ≡ Some (Directory d) → at d ≡ e
  placed e d is =
      subst (λ n. position_by es (positions_of parts.micros.ops parts.tables n) d ≡ e) (sym h.counted)
      (placed_left parts.trace parts.micros parts.tables atlas places h.allowed e d is)

  the_order : (o : PathOrder) × (slice_get parts.shares.paths.orders.items s.moved ≡ Some o)
  the_order = order_there parts h.whole places h.allowed s.moved h.counted

  order_is : IsPathOrder es deep (positions_shown s) the_order.0
  order_is = is_order parts places s.moved s.own.items h the_order.0 the_order.1

  same_order : order ≡ the_order.0.places.items
  same_order = places_are parts places s.moved s.own.items h the_order.0 the_order.1

  pub each : ArePlaces (length es) order
  each = subst (ArePlaces (length es)) (sym same_order) order_is.each

  pub ordered : AreInOrder at deep es order
  ordered = subst (AreInOrder at deep es) (sym same_order) order_is.ordered

  -- the id of an entry's place
  pub place_id : (k place : ℕ) → k < length order → kept_at order k ≡ place → kept_at (ids_by_path parts.shares s.moved) place ≡ suc k
  place_id k place low same =
      ap (λ (is : List ℕ). kept_at is place) (ids_are parts places s.moved s.own.items h the_order.0 the_order.1)
      ∙ id_is parts places s.moved s.own.items h the_order.0 the_order.1 k place (subst (λ (os : List ℕ). k < length os) same_order low)
      (ap (λ (os : List ℕ). kept_at os k) (sym same_order) ∙ same)

  abbrev pub ps : List Path
  ps = paths es atlas.ascending slots slots_long m mirror entry_tree at placed deep few order each ordered

  abbrev pub ss : List Slot
  ss = slots_in s

  pub ps_long : length ps ≡ length es + 1
  ps_long = paths_long es atlas.ascending slots slots_long m mirror entry_tree at placed deep few order each ordered

  pub ss_long : length ss ≡ length ps
  ss_long =
      shown_long es atlas.ascending slots slots_long m mirror entry_tree at placed deep few order each ordered ∙ sym ps_long

  pub leads_there : (i : ℕ) → i < length ps → (v : Node) → slot_at ss i ≡ Some v → at_path m (path_at ps i) ≡ Some v
  leads_there = leads es atlas.ascending slots slots_long m mirror entry_tree at placed deep few order each ordered

  id_of_path : (q : Path) (v : Node) → at_path m q ≡ Some v → IsThere ps ss q v
  id_of_path = has_id es atlas.ascending slots slots_long m mirror entry_tree at placed deep few order each ordered

  nodes_are : (q : Path) → get (nodes_left left) q ≡ at_path m q
  nodes_are = leads_left parts.trace parts.micros (atlas_in parts.tables) atlas places h.allowed

  pub listed : entries (nodes_left left) ≡ standing ps ss
  listed = entries_are ps ss
      (rising es atlas.ascending slots slots_long m mirror entry_tree at placed deep few order each ordered) (nodes_left left)
      (λ i low v is. nodes_are (path_at ps i) ∙ leads_there i low v is)
      (λ q v is. id_of_path q v (sym (nodes_are q) ∙ is))

  pub is_tree : IsTree (tree_in s)
  is_tree = is_tree_left parts.trace parts.micros (atlas_in parts.tables) atlas places h.allowed

  pub count_is : len (tree_in s).files ≡ count_shown s
  count_is = count left ps ss ss_long listed

  pub next_is : (tree_in s).next ≡ count_shown s
  next_is = next left ps ss ss_long listed

  -- ---- numbers of paths

  pub nothing_at : (q : Path) → at_path m q ≡ None → number_at (tree_in s) q ≡ None
  nothing_at q none = no_number left q (nodes_are q ∙ none)

  id_number : (id : ℕ) → id < length ps → (slot : Slot) → slot_at ss id ≡ slot → at_path m (path_at ps id) ≡ slot
      → number_at (tree_in s) (path_at ps id) ≡ number_of_id ss id
  id_number id low None is none =
      nothing_at (path_at ps id) none ∙ sym (ap (λ o. cond (is_entry o) (Some (count_standing ss id)) None) is)
  id_number id low (Some v) is some =
      number_found left ps ss ss_long listed id low v is is_tree
      ∙ sym (ap (λ o. cond (is_entry o) (Some (count_standing ss id)) None) is)

  -- the number of what is at the path of an entry's place, if its directory's path leads to the directory
  pub entry_number : (place : ℕ) → place < length es → (q : Path) (d : ℕ) → d ≡ (entry_at es place).directory
      → at_path m q ≡ Some (Directory d) → number_at (tree_in s) (q ++ (entry_at es place).name ∷ []) ≡ number_of_place s place
  entry_number place low q d same above = by (slot_at slots place) refl
    where
      e : Entry
      e = entry_at es place

      here : m e ≡ slot_at slots place
      here = held es atlas.ascending slots slots_long m mirror entry_tree at placed deep few order each ordered place low

      at_end : at_path m (q ++ e.name ∷ []) ≡ m e
      at_end = at_more m q e.name d above ∙ ap (λ c. m (entry_in c e.name)) same

      -- its id
      id : (k : ℕ) × (k < length order) × (kept_at order k ≡ place)
      id = place_there (length es) order each place low

      its_id : kept_at (ids_by_path parts.shares s.moved) place ≡ suc id.0
      its_id = place_id id.0 place id.1 id.2

      inside : suc id.0 < length ps
      inside = (let l = ps_long in let n = each.long in let k = id.1 in omega (arith, l, n, k))

      slot_here : slot_at ss (suc id.0) ≡ slot_at slots place
      slot_here =
          slot_is es atlas.ascending slots slots_long m mirror entry_tree at placed deep few order each ordered id.0 id.1
          ∙ ap (slot_at slots) id.2

      by : (slot : Slot) → slot_at slots place ≡ slot → number_at (tree_in s) (q ++ e.name ∷ []) ≡ number_of_place s place
      by None is =
          nothing_at (q ++ e.name ∷ []) (at_end ∙ here ∙ is)
          ∙ sym (ap (λ o. cond (is_entry o) (Some (count_standing ss (suc id.0))) None) (slot_here ∙ is))
          ∙ sym (ap (number_of_id ss) its_id)
      by (Some v) is =
          (let front : q ≡ climb at deep e.directory =
          one_path m entry_tree (length q) q (climb at deep e.directory) e.directory (omega arith)
          (above ∙ ap (λ c. Some (Directory c)) same)
          (directory_leads m entry_tree at placed deep few e v (here ∙ is)) in
          let path : q ++ e.name ∷ [] ≡ path_at ps (suc id.0) =
          ap (λ p. p ++ e.name ∷ []) front
          ∙ sym (path_is es atlas.ascending slots slots_long m mirror entry_tree at placed deep few order each ordered id.0 id.1
          ∙ ap (path_of_place at deep es) id.2) in
          ap (number_at (tree_in s)) path
          ∙ id_number (suc id.0) inside (Some v) (slot_here ∙ is) (ap (at_path m) (sym path) ∙ at_end ∙ here ∙ is)
          ∙ sym (ap (number_of_id ss) its_id))

  -- ---- of ids

  pub id_slot : (k : ℕ) → k < length order → slot_at ss (suc k) ≡ slot_at slots (kept_at order k)
  id_slot = slot_is es atlas.ascending slots slots_long m mirror entry_tree at placed deep few order each ordered

  pub id_path : (k : ℕ) → k < length order → path_at ps (suc k) ≡ path_of_place at deep es (kept_at order k)
  id_path = path_is es atlas.ascending slots slots_long m mirror entry_tree at placed deep few order each ordered

  pub entry_here : (k : ℕ) → k < length es → m (entry_at es k) ≡ slot_at slots k
  entry_here = held es atlas.ascending slots slots_long m mirror entry_tree at placed deep few order each ordered

  pub inside : (k : ℕ) → suc k < length ps → k < length order
  inside k low = (let l = ps_long in let n = each.long in omega (arith, low, l, n))

  -- ---- of directories

  pub root_number : number_at (tree_in s) [] ≡ Some 0
  root_number = number_found left ps ss ss_long listed 0 (let l = ps_long in omega (arith, l)) (Directory 0) refl is_tree

  -- the number of the directory to which a path leads
  pub directory_number : (d : ℕ) (q : Path) → at_path m q ≡ Some (Directory d) → number_at (tree_in s) q ≡ number_of_directory s d
  directory_number d q leads = ⊎_elim
      (λ (zero_here : d ≡ 0).
      ap (number_at (tree_in s))
      (one_path m entry_tree (length q) q [] 0 (omega arith) (leads ∙ ap (λ c. Some (Directory c)) zero_here) refl)
      ∙ root_number
      ∙ sym (ap (λ b. cond b (Some 0) (number_of_place s (kept_at (positions_shown s) d))) (eq-eqb d 0 zero_here)))
      (λ (other : d ≢ 0). ⊎_elim
      (λ (e : q ≡ []). absurd (other (same_number d 0 (sym leads ∙ ap (at_path m) e))))
      (λ (w : IsMore q).
      let i = in_directory m w.front w.last (Directory d) (ap (at_path m) (sym w.is) ∙ leads) in
      let f = entry_in i.directory w.last in
      let p = held_place es slots f (Directory d) (sym (mirror f) ∙ i.held) in
      let inside = p.1.0 in
      let low : kept_at (positions_shown s) d < length es =
      (positions_there parts.trace parts.micros parts.tables atlas s.moved).1 (omega (arith, inside)) d in
      let here : entry_at es (kept_at (positions_shown s) d) ≡ f = placed f d i.held in
      ap (number_at (tree_in s)) (w.is ∙ ap (λ (e : Entry). w.front ++ e.name ∷ []) (sym here))
      ∙ entry_number (kept_at (positions_shown s) d) low w.front i.directory (ap (λ (e : Entry). e.directory) (sym here)) i.above
      ∙ sym (ap (λ b. cond b (Some 0) (number_of_place s (kept_at (positions_shown s) d))) (ne_eqb d 0 other)))
      (last_cases q))
      (cases_eq d 0)
