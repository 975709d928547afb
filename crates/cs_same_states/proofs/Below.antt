-- What is read of the entries of two states, where each entry holds alike nodes in both.
use Rattle.std.proofs.Common.{◌≡◌, ℕ, zero, suc, ◌+◌, ◌==◌, Bool, true, false, cond, List, [], ◌∷◌, ◌++◌, None, Some}
use Rattle.std.proofs.Common.{length, map, refl, sym, ap, ◌∙◌, arith}
use Rattle.std.proofs.lemmas.List.{map-append}
use Rattle.std.specs.FinMap.{find, from_entries, get, get-from_entries, same_map}
use Rattle.std.specs.List.{flat_map}
use Rattle.std.specs.Option.{option_map}
use Rattle.std.specs.Ordering.{eq_by_cmp}
use Rattle.std.specs.Prelude.{fold}
use Rattle.cs_entries.specs.declared.entry.Entry.{Entry}
use Rattle.cs_entries.specs.declared.node.Node.{Node}
use Rattle.cs_entries.specs.declared.node.Node.TheVariants.{Directory, File}
use Rattle.cs_entries.specs.Tables.{below, below_entry, below_if, paths_in}
use Rattle.cs_tree_model.specs.declared.record.Record.{Record}
use Rattle.cs_tree_model.specs.Fresh.{fresh}
use Rattle.cs_tree_model.specs.Laws.Paths.{path_exact, path_total}
use Rattle.cs_tree_model.specs.Maps.Values.{get-map_values, map_values}
use Rattle.cs_tree_model.specs.Tree.{Path, path_cmp}
use Rattle.cs_trace.specs.Traces.{Trace}
use Rattle.cs_micro.specs.Micros.{Micros}
use Rattle.cs_apm.specs.Atlases.{Atlas, IsAtlas}
use Rattle.cs_apm.specs.Orders.{needs_of}
use Rattle.cs_apm.specs.Slots.{Slot, held_in_slots, slot_at, slots_after, step_at}
use Rattle.cs_apm.specs.States.{State, crash_state_of, nodes_left, record_of, start_state, state_of}
use Rattle.cs_apm.proofs.Building.{deep_left, long_left, table_left}
use Rattle.cs_apm.proofs.Walking.{paths_of_slots}
use Rattle.cs_sets.specs.Sets.{IsAllowed}

-- ---- nodes and slots

module _ (f g : Node → Record) where
  -- the same directory with the same record, or files with the same record
  abbrev pub AreSameNodes : Node → Node → Type 0
  AreSameNodes (Directory d) (Directory c) = (d ≡ c) × (f (Directory d) ≡ g (Directory c))
  AreSameNodes (File kind n) (File another m) = f (File kind n) ≡ g (File another m)
  AreSameNodes _ _ = ⊥

  abbrev pub AreSameSlots : Slot → Slot → Type 0
  AreSameSlots None None = Unit {0}
  AreSameSlots (Some v) (Some w) = AreSameNodes v w
  AreSameSlots _ _ = ⊥

  -- each entry holds alike nodes
  abbrev AreSameHeld : List (Entry × Node) → List (Entry × Node) → Type 0
  AreSameHeld [] [] = Unit {0}
  AreSameHeld (x ∷ xs) (y ∷ ys) = (x.0 ≡ y.0) × AreSameNodes x.1 y.1 × AreSameHeld xs ys
  AreSameHeld _ _ = ⊥

  same_held : (es : List Entry) (ss us : List Slot) → length ss ≡ length us
      → ((i : ℕ) → AreSameSlots (slot_at ss i) (slot_at us i)) → AreSameHeld (held_in_slots es ss) (held_in_slots es us)
  same_held [] ss us long same = tt
  same_held (e ∷ es) [] [] long same = tt
  same_held (e ∷ es) [] (u ∷ us) long same = absurd (omega (arith, long))
  same_held (e ∷ es) (s ∷ ss) [] long same = absurd (omega (arith, long))
  same_held (e ∷ es) (s ∷ ss) (u ∷ us) long same =
      by s u (same zero) (same_held es ss us (omega (arith, long)) (λ i. same (suc i)))
    where
      by : (s u : Slot) → AreSameSlots s u → AreSameHeld (held_in_slots es ss) (held_in_slots es us)
          → AreSameHeld (held_in_slots (e ∷ es) (s ∷ ss)) (held_in_slots (e ∷ es) (u ∷ us))
      by None None here rest = rest
      by (Some v) (Some w) here rest = (refl, here, rest)
      by None (Some w) here rest = absurd here
      by (Some v) None here rest = absurd here

  -- ---- what is below a path

  abbrev by_first : List (Path × Node) → List (Path × Record)
  by_first xs = map (λ x. (x.0, f x.1)) xs

  abbrev by_second : List (Path × Node) → List (Path × Record)
  by_second xs = map (λ x. (x.0, g x.1)) xs

  abbrev More : Type 0
  More = Path → ℕ → List (Path × Node)

  abbrev AreSameBelow : More → More → Type 0
  AreSameBelow more less = (p : Path) (d : ℕ) → by_first (more p d) ≡ by_second (less p d)

  below_node : (more less : More) → AreSameBelow more less → (p : Path) (e : Entry) (v w : Node) → AreSameNodes v w
      → by_first (below_entry more p (e, v)) ≡ by_second (below_entry less p (e, w))
  below_node more less same p e (Directory d) (Directory c) here =
      (λ i. (p ++ e.name ∷ [], here.1 i) ∷ by_first (more (p ++ e.name ∷ []) d))
      ∙ ap (λ xs. (p ++ e.name ∷ [], g (Directory c)) ∷ xs)
      (same (p ++ e.name ∷ []) d ∙ ap (λ k. by_second (less (p ++ e.name ∷ []) k)) here.0)
  below_node more less same p e (File kind n) (File another m) here = λ i. (p ++ e.name ∷ [], here i) ∷ []
  below_node more less same p e (Directory d) (File another m) here = absurd here
  below_node more less same p e (File kind n) (Directory c) here = absurd here

  below_one : (more less : More) → AreSameBelow more less → (p : Path) (d : ℕ) (e : Entry) (v w : Node) → AreSameNodes v w
      → by_first (below_if more p d (e, v)) ≡ by_second (below_if less p d (e, w))
  below_one more less same p d e v w here = by (e.directory == d) (below_node more less same p e v w here)
    where
      by : (b : Bool) → by_first (below_entry more p (e, v)) ≡ by_second (below_entry less p (e, w))
          → by_first (cond b (below_entry more p (e, v)) []) ≡ by_second (cond b (below_entry less p (e, w)) [])
      by true is = is
      by false is = refl

  below_all : (more less : More) → AreSameBelow more less → (p : Path) (d : ℕ) (xs ys : List (Entry × Node)) → AreSameHeld xs ys
      → by_first (flat_map (below_if more p d) xs) ≡ by_second (flat_map (below_if less p d) ys)
  below_all more less same p d [] [] held = refl
  below_all more less same p d [] (y ∷ ys) held = absurd held
  below_all more less same p d (x ∷ xs) [] held = absurd held
  below_all more less same p d (x ∷ xs) (y ∷ ys) held =
      map-append (λ x. (x.0, f x.1)) (below_if more p d x) (flat_map (below_if more p d) xs)
      ∙ (λ i. here i ++ below_all more less same p d xs ys held.2 i)
      ∙ sym (map-append (λ x. (x.0, g x.1)) (below_if less p d y) (flat_map (below_if less p d) ys))
    where
      here : by_first (below_if more p d x) ≡ by_second (below_if less p d y)
      here =
          below_one more less same p d x.0 x.1 y.1 held.1
          ∙ ap (λ e. by_second (below_if less p d (e, y.1))) held.0

  below_same : (xs ys : List (Entry × Node)) → AreSameHeld xs ys → (n : ℕ) → AreSameBelow (below xs n) (below ys n)
  below_same xs ys held zero p d = refl
  below_same xs ys held (suc n) p d = below_all (below xs n) (below ys n) (below_same xs ys held n) p d xs ys held

  -- ---- as maps

  found_first : (q : Path) (xs : List (Path × Node)) → find path_cmp q (by_first xs) ≡ option_map f (find path_cmp q xs)
  found_first q [] = refl
  found_first q (x ∷ xs) = by (eq_by_cmp path_cmp q x.0) (found_first q xs)
    where
      by : (b : Bool) → find path_cmp q (by_first xs) ≡ option_map f (find path_cmp q xs)
          → cond b (Some (f x.1)) (find path_cmp q (by_first xs)) ≡ option_map f (cond b (Some x.1) (find path_cmp q xs))
      by true rest = refl
      by false rest = rest

  found_second : (q : Path) (xs : List (Path × Node)) → find path_cmp q (by_second xs) ≡ option_map g (find path_cmp q xs)
  found_second q [] = refl
  found_second q (x ∷ xs) = by (eq_by_cmp path_cmp q x.0) (found_second q xs)
    where
      by : (b : Bool) → find path_cmp q (by_second xs) ≡ option_map g (find path_cmp q xs)
          → cond b (Some (g x.1)) (find path_cmp q (by_second xs)) ≡ option_map g (cond b (Some x.1) (find path_cmp q xs))
      by true rest = refl
      by false rest = rest

  abbrev listed : List (Entry × Node) → ℕ → List (Path × Node)
  listed es deep = ([], Directory 0) ∷ below es deep [] 0

  found_same : (xs ys : List (Entry × Node)) → AreSameHeld xs ys → f (Directory 0) ≡ g (Directory 0) → (deep : ℕ) (q : Path)
      → option_map f (find path_cmp q (listed xs deep)) ≡ option_map g (find path_cmp q (listed ys deep))
  found_same xs ys held root deep q =
      sym (found_first q (listed xs deep))
      ∙ (λ i. find path_cmp q (([], root i) ∷ below_same xs ys held deep [] 0 i))
      ∙ found_second q (listed ys deep)

-- ---- two sets

module _ (t : Trace) (m : Micros) (a : Atlas) (is : IsAtlas t m a) (places others : List ℕ)
    (allowed : IsAllowed (needs_of m) (length m.ops) places) (allowed_too : IsAllowed (needs_of m) (length m.ops) others) where
  abbrev slots_by : List ℕ → List Slot
  slots_by set = fold slots_after a.slots (map (step_at a.steps) set)

  abbrev state_by : List ℕ → State
  state_by set = state_of (start_state t) m.ops set

  abbrev deep : ℕ
  deep = length a.directories + 1

  nodes_by : (set : List ℕ) → IsAllowed (needs_of m) (length m.ops) set
      → from_entries {R = path_cmp} (([], Directory 0) ∷ below (held_in_slots a.entries (slots_by set)) deep [] 0)
      ≡ nodes_left (state_by set)
  nodes_by set h =
      paths_of_slots a.entries (slots_by set) is.ascending deep
      ∙ sym (λ i. paths_in (deep_left t m a is set h i + 1) (table_left t m a is set h i))

  read_by : (set : List ℕ) → IsAllowed (needs_of m) (length m.ops) set → (q : Path)
      → get (map_values (record_of (state_by set)) (nodes_left (state_by set))) q
      ≡ option_map (record_of (state_by set))
      (find path_cmp q (([], Directory 0) ∷ below (held_in_slots a.entries (slots_by set)) deep [] 0))
  read_by set h q =
      get-map_values path_cmp (record_of (state_by set)) (nodes_left (state_by set)) q
      ∙ ap (λ n. option_map (record_of (state_by set)) (get n q)) (sym (nodes_by set h))
      ∙ ap (option_map (record_of (state_by set)))
      (get-from_entries path_total (([], Directory 0) ∷ below (held_in_slots a.entries (slots_by set)) deep [] 0) q)

  -- they leave equal trees
  pub same_trees_left : record_of (state_by places) (Directory 0) ≡ record_of (state_by others) (Directory 0)
      → ((i : ℕ) → AreSameSlots (record_of (state_by places)) (record_of (state_by others)) (slot_at (slots_by places) i)
      (slot_at (slots_by others) i))
      → crash_state_of t m places ≡ crash_state_of t m others
  same_trees_left root same =
      let f = record_of (state_by places) in
      let g = record_of (state_by others) in
      let long : length (slots_by places) ≡ length (slots_by others) =
      long_left t m a is places allowed ∙ sym (long_left t m a is others allowed_too) in
      let held = same_held f g a.entries (slots_by places) (slots_by others) long same in
      ap fresh (same_map path_total path_exact _ _ (λ q.
      read_by places allowed q
      ∙ found_same f g (held_in_slots a.entries (slots_by places)) (held_in_slots a.entries (slots_by others)) held root deep q
      ∙ sym (read_by others allowed_too q)))
