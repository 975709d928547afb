-- Which names the root has, by entries and by the tree.
use Rattle.std.proofs.Common.{◌≡◌, ℕ, zero, suc, ◌+◌, ◌<◌, ◌==◌, true, false, cond, List, [], ◌∷◌, None, Option, Some}
use Rattle.std.proofs.Common.{fold, length, map, refl, sym, ap, ◌∙◌, arith, inr, ⊎_elim}
use Rattle.std.proofs.lemmas.Bool.{cases_Bool, eqb-true}
use Rattle.std.specs.FinMap.{entries, find, get, get-from_entries}
use Rattle.std.specs.List.{range_with_len}
use Rattle.std.specs.Option.{is_some, option_map}
use Rattle.cs_entries.specs.declared.entry.Entry.{Entry}
use Rattle.cs_entries.specs.declared.node.Node.{Node}
use Rattle.cs_entries.specs.declared.node.Node.TheVariants.{Directory}
use Rattle.cs_entries.specs.Paths.{down, entry_in}
use Rattle.cs_entries.specs.Tables.{Table, below, held_in, paths_in}
use Rattle.cs_entries.specs.Laws.Listed.{In, leads_listed, listed_leads}
use Rattle.cs_entries.specs.Laws.Records.{find_in, in_found, in_table, table_in}
use Rattle.cs_tree_model.specs.Laws.Fresh.{record_at-fresh}
use Rattle.cs_tree_model.specs.Laws.Paths.{option_cases, path_exact, path_total}
use Rattle.cs_tree_model.specs.Maps.Values.{get-map_values}
use Rattle.cs_tree_model.specs.Tree.{Path, path_cmp, record_at}
use Rattle.cs_trace.specs.Traces.{Trace}
use Rattle.cs_micro.specs.Micros.{Micros}
use Rattle.cs_apm.specs.Atlases.{Atlas, IsAtlas}
use Rattle.cs_apm.specs.Laws.Mirrors.{at_place, fold_mirror}
use Rattle.cs_apm.specs.Laws.Trees.{entries_fold}
use Rattle.cs_apm.specs.Orders.{needs_of}
use Rattle.cs_apm.specs.Rules.{op_at}
use Rattle.cs_apm.specs.Slots.{Slot, entry_at, slot_at, slots_after, step_at}
use Rattle.cs_apm.specs.States.{State, crash_state_of, nodes_left, record_of, records_of, start_state, state_of, with_created}
use Rattle.cs_apm.proofs.Building.{long_left}
use Rattle.cs_sets.specs.Sets.{IsAllowed}
use Rattle.cs_different.specs.Digests.{with_part}
use Rattle.cs_different.specs.Shapes.{shape_of_slots, with_slot}

some_mapped : {X Y : Type 0} (f : X → Y) (o : Option X) → is_some (option_map f o) ≡ is_some o
some_mapped f None = refl
some_mapped f (Some x) = refl

-- the root has a name exactly if its entry of the name holds something
module _ (t : Table) (n : ℕ) (name : List ℕ) where
  abbrev listed : List (Path × Node)
  listed = ([], Directory 0) ∷ below (entries t) (suc n) [] 0

  some_name : ◌≡◌ {A = Path} (name ∷ []) [] → ⊥
  some_name e = cc e

  named : (v : Node) → find path_cmp (name ∷ []) listed ≡ Some v → get t (entry_in 0 name) ≡ Some v
  named v is = ⊎_elim
      (λ (root : ◌≡◌ {A = Path × Node} (name ∷ [], v) ([], Directory 0)). absurd (some_name (ap (λ x. x.0) root)))
      (λ (later : In (name ∷ [], v) (below (entries t) (suc n) [] 0)).
      (let w = listed_leads (held_in t) (entries t) (in_table t) (suc n) [] 0 (name ∷ []) v later in
      ap (down (held_in t) (Some (Directory 0))) w.1 ∙ w.2))
      (find_in path_total path_exact (name ∷ []) listed v is)

  found_as : (o : Option Node) → get t (entry_in 0 name) ≡ o → is_some (find path_cmp (name ∷ []) listed) ≡ is_some o
  found_as None is = ⊎_elim
      (λ (none : find path_cmp (name ∷ []) listed ≡ None). ap is_some none)
      (λ (some : (v : Node) × (find path_cmp (name ∷ []) listed ≡ Some v)).
      ap is_some (some.1 ∙ sym (named some.0 some.1) ∙ is))
      (option_cases (find path_cmp (name ∷ []) listed))
  found_as (Some v) is = ⊎_elim
      (λ (none : find path_cmp (name ∷ []) listed ≡ None).
      absurd (in_found path_total path_exact (name ∷ []) listed v
      (inr (leads_listed (held_in t) (entries t) (table_in t) (suc n) [] 0 name [] v (omega arith) is)) none))
      (λ (some : (w : Node) × (find path_cmp (name ∷ []) listed ≡ Some w)). ap is_some some.1)
      (option_cases (find path_cmp (name ∷ []) listed))

  root_name : is_some (get (paths_in (suc n) t) (name ∷ [])) ≡ is_some (get t (entry_in 0 name))
  unfolding paths_in
  root_name = ap is_some (get-from_entries path_total listed (name ∷ [])) ∙ found_as (get t (entry_in 0 name)) refl

-- the tree that a set leaves has the name
module _ (t : Trace) (m : Micros) (a : Atlas) (is : IsAtlas t m a) (places : List ℕ)
    (allowed : IsAllowed (needs_of m) (length m.ops) places) where
  abbrev left : List Slot
  left = fold slots_after a.slots (map (step_at a.steps) places)

  abbrev state : State
  state = state_of (start_state t) m.ops places

  held_left : (e : Entry) (i : ℕ) → i < length a.entries → entry_at a.entries i ≡ e → get state.entries e ≡ slot_at left i
  unfolding state_of
  held_left e i low at =
      ap (λ u. get u e) (entries_fold (with_created (start_state t) m.ops) (map (op_at m.ops) places))
      ∙ fold_mirror a.entries is.ascending m.ops a.steps is.steps places a.slots is.long (with_created (start_state t) m.ops).entries
      is.start e
      ∙ at_place a.entries left is.ascending (long_left t m a is places allowed) i e (low, at)

  pub root_slot : (i : ℕ) → i < length a.entries → (entry_at a.entries i).directory ≡ 0
      → is_some (slot_at left i) ≡ is_some (record_at (crash_state_of t m places) ((entry_at a.entries i).name ∷ []))
  root_slot i low root =
      let name = (entry_at a.entries i).name in
      let deep : length state.directories + 1 ≡ suc (length state.directories) = omega arith in
      sym (ap is_some (record_at-fresh (records_of state) (name ∷ []))
      ∙ some_mapped _ (get (records_of state) (name ∷ []))
      ∙ ap is_some (get-map_values path_cmp (record_of state) (nodes_left state) (name ∷ []))
      ∙ some_mapped (record_of state) (get (nodes_left state) (name ∷ []))
      ∙ ap (λ k. is_some (get (paths_in k state.entries) (name ∷ []))) deep
      ∙ root_name state.entries (length state.directories) name
      ∙ ap is_some (held_left (entry_in 0 name) i low (ap (λ d. entry_in d name) root)))

fold_same : (f g : ℕ → ℕ → ℕ) (d k m : ℕ) → ((x i : ℕ) → i < k + m → f x i ≡ g x i)
    → fold f d (range_with_len k m) ≡ fold g d (range_with_len k m)
fold_same f g d k zero same = refl
fold_same f g d k (suc m) same =
    ap (λ x. fold f x (range_with_len (k + 1) m)) (same d k (omega arith))
    ∙ fold_same f g (g d k) (k + 1) m (λ x i low. same x i (omega (arith, low)))

-- sets that leave equal trees have one shape
module _ (t : Trace) (m : Micros) (a : Atlas) (is : IsAtlas t m a) (places others : List ℕ)
    (allowed : IsAllowed (needs_of m) (length m.ops) places) (allowed_too : IsAllowed (needs_of m) (length m.ops) others)
    (same : crash_state_of t m places ≡ crash_state_of t m others) where
  abbrev left_by : List ℕ → List Slot
  left_by set = fold slots_after a.slots (map (step_at a.steps) set)

  mixed_same : (x i : ℕ) → i < length a.entries
      → with_slot (entry_at a.entries i) (slot_at (left_by places) i) x ≡ with_slot (entry_at a.entries i) (slot_at (left_by others) i) x
  mixed_same x i below = ⊎_elim
      (λ (root : ((entry_at a.entries i).directory == 0) ≡ true).
      (let at : (entry_at a.entries i).directory ≡ 0 = eqb-true (entry_at a.entries i).directory 0 root in
      let held : is_some (slot_at (left_by places) i) ≡ is_some (slot_at (left_by others) i) =
      root_slot t m a is places allowed i below at
      ∙ ap (λ tree. is_some (record_at tree ((entry_at a.entries i).name ∷ []))) same
      ∙ sym (root_slot t m a is others allowed_too i below at) in
      ap (λ b. cond ((entry_at a.entries i).directory == 0) (with_part x (cond b 1 0)) x) held))
      (λ (other : ((entry_at a.entries i).directory == 0) ≡ false).
      ap (λ b. cond b (with_part x (cond (is_some (slot_at (left_by places) i)) 1 0)) x) other
      ∙ sym (ap (λ b. cond b (with_part x (cond (is_some (slot_at (left_by others) i)) 1 0)) x) other))
      (cases_Bool ((entry_at a.entries i).directory == 0))

  pub same_shape : shape_of_slots a.entries (left_by places) ≡ shape_of_slots a.entries (left_by others)
  unfolding shape_of_slots
  same_shape =
      fold_same (λ x i. with_slot (entry_at a.entries i) (slot_at (left_by places) i) x)
      (λ x i. with_slot (entry_at a.entries i) (slot_at (left_by others) i) x) 0 0 (length a.entries)
      (λ x i low. mixed_same x i (omega (arith, low)))
