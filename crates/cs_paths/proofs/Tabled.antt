-- Where the directories of a trace are in its tables, and in the table that a set leaves.
use Rattle.std.proofs.Common.{◌≡◌, ◌≢◌, ℕ, zero, suc, ◌+◌, ◌<◌, ◌≤◌, Bool, true, false, cond, List, [], ◌∷◌, None, Some, ◌⊎◌, inl, inr}
use Rattle.std.proofs.Common.{refl, sym, ap, ◌∙◌, subst, arith, ⊎_elim, length, take, length-append, IfSome}
use Rattle.std.proofs.lemmas.Bool.{cases_Bool, cases_eq, cases_lt}
use Rattle.std.proofs.lemmas.List.{get_or_past}
use Rattle.std.proofs.lemmas.List.FromFn.{length-map-range_with_len}
use Rattle.std.specs.FinMap.{get}
use Rattle.cs_entries.specs.declared.entry.Entry.{Entry}
use Rattle.cs_entries.specs.declared.node.Node.{Node}
use Rattle.cs_entries.specs.declared.node.Node.TheVariants.{Directory}
use Rattle.cs_entries.specs.Entries.{Entries, EntryOp, MovesDirectory, all}
use Rattle.cs_entries.specs.Entries as entry
use Rattle.cs_entries.specs.Laws.Allowed.{allowed_has}
use Rattle.cs_entries.specs.Laws.Left.{Made as IsMadeBefore, left, legal_left, member_step, origin, other_step, tree_left, whole}
use Rattle.cs_entries.specs.Laws.Listed.{node_of}
use Rattle.cs_entries.specs.Laws.One.{IsMoved, no_node, stays_or_moves}
use Rattle.cs_entries.specs.Laws.Places.{at_position}
use Rattle.cs_entries.specs.Laws.States.{table_held}
use Rattle.cs_entries.specs.Legal.{IsHeld, IsLegal}
use Rattle.cs_entries.specs.Positions.{AreHomes as AreEntryHomes, placed_by, position}
use Rattle.cs_entries.specs.Rules.{IsClosed, moves_directory}
use Rattle.cs_entries.specs.Rules as entries
use Rattle.cs_entries.specs.Sets.{AreFew, AreFixed, AreNumbered, HasNeeds}
use Rattle.cs_entries.specs.Tables.{held_in}
use Rattle.cs_trace.specs.Traces.{Trace, directory_count, start_table}
use Rattle.cs_trace_lines.specs.Versions.{is_fourth, profile_of}
use Rattle.cs_micro.specs.Legal.{AreLegal, Made, entry_op}
use Rattle.cs_micro.specs.Micros.{Micros}
use Rattle.cs_micro.specs.declared.micro_op.MicroOp.TheVariants.{Say}
use Rattle.cs_sets.specs.Sets.{IsAllowed, is_member}
use Rattle.cs_apm.specs.Atlases.{IsAtlas, atlas_in}
use Rattle.cs_apm.specs.Laws.Homes.{few, fixed, legal_entries, numbered}
use Rattle.cs_apm.specs.Laws.Mirrors.{at_place, step_is}
use Rattle.cs_apm.specs.Laws.Trees.{entries_closed, entries_left, inside}
use Rattle.cs_apm.specs.Orders.{needs_of}
use Rattle.cs_apm.specs.Rules.{entry_op_at, op_at}
use Rattle.cs_apm.specs.Slots.{Slot, entry_at, slot_at, slot_of, step_at}
use Rattle.cs_apm.specs.States.{directories_made, directory_owner, start_state, state_of}
use Rattle.cs_apm.specs.declared.tables.Tables.{Tables}
use Rattle.cs_paths.specs.PathOrders.{ArePositions, directory_moves, homes_of, moved_directory, moves_kept}
use Rattle.cs_paths.specs.PathOrders.{position_by, positions_of}
use Rattle.cs_paths.proofs.Homes.{AllFit, SetsLow, StepFits, home_first, home_made, long_homes, low_homes}
use Rattle.cs_paths.proofs.Keeping.{kept_low, low, other_high}
use Rattle.cs_paths.proofs.Placed.{long_all, low_all, placed, stays}
use Rattle.cs_paths.proofs.Steps.{made_step, moved_by, moves_is, sets_low, step_fits}

-- a slot that has something at an entry is in the list
found_place : (es : List Entry) (ss : List Slot) (e : Entry) (node : Node) → slot_of es ss e ≡ Some node
    → (i : ℕ) × (slot_at ss i ≡ Some node)
found_place [] ss e node is = absurd (no_node node is)
found_place (f ∷ es) [] e node is = absurd (no_node node is)
found_place (f ∷ es) (s ∷ ss) e node is = by (entry.entry_eq f e) is (found_place es ss e node)
  where
    by : (b : Bool) → cond b s (slot_of es ss e) ≡ Some node
        → (slot_of es ss e ≡ Some node → (i : ℕ) × (slot_at ss i ≡ Some node))
        → (i : ℕ) × (slot_at (s ∷ ss) i ≡ Some node)
    by true h rest = (0, h)
    by false h rest = (let w = rest h in (suc w.0, w.1))

module _ (t : Trace) (m : Micros) (tables : Tables) (is : IsAtlas t m (atlas_in tables)) where
  abbrev entries_all : List Entry
  entries_all = tables.entries.items

  abbrev n : ℕ
  n = length m.ops

  abbrev ops : ℕ → EntryOp
  ops = entry_op_at m.ops

  abbrev start : Entries
  start = held_in (start_table t)

  abbrev made : Made
  made = record {
    entries = start_table t;
    files = length t.files;
    homes = is.legal.homes;
  }

  legal_here : AreLegal m.version made m.ops
  legal_here = subst (λ v. AreLegal v made m.ops) (sym is.version) is.legal.legal

  legal : (k : ℕ) → k < n → IsLegal (whole start ops k) (ops k)
  legal = legal_entries m.version made m.ops legal_here is.legal.are

  numbering : AreNumbered start ops n ⊎ AreFixed start ops n
  numbering = ⊎_elim
      (λ (h : is_fourth m.version ≡ true). inl (numbered m.version made m.ops legal_here is.legal.are h))
      (λ (h : is_fourth m.version ≡ false). inr (fixed m.version made m.ops legal_here is.legal.are h))
      (cases_Bool (is_fourth m.version))

  -- ---- numbers

  as_many : length (start_state t).directories ≡ length is.legal.homes
  as_many = length-map-range_with_len (directory_owner t) 0 (directory_count t.nodes) ∙ sym is.legal.many

  abbrev few_all : ℕ
  few_all = length is.legal.homes + length (directories_made m.ops)

  all_directories : length tables.directories.items ≡ few_all
  all_directories =
      ap length is.directories ∙ length-append (start_state t).directories (directories_made m.ops)
      ∙ ap (λ k. k + length (directories_made m.ops)) as_many

  numbers : AreFew start ops n few_all
  numbers = few m.version made m.ops legal_here is.legal.are

  low_number : (d : ℕ) → d < few_all → d < length tables.directories.items
  low_number d lt = (let same = all_directories in omega (arith, lt, same))

  -- a directory that is moved is one of them
  pub known_moves : (k : ℕ) → k < n → IfSome (moved_directory (op_at m.ops k)) (λ c. c < length tables.directories.items)
  known_moves k lt = moved_by (λ c. c < length tables.directories.items) (op_at m.ops k) (λ a b c old move.
      (let here = subst (IsLegal (whole start ops k)) move (legal k lt) in
      low_number c (⊎_elim
      (λ (s : IsHeld start c). numbers.first s.0 c s.1)
      (λ (w : IsMadeBefore start ops all k c).
      (let before = w.2 in numbers.made w.0 w.1 c (omega (arith, before, lt)) w.4))
      (origin start ops all k a c here.1))))

  -- ---- homes

  -- the directory is there at the start, or it is made there
  abbrev May : ℕ → Entry → Type 0
  May d e = (start e ≡ Some (Directory d)) ⊎ ((k : ℕ) × (k < n) × (ops k ≡ entry.Create e (Directory d)))

  one_home : (d : ℕ) (e f : Entry) → May d e → May d f → e ≡ f
  one_home d e f (inl a) (inl b) = is.tree.one e f d a b
  one_home d e f (inl a) (inr w) = ⊎_elim
      (λ (own : AreNumbered start ops n). absurd ((own w.0 d f w.1 w.2).1 e a))
      (λ (fix : AreFixed start ops n). sym (fix.first e d a) ∙ fix.made w.0 f d w.1 w.2)
      numbering
  one_home d e f (inr v) (inl b) = ⊎_elim
      (λ (own : AreNumbered start ops n). absurd ((own v.0 d e v.1 v.2).1 f b))
      (λ (fix : AreFixed start ops n). sym (fix.made v.0 e d v.1 v.2) ∙ fix.first f d b)
      numbering
  one_home d e f (inr v) (inr w) = ⊎_elim
      (λ (own : AreNumbered start ops n). ⊎_elim
      (λ (same : v.0 ≡ w.0).
      (let both : entry.Create e (Directory d) ≡ entry.Create f (Directory d) = sym v.2 ∙ ap ops same ∙ w.2 in cc))
      (λ (other : v.0 ≢ w.0). ⊎_elim
      (λ (before : v.0 < w.0). absurd ((own w.0 d f w.1 w.2).2 v.0 e before v.2))
      (λ (behind : w.0 ≤ v.0). absurd ((own v.0 d e v.1 v.2).2 w.0 f (omega (arith, behind, other)) w.2))
      (cases_lt v.0 w.0))
      (cases_eq v.0 w.0))
      (λ (fix : AreFixed start ops n). sym (fix.made v.0 e d v.1 v.2) ∙ fix.made w.0 f d w.1 w.2)
      numbering

  slots_fit : AllFit entries_all May 0 tables.slots.items
  slots_fit i c here =
      (let low : i < length tables.slots.items = ⊎_elim
      (λ (l : i < length tables.slots.items). l)
      (λ (past : length tables.slots.items ≤ i). absurd
      (no_node (Directory c) (sym (get_or_past tables.slots.items i None past) ∙ here)))
      (cases_lt i (length tables.slots.items)) in
      let long = is.long in
      let held : start (entry_at entries_all i) ≡ Some (Directory c) =
      is.start (entry_at entries_all i)
      ∙ at_place entries_all tables.slots.items is.ascending is.long i (entry_at entries_all i) (omega (arith, low, long), refl)
      ∙ here in
      let z : i ≡ 0 + i = omega arith in
      subst (λ k. May c (entry_at entries_all k)) z (inl held))

  step_here : (k : ℕ) → StepFits entries_all May (step_at tables.steps.items k)
  step_here k =
      step_fits entries_all May (op_at m.ops k) (step_at tables.steps.items k) (step_is entries_all m.ops tables.steps.items is.steps k)
      (λ e c make. inr (
        k,
        ⊎_elim
            (λ (l : k < n). l)
            (λ (past : n ≤ k).
            (let none : entry.Other ≡ entry.Create e (Directory c) = ap entry_op (sym (get_or_past m.ops k Say past)) ∙ make in
            absurd (cc)))
            (cases_lt k n),
        make,
      ))

  abbrev home : ℕ → Entry
  home = position_by entries_all (homes_of tables)

  homes_are : AreEntryHomes start ops n home
  homes_are = record {
    first = λ e d here.
        (let at = found_place entries_all tables.slots.items e (Directory d) (sym (is.start e) ∙ here) in
        one_home d (home d) e
        (home_first entries_all May (length tables.directories.items) d (low_number d (numbers.first e d here)) tables.slots.items
        tables.steps.items slots_fit step_here at.0 at.1)
        (inl here));
    made = λ k e d lt make.
        (let at = made_step entries_all (op_at m.ops k) (step_at tables.steps.items k) e d
        (step_is entries_all m.ops tables.steps.items is.steps k) make in
        one_home d (home d) e
        (home_made entries_all May (length tables.directories.items) d (low_number d (numbers.made k e d lt make)) tables.slots.items
        tables.steps.items slots_fit step_here k at.place at.step)
        (inr (k, lt, make)));
  }

  -- ---- positions

  long_positions : (k : ℕ) → length (positions_of m.ops tables k) ≡ length tables.directories.items
  long_positions k =
      long_all m.ops tables.steps.items (homes_of tables) (take k (directory_moves m.ops))
      ∙ long_homes (length tables.directories.items) tables.slots.items tables.steps.items

  steps_low : (k : ℕ) → SetsLow (length entries_all) (step_at tables.steps.items k)
  steps_low k =
      subst (λ l. SetsLow l (step_at tables.steps.items k)) is.long
      (sets_low (length tables.slots.items) (length tables.directories.items) (length tables.owners.items)
      (step_at tables.steps.items k) (is.known_steps k))

  pub positions_there : (k : ℕ)
      → ArePositions (length tables.entries.items) (length tables.directories.items) (positions_of m.ops tables k)
  positions_there k = (
    long_positions k,
    λ some.
        (let long = is.long in
        low_all m.ops tables.steps.items (length entries_all) steps_low (homes_of tables) (take k (directory_moves m.ops))
        (low_homes (length entries_all) (length tables.directories.items) tables.slots.items tables.steps.items some
        (omega (arith, long)) steps_low)),
  )

  -- ---- what a set leaves

  module _ (places : List ℕ) (allowed : IsAllowed (needs_of m) (length m.ops) places) where
    abbrev has : ℕ → Bool
    has = is_member places

    abbrev F : ℕ → Entries
    F k = left start ops has k

    closed : IsClosed (entries.needs ops) has
    closed = entries_closed m.ops m.syncs m.version (profile_of m.version) n places allowed

    within : (j : ℕ) → has j ≡ true → j < n
    within = inside m.ops (needs_of m) n places allowed

    needs : HasNeeds ops has
    needs = allowed_has start ops n has closed within numbering

    held : (e : Entry) → get (state_of (start_state t) m.ops places).entries e ≡ F n e
    held e =
        ap (λ u. get u e)
        (entries_left (start_state t) made m.ops m.syncs m.version (profile_of m.version) places is.tree refl is.legal.are
        as_many legal_here allowed)
        ∙ table_held (start_table t) ops n few_all has is.tree legal numbering numbers within closed n (omega arith) e

    -- before the fourth version a directory is at its home
    module _ (fix : AreFixed start ops n) where
      moved_one : (o : EntryOp) (m : Entries) (a : Entry) (d : ℕ) → IsLegal m o → IsMoved o a → m a ≡ Some (Directory d) → MovesDirectory o
      moved_one o m a d here move at =
          (let l = subst (IsLegal m) move.is here in
          let node : move.node ≡ Directory d = node_of move.node (Directory d) (sym l.1 ∙ at) in
          subst MovesDirectory (sym (move.is ∙ ap (λ v. entry.Move a move.to v move.old) node)) tt)

      at_home : (j : ℕ) → j ≤ n → (e : Entry) (d : ℕ) → F j e ≡ Some (Directory d) → home d ≡ e
      at_home zero le e d at = homes_are.first e d at
      at_home (suc j) le e d at = ⊎_elim
          (λ (member : has j ≡ true). ⊎_elim
          (λ (before : F j e ≡ Some (Directory d)). at_home j (omega (arith, le)) e d before)
          (λ (w : (ops j ≡ entry.Create e (Directory d)) ⊎ ((a : Entry) × IsMoved (ops j) a × (F j a ≡ Some (Directory d)))). ⊎_elim
          (λ (make : ops j ≡ entry.Create e (Directory d)). homes_are.made j e d (omega (arith, le)) make)
          (λ (move : (a : Entry) × IsMoved (ops j) a × (F j a ≡ Some (Directory d))). absurd
          (fix.stay j (omega (arith, le))
          (moved_one (ops j) (F j) move.0 d
          (legal_left start ops n has needs is.tree legal numbering j (omega (arith, le)) member
          (tree_left start ops n has needs is.tree legal numbering j (omega (arith, le))))
          move.1 move.2)))
          w)
          (stays_or_moves (F j) (ops j) e d (sym (member_step start ops has j e member) ∙ at)))
          (λ (gone : has j ≡ false). at_home j (omega (arith, le)) e d (sym (other_step start ops has j e gone) ∙ at))
          (cases_Bool (has j))

      still : (k : ℕ) → k < n → moves_directory (ops k) ≡ false
      still k lt = ⊎_elim
          (λ (yes : moves_directory (ops k) ≡ true). absurd (fix.stay k lt (moves_is (ops k) yes)))
          (λ (no : moves_directory (ops k) ≡ false). no)
          (cases_Bool (moves_directory (ops k)))

      at_start : (k d : ℕ) → k ≤ n → position has ops home k d ≡ home d
      at_start zero d le = refl
      at_start (suc k) d le =
          (let before = at_start k d (omega (arith, le)) in
          let same = stays (ops k) d (position has ops home k d) (still k (omega (arith, le))) in ⊎_elim
          (λ (here : has k ≡ true).
          ap (λ b. cond b (placed_by (ops k) d (position has ops home k d)) (position has ops home k d)) here ∙ same ∙ before)
          (λ (gone : has k ≡ false).
          ap (λ b. cond b (placed_by (ops k) d (position has ops home k d)) (position has ops home k d)) gone ∙ before)
          (cases_Bool (has k)))

    at_end : (e : Entry) (d : ℕ) → F n e ≡ Some (Directory d) → position has ops home n d ≡ e
    at_end e d at = ⊎_elim
        (λ (own : AreNumbered start ops n).
        at_position start ops n has needs is.tree legal own home homes_are n (omega arith) e d at)
        (λ (fix : AreFixed start ops n). at_start fix n d (omega arith) ∙ at_home fix n (omega arith) e d at)
        numbering

    known_homes : (k : ℕ) → k < n → IfSome (moved_directory (op_at m.ops k)) (λ c. c < length (homes_of tables))
    known_homes k lt =
        subst (λ l. IfSome (moved_directory (op_at m.ops k)) (λ c. c < l))
        (sym (long_homes (length tables.directories.items) tables.slots.items tables.steps.items)) (known_moves k lt)

    pub placed_left : (e : Entry) (d : ℕ)
        → get (state_of (start_state t) m.ops places).entries e ≡ Some (Directory d)
        → position_by tables.entries.items (positions_of m.ops tables (moves_kept m.ops places)) d ≡ e
    placed_left e d at =
        sym (placed m.ops tables.steps.items entries_all (homes_of tables)
        (step_is entries_all m.ops tables.steps.items is.steps) known_homes has (moves_kept m.ops places)
        (kept_low m places allowed) (other_high m places allowed) (low m places allowed) d)
        ∙ at_end e d (sym (held e) ∙ at)
