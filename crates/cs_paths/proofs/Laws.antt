-- What is known of the orders of paths of a trace: where directories are in a state, and which moves
-- of directories it keeps.
use Rattle.std.proofs.Common.{◌≡◌, ◌≢◌, ◌-◌, ◌<◌, ◌≤◌, ℕ, Bool, true, false, List, Some, length, sym, ap, ◌∙◌, arith, ⊎_elim, subst}
use Rattle.std.proofs.lemmas.Bool.{cases_Bool, cases_eq, cases_lt, false≢true, le-ltb, lt-ltb}
use Rattle.std.specs.FinMap.{get}
use Rattle.cs_entries.specs.declared.entry.Entry.{Entry}
use Rattle.cs_entries.specs.declared.node.Node.TheVariants.{Directory}
use Rattle.cs_entries.specs.Rules.{moves_directory}
use Rattle.cs_trace.specs.Traces.{Trace}
use Rattle.cs_micro.specs.Micros.{Micros}
use Rattle.cs_sets.specs.Sets.{IsAllowed, is_member}
use Rattle.cs_apm.specs.Atlases.{IsAtlas, atlas_in}
use Rattle.cs_apm.specs.Laws.Members.{found_has, has_at}
use Rattle.cs_apm.specs.Orders.{needs_of}
use Rattle.cs_apm.specs.Rules.{entry_op_at}
use Rattle.cs_apm.specs.States.{start_state, state_of}
use Rattle.cs_apm.specs.declared.tables.Tables.{Tables}
use Rattle.cs_paths.specs.Marks.{kept_at, mark_at, numbers_that_pass}
use Rattle.cs_paths.specs.PathOrders.{directory_moves, moves_kept, position_by, positions_of}
use Rattle.cs_paths.specs.PathOrders.{ArePlaces, ArePositions, KeepsFirst}
use Rattle.cs_paths.proofs.Counted.{passing, place_of_passing}
use Rattle.cs_paths.proofs.Keeping.{first_kept, kept_low, low, other_high}
use Rattle.cs_paths.proofs.Listing.{ids_are, ids_have, ids_up}
use Rattle.cs_paths.proofs.Tabled as tabled

-- each place is there
pub place_there : (n : ℕ) (places : List ℕ) → ArePlaces n places → (k : ℕ) → k < n
    → (i : ℕ) × (i < length places) × (kept_at places i ≡ k)
place_there n places are k lt = are.there k lt

module _ (t : Trace) (m : Micros) (tables : Tables) (is : IsAtlas t m (atlas_in tables)) where
  -- after any number of moves, each directory is at an entry
  pub positions_there : (k : ℕ)
      → ArePositions (length tables.entries.items) (length tables.directories.items)
      (positions_of m.ops tables k)
  positions_there k = tabled.positions_there t m tables is k

  module _ (places : List ℕ) (allowed : IsAllowed (needs_of m) (length m.ops) places) where
    -- a set's table has a directory at its position after as many moves as the set keeps
    pub placed_left : (e : Entry) (d : ℕ)
        → get (state_of (start_state t) m.ops places).entries e ≡ Some (Directory d)
        → position_by tables.entries.items
        (positions_of m.ops tables (moves_kept m.ops places)) d ≡ e
    placed_left e d held = tabled.placed_left t m tables is places allowed e d held

-- a set keeps no more moves than there are
pub moves_low : (m : Micros) (places : List ℕ)
    → IsAllowed (needs_of m) (length m.ops) places
    → moves_kept m.ops places ≤ length (directory_moves m.ops)
moves_low m places allowed = low m places allowed

-- of the moves of directories, it keeps the first so many
pub keeps_first : (m : Micros) (places : List ℕ)
    → IsAllowed (needs_of m) (length m.ops) places
    → KeepsFirst m.ops places (moves_kept m.ops places)
keeps_first m places allowed i lt =
    let moves = λ (k : ℕ). moves_directory (entry_op_at m.ops k) in
    let move = kept_at (directory_moves m.ops) i in
    let at = ids_are moves (length m.ops) i lt in
    let is : passing moves move ≡ i = place_of_passing moves (length m.ops) i lt in ⊎_elim
    (λ (here : is_member places move ≡ true).
    here
    ∙ sym (lt-ltb i (moves_kept m.ops places)
    (subst (λ k. k < moves_kept m.ops places) is (kept_low m places allowed move at.0 at.1 here))))
    (λ (gone : is_member places move ≡ false).
    gone
    ∙ sym (le-ltb i (moves_kept m.ops places)
    (subst (λ k. moves_kept m.ops places ≤ k) is (other_high m places allowed move at.0 at.1 gone))))
    (cases_Bool (is_member places move))

module _ (m : Micros) (members : List Bool) (long : length members ≡ length m.ops)
    (allowed : IsAllowed (needs_of m) (length m.ops)
    (numbers_that_pass (mark_at members) (length members))) where
  abbrev moves : List ℕ
  moves = directory_moves m.ops

  abbrev moves_one : ℕ → Bool
  moves_one k = moves_directory (entry_op_at m.ops k)

  abbrev places : List ℕ
  places = numbers_that_pass (mark_at members) (length members)

  -- each of them moves a directory
  move_at : (i : ℕ) → i < length moves → (kept_at moves i < length m.ops) × (moves_one (kept_at moves i) ≡ true)
  move_at i lt = ids_are moves_one (length m.ops) i lt

  counted_at : (i : ℕ) → i < length moves → passing moves_one (kept_at moves i) ≡ i
  counted_at i lt = place_of_passing moves_one (length m.ops) i lt

  is_in : (k : ℕ) → k < length m.ops → mark_at members k ≡ true → is_member places k ≡ true
  is_in k lt here =
      let w = ids_have (mark_at members) (length members) k (omega (arith, lt, long)) here in
      has_at places w.0 k w.1 w.2

  is_marked : (k : ℕ) → is_member places k ≡ true → mark_at members k ≡ true
  is_marked k member =
      let w = found_has places k member in
      ap (mark_at members) (sym w.2) ∙ (ids_are (mark_at members) (length members) w.0 w.1).1

  is_out : (k : ℕ) → mark_at members k ≡ false → is_member places k ≡ false
  is_out k gone = ⊎_elim
      (λ (here : is_member places k ≡ true). absurd (false≢true (sym gone ∙ is_marked k here)))
      (λ (out : is_member places k ≡ false). out)
      (cases_Bool (is_member places k))

  -- with a move of a directory it keeps those before it
  pub moves_first : (i j : ℕ) → i < j → j < length moves
      → mark_at members (kept_at moves j) ≡ true → mark_at members (kept_at moves i) ≡ true
  moves_first i j lt low here =
      let first = move_at i (omega (arith, lt, low)) in let second = move_at j low in
      is_marked (kept_at moves i)
      (first_kept m places allowed (kept_at moves i) (kept_at moves j) (ids_up moves_one (length m.ops) i j lt low)
      first.1 second.1 (is_in (kept_at moves j) second.0 here))

  -- the first n are members and the others aren't: it keeps n
  pub moves_counted : (n : ℕ) → n ≤ length moves
      → ((k : ℕ) → k < n → mark_at members (kept_at moves k) ≡ true)
      → ((k : ℕ) → n ≤ k → k < length moves → mark_at members (kept_at moves k) ≡ false)
      → n ≡ moves_kept m.ops (numbers_that_pass (mark_at members) (length members))
  moves_counted n le low_marks high_marks =
      (let up = at_least in let down = at_most in omega (arith, up, down))
    where
      at_least : n ≤ moves_kept m.ops places
      at_least = ⊎_elim
          (λ (none : n ≡ 0). omega (arith, none))
          (λ (some : n ≢ 0).
          (let inside : n - 1 < length moves = omega (arith, some, le) in
          let at = move_at (n - 1) inside in
          let is = counted_at (n - 1) inside in
          let below = kept_low m places allowed (kept_at moves (n - 1)) at.0 at.1
          (is_in (kept_at moves (n - 1)) at.0 (low_marks (n - 1) (omega (arith, some)))) in
          omega (arith, is, below, some)))
          (cases_eq n 0)

      at_most : moves_kept m.ops places ≤ n
      at_most = ⊎_elim
          (λ (more : n < length moves).
          (let at = move_at n more in
          let is = counted_at n more in
          let above = other_high m places allowed (kept_at moves n) at.0 at.1
          (is_out (kept_at moves n) (high_marks n (omega arith) more)) in
          omega (arith, is, above)))
          (λ (all : length moves ≤ n). (let most = low m places allowed in omega (arith, all, most)))
          (cases_lt n (length moves))
