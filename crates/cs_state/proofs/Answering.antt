-- What is read of a state by a number.
use Rattle.std.proofs.Common.{◌≡◌, ℕ, zero, suc, ◌+◌, ◌<◌, ◌≤◌, true, false, Bool, cond, [], ◌∷◌, ◌++◌, Option, None, Some, refl, sym, ap, ◌∙◌}
use Rattle.std.proofs.Common.{subst, arith, ⊎_elim, length, take, drop}
use Rattle.std.proofs.lemmas.Bool.{false≢true}
use Rattle.std.proofs.lemmas.Option.{slice_get-get_or}
use Rattle.std.specs.Arc.{arc_value}
use Rattle.std.specs.Option.{is_some, option_and_then, option_map, option_map_or}
use Rattle.cs_tree_model.specs.declared.record.Record.{Record}
use Rattle.cs_tree_model.specs.Fresh.{fresh_record}
use Rattle.cs_tree_model.specs.Laws.Reads.{parent_of_snoc}
use Rattle.cs_tree_model.specs.Laws.Round.{last_of_snoc}
use Rattle.cs_tree_model.specs.Laws.Nexts.{entry_is}
use Rattle.cs_tree_model.specs.Nexts.{entry_below, next_name}
use Rattle.cs_tree_model.specs.Record.{metadata_of}
use Rattle.cs_tree_model.specs.Tree.{NameBytes, Path, bytes_at, last_name, name_numbered, number_at, number_in}
use Rattle.cs_tree_model.specs.Tree.{parent_numbered, parent_path, path_numbered, record_numbered}
use Rattle.cs_entries.specs.declared.entry.Entry.{Entry}
use Rattle.cs_entries.specs.declared.node.Node.{Node}
use Rattle.cs_entries.specs.declared.node.FileKind.{FileKind}
use Rattle.cs_entries.specs.declared.node.Node.TheVariants.{Directory, File}
use Rattle.cs_entries.specs.Legal.{Any, Way}
use Rattle.cs_entries.specs.Paths.{at_path, entry_in, in_node}
use Rattle.cs_entries.specs.Positions.{climb}
use Rattle.cs_entries.specs.Laws.Paths.{at_more, down_more}
use Rattle.cs_apm.specs.Atlases.{atlas_in}
use Rattle.cs_apm.specs.Slots.{IsKnown, Slot, entry_at, slot_at}
use Rattle.cs_apm.specs.States.{record_of}
use Rattle.cs_apm.proofs.Building.{has_root, known_left}
use Rattle.cs_paths.specs.Marks.{kept_at}
use Rattle.cs_state.specs.declared.state.State.{State}
use Rattle.cs_state.specs.Named.{place_of_entry}
use Rattle.cs_state.specs.Parts.{read_in, record_in}
use Rattle.cs_state.specs.Shares.{count_standing, is_entry, number_of_id}
use Rattle.cs_state.specs.States.{count_shown, entry_of_id, number_of_directory, number_of_place, number_shown, places_in, slots_in, tree_in}
use Rattle.cs_state.specs.States.{IsMade, IsNoDirectory, IsNumberOf}
use Rattle.cs_state.proofs.Calling.{atlas, directory_number, each, entry_here, entry_number, entry_tree, es, few, h, id_path, id_slot, inside}
use Rattle.cs_state.proofs.Calling.{leads_there, left, listed, m, mirror, nothing_at, order, parts, placed, ps, root_number, slots, ss, ss_long}
use Rattle.cs_state.proofs.Calling.{at, deep, ps_long}
use Rattle.cs_state.proofs.Holding.{path_at}
use Rattle.cs_state.proofs.Leading.{directory_leads}
use Rattle.cs_state.proofs.Naming.{no_place_found, nothing_held, place_found}
use Rattle.cs_state.proofs.Placing.{path_found, path_past, record_found, record_past}
use Rattle.cs_state.proofs.Standing.{stands_inside}

pub stands : (slot : Slot) → is_entry slot ≡ true → (node : Node) × (slot ≡ Some node)
stands None here = absurd (false≢true here)
stands (Some node) here = (node, refl)

module _ (s : State) (is_made : IsMade s) where
  -- ---- what is at an id

  known_at : (id : ℕ) → id < length (ps s is_made) → (node : Node) → slot_at (ss s is_made) id ≡ Some node
      → IsKnown (length (arc_value s.parts).tables.directories.items) (length (arc_value s.parts).tables.owners.items) (Some node)
  known_at zero low node is =
      subst (IsKnown (length (arc_value s.parts).tables.directories.items) (length (arc_value s.parts).tables.owners.items)) is
      (has_root (arc_value s.parts).trace (arc_value s.parts).micros (atlas_in (arc_value s.parts).tables) (atlas s is_made))
  known_at (suc k) low node is =
      subst (IsKnown (length (arc_value s.parts).tables.directories.items) (length (arc_value s.parts).tables.owners.items))
      (sym (id_slot s is_made k (inside s is_made k low)) ∙ is)
      (known_left (arc_value s.parts).trace (arc_value s.parts).micros (atlas_in (arc_value s.parts).tables) (atlas s is_made)
      (places_in s) (h s is_made).allowed (kept_at (order s is_made) k))

  -- the directory of an entry that holds something is there
  directory_known : (e : Entry) (node : Node) → m s is_made e ≡ Some node
      → e.directory < length (arc_value s.parts).tables.directories.items
  directory_known e node is = (let w = (entry_tree s is_made).reached e node is in by w.0 w.1)
    where
      by : (k : ℕ) → Way (m s is_made) Any k e.directory → e.directory < length (arc_value s.parts).tables.directories.items
      by zero z =
          (let some =
          has_root (arc_value s.parts).trace (arc_value s.parts).micros (atlas_in (arc_value s.parts).tables) (atlas s is_made) in
          omega (arith, z, some))
      by (suc k) w = few s is_made w.0 e.directory w.1

  abbrev entry_id : ℕ → Entry
  entry_id k = entry_at (es s is_made) (kept_at (order s is_made) k)

  its_entry : (k : ℕ) → suc k < length (ps s is_made) → entry_of_id s (suc k) ≡ Some (entry_id k)
  its_entry k low = ap (option_map (entry_at (es s is_made))) (slice_get-get_or (order s is_made) k 0 (inside s is_made k low))

  entry_has : (k : ℕ) (low : suc k < length (ps s is_made)) (node : Node) → slot_at (ss s is_made) (suc k) ≡ Some node
      → m s is_made (entry_id k) ≡ Some node
  entry_has k low node is =
      entry_here s is_made (kept_at (order s is_made) k) ((each s is_made).low k 0 (inside s is_made k low))
      ∙ sym (id_slot s is_made k (inside s is_made k low)) ∙ is

  parent_at : (id : ℕ) → id < length (ps s is_made) → (node : Node) → slot_at (ss s is_made) id ≡ Some node
      → number_at (tree_in s) (parent_path (path_at (ps s is_made) id))
      ≡ option_map_or (λ (e : Entry). number_of_directory s e.directory) (entry_of_id s id) (Some 0)
  parent_at zero low node is = root_number s is_made
  parent_at (suc k) low node is =
      let e = entry_id k in
      ap (λ p. number_at (tree_in s) (parent_path p)) (id_path s is_made k (inside s is_made k low))
      ∙ ap (number_at (tree_in s)) (parent_of_snoc (climb (at s is_made) (deep s is_made) e.directory) e.name)
      ∙ directory_number s is_made e.directory (climb (at s is_made) (deep s is_made) e.directory)
      (directory_leads (m s is_made) (entry_tree s is_made) (at s is_made) (placed s is_made) (deep s is_made) (few s is_made) e node
      (entry_has k low node is))
      ∙ sym (ap (λ o. option_map_or (λ (e : Entry). number_of_directory s e.directory) o (Some 0)) (its_entry k low))

  name_at : (id : ℕ) → id < length (ps s is_made)
      → last_name (path_at (ps s is_made) id) ≡ option_map (λ (e : Entry). e.name) (entry_of_id s id)
  name_at zero low = refl
  name_at (suc k) low =
      let e = entry_id k in
      ap last_name (id_path s is_made k (inside s is_made k low))
      ∙ last_of_snoc (climb (at s is_made) (deep s is_made) e.directory) e.name
      ∙ sym (ap (option_map (λ (e : Entry). e.name)) (its_entry k low))

  known_entry : (id : ℕ) → id < length (ps s is_made) → (node : Node) → slot_at (ss s is_made) id ≡ Some node → (e : Entry)
      → entry_of_id s id ≡ Some e → e.directory < length (arc_value s.parts).tables.directories.items
  known_entry zero low node is e at = absurd (false≢true (ap is_some at))
  known_entry (suc k) low node is e at =
      directory_known e node (ap (m s is_made) (same (sym at ∙ its_entry k low)) ∙ entry_has k low node is)
    where
      same : Some e ≡ Some (entry_id k) → e ≡ entry_id k
      same two = cc

  any_entry : (id : ℕ) → id < length (ps s is_made) → (e : Entry) → entry_of_id s id ≡ Some e
      → 0 < length (arc_value s.parts).tables.entries.items
  any_entry zero low e at = absurd (false≢true (ap is_some at))
  any_entry (suc k) low e at = (let l = ps_long s is_made in omega (arith, low, l))

  -- ---- by a number of what stands at an id

  module _ (id n : ℕ) (is : number_of_id (slots_in s) id ≡ Some n) where
    standing_here : (b : Bool) → is_entry (slot_at (slots_in s) id) ≡ b → (is_entry (slot_at (slots_in s) id) ≡ true)
        × (count_standing (slots_in s) id ≡ n)
    standing_here true here = (
      here,
      (let two : Some (count_standing (slots_in s) id) ≡ Some n =
          sym (ap (λ b. cond b (Some (count_standing (slots_in s) id)) None) here) ∙ is in cc),
    )
    standing_here false gone =
        absurd (false≢true (ap is_some (sym (ap (λ b. cond b (Some (count_standing (slots_in s) id)) None) gone) ∙ is)))

    here : (is_entry (slot_at (slots_in s) id) ≡ true) × (count_standing (slots_in s) id ≡ n)
    here = standing_here (is_entry (slot_at (slots_in s) id)) refl

    pub low : id < length (ps s is_made)
    low = subst (λ k. id < k) (ss_long s is_made) (stands_inside (slots_in s) id here.0)

    node_here : (node : Node) × (slot_at (slots_in s) id ≡ Some node)
    node_here = stands (slot_at (slots_in s) id) here.0

    path_here : path_numbered (tree_in s) n ≡ Some (path_at (ps s is_made) id)
    path_here =
        subst (λ k. path_numbered (tree_in s) k ≡ Some (path_at (ps s is_made) id)) here.1
        (path_found (left s is_made) (ps s is_made) (ss s is_made) (ss_long s is_made) (listed s is_made) id low node_here.0 node_here.1)

    pub parent_is : parent_numbered (tree_in s) n
        ≡ option_map_or (λ (e : Entry). number_of_directory s e.directory) (entry_of_id s id) (Some 0)
    parent_is =
        ap (option_and_then (λ p. number_at (tree_in s) (parent_path p))) path_here ∙ parent_at id low node_here.0 node_here.1

    pub name_is : name_numbered (tree_in s) n ≡ option_map (λ (e : Entry). e.name) (entry_of_id s id)
    name_is = ap (option_and_then last_name) path_here ∙ name_at id low

    pub some_entry : (e : Entry) → entry_of_id s id ≡ Some e → 0 < length (arc_value s.parts).tables.entries.items
    some_entry e at = any_entry id low e at

    pub entry_known : (e : Entry) → entry_of_id s id ≡ Some e → e.directory < length (arc_value s.parts).tables.directories.items
    entry_known e at = known_entry id low node_here.0 node_here.1 e at

    module _ (node : Node) (slot : slot_at (slots_in s) id ≡ Some node) where
      record_is : record_numbered (tree_in s) n ≡ Some (fresh_record n (record_in (arc_value s.parts) (places_in s) node))
      record_is =
          subst (λ k. record_numbered (tree_in s) k ≡ Some (fresh_record k (record_of (left s is_made) node))) here.1
          (record_found (left s is_made) (ps s is_made) (ss s is_made) (ss_long s is_made) (listed s is_made) id low node slot)

      pub metadata_is : option_map metadata_of (record_numbered (tree_in s) n)
          ≡ Some (metadata_of (fresh_record n (record_in (arc_value s.parts) (places_in s) node)))
      metadata_is = ap (option_map metadata_of) record_is

      pub bytes_is : (offset many : ℕ) → bytes_at (tree_in s) n offset many ≡ read_in (arc_value s.parts) (places_in s) node offset many
      bytes_is offset many =
          ap (λ o. option_map (λ b. take many (drop offset b)) (option_and_then (λ (r : Record). r.content) o)) record_is

      pub known_is : IsKnown (length (arc_value s.parts).tables.directories.items) (length (arc_value s.parts).tables.owners.items)
          (Some node)
      known_is = known_at id low node slot

    -- a name in a directory
    module _ (d : ℕ) (slot : slot_at (slots_in s) id ≡ Some (Directory d)) where
      above : at_path (m s is_made) (path_at (ps s is_made) id) ≡ Some (Directory d)
      above = leads_there s is_made id low (Directory d) slot

      pub find_is : (x : NameBytes) → number_in (tree_in s) n x ≡ number_shown s d x
      find_is x = ap (option_and_then (λ p. number_at (tree_in s) (p ++ x ∷ []))) path_here ∙ by (place_of_entry (es s is_made) e) refl
        where
          e : Entry
          e = entry_in d x

          q : Path
          q = path_at (ps s is_made) id

          by : (o : Option ℕ) → place_of_entry (es s is_made) (entry_in d x) ≡ o → number_at (tree_in s) (q ++ x ∷ []) ≡ number_shown s d x
          by None none =
              nothing_at s is_made (q ++ x ∷ [])
              (at_more (m s is_made) q x d above ∙ mirror s is_made (entry_in d x)
              ∙ nothing_held (es s is_made) (slots s is_made) (entry_in d x) (no_place_found (es s is_made) (entry_in d x) none))
              ∙ sym (ap (option_and_then (number_of_place s)) none)
          by (Some place) some =
              (let w = place_found (es s is_made) (entry_in d x) place some in
              ap (λ (f : Entry). number_at (tree_in s) (q ++ f.name ∷ [])) (sym w.1)
              ∙ entry_number s is_made place w.0 q d (ap (λ (f : Entry). f.directory) (sym w.1)) above
              ∙ sym (ap (option_and_then (number_of_place s)) some))

    -- a file has no names
    module _ (kind : FileKind) (file : ℕ) (slot : slot_at (slots_in s) id ≡ Some (File kind file)) where
      file_found : (x : NameBytes) → number_in (tree_in s) n x ≡ None
      file_found x =
          ap (option_and_then (λ p. number_at (tree_in s) (p ++ x ∷ []))) path_here
          ∙ nothing_at s is_made (path_at (ps s is_made) id ++ x ∷ [])
          (down_more (m s is_made) (Some (Directory 0)) (path_at (ps s is_made) id) x
          ∙ ap (λ o. in_node (m s is_made) o x) (leads_there s is_made id low (File kind file) slot))

  -- ---- past the last number

  module _ (n : ℕ) (high : count_shown s ≤ n) where
    no_path : path_numbered (tree_in s) n ≡ None
    no_path = path_past (left s is_made) (ps s is_made) (ss s is_made) (ss_long s is_made) (listed s is_made) n high

    no_record : record_numbered (tree_in s) n ≡ None
    no_record = record_past (left s is_made) (ps s is_made) (ss s is_made) (ss_long s is_made) (listed s is_made) n high

    pub none_found : (x : NameBytes) → number_in (tree_in s) n x ≡ None
    none_found x = ap (option_and_then (λ p. number_at (tree_in s) (p ++ x ∷ []))) no_path

    pub no_parent : parent_numbered (tree_in s) n ≡ None
    no_parent = ap (option_and_then (λ p. number_at (tree_in s) (parent_path p))) no_path

    pub no_name : name_numbered (tree_in s) n ≡ None
    no_name = ap (option_and_then last_name) no_path

    pub no_metadata : option_map metadata_of (record_numbered (tree_in s) n) ≡ None
    no_metadata = ap (option_map metadata_of) no_record

    pub no_bytes : (offset many : ℕ) → bytes_at (tree_in s) n offset many ≡ None
    no_bytes offset many = ap (option_map (λ b. take many (drop offset b))) (ap (option_and_then (λ (r : Record). r.content)) no_record)

  -- ---- what is no directory

  pub none_in : (n : ℕ) → IsNoDirectory s n → (x : NameBytes) → number_in (tree_in s) n x ≡ None
  none_in n none x = ⊎_elim
      (λ (w : (id : ℕ) × (kind : FileKind) × (file : ℕ) × IsNumberOf s n id (File kind file)).
      file_found w.0 n w.3.1 w.1 w.2 w.3.0 x)
      (λ (high : count_shown s ≤ n). none_found n high x)
      none

  -- so no entry comes next
  pub no_next_in : (n : ℕ) → IsNoDirectory s n → (last bound : Option NameBytes) → entry_below bound (next_name (tree_in s) n last) ≡ None
  no_next_in n none last bound =
      sym (entry_is (tree_in s) n last bound None
      (λ y has. absurd (false≢true (sym (ap is_some (none_in n none y)) ∙ has.0))))
