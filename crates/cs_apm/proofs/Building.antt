-- What an atlas gives for the state of an allowed set.
use Rattle.std.proofs.Common.{◌≡◌, ℕ, ◌+◌, ◌<◌, List, length, map, refl, sym, ap, ◌∙◌, subst, arith, length-append}
use Rattle.std.proofs.lemmas.List.{get_or_default}
use Rattle.std.proofs.lemmas.List.FromFn.{length-map-range_with_len}
use Rattle.std.proofs.lemmas.Option.{slice_get_within}
use Rattle.std.specs.List.{All}
use Rattle.std.specs.Prelude.{fold}
use Rattle.cs_entries.specs.DirEntries.{root_home}
use Rattle.cs_tree_model.specs.Fresh.{IsNested}
use Rattle.cs_tree_model.specs.Tree.{IsTree}
use Rattle.cs_trace.specs.Traces.{Trace, directory_count, start_table}
use Rattle.cs_trace_lines.specs.Versions.{profile_of}
use Rattle.cs_micro.specs.Micros.{Micros}
use Rattle.cs_micro.specs.declared.micro_op.MicroOp.{MicroOp}
use Rattle.cs_apm.specs.Atlases.{Atlas, IsAtlas, atlas_in}
use Rattle.cs_apm.specs.Files.{AreFiles}
use Rattle.cs_apm.specs.declared.tables.Tables.{Tables}
use Rattle.cs_apm.specs.Orders.{needs_of}
use Rattle.cs_apm.specs.Rules.{op_at}
use Rattle.cs_sets.specs.Sets.{IsAllowed}
use Rattle.cs_apm.specs.Slots.{AreKnown, FitsIn, IsKnownStep, Slot, slots_after, step_at, table_of_slots}
use Rattle.cs_apm.specs.States.{crash_state_of, directories_made, directory_owner, records_of, start_state, state_of, with_created}
use Rattle.cs_apm.specs.declared.slot.Step.{Step}
use Rattle.cs_apm.specs.declared.slot.Step.TheVariants.{Set, Move, Other}
use Rattle.cs_apm.specs.Laws.Starts.{crash_states_are_nested, crash_states_are_trees, directories_are_left}
use Rattle.cs_apm.specs.Laws.Trees.{entries_fold}
use Rattle.cs_apm.proofs.Folding.{all_inside, fold_known, fold_mirrored}

step_fits : (n d f : ℕ) (s : Step) → IsKnownStep n d f s → FitsIn n s
step_fits n d f (Set i s) h = h.0
step_fits n d f (Move i j) h = h
step_fits n d f Other h = tt

module _ (t : Trace) (m : Micros) (a : Atlas) (is : IsAtlas t m a) where
  pub fits : All (FitsIn (length a.slots)) a.steps
  fits k d low =
      subst (FitsIn (length a.slots)) (sym (get_or_default a.steps k d Other low))
      (step_fits (length a.slots) (length a.directories) (length a.owners) (step_at a.steps k) (is.known_steps k))

  -- the root has a number
  pub has_root : 0 < length a.directories
  has_root =
      (let low = slice_get_within is.legal.homes 0 root_home is.legal.are.root in
      let many = is.legal.many in
      let start : length (start_state t).directories ≡ directory_count t.nodes =
      length-map-range_with_len (directory_owner t) 0 (directory_count t.nodes) in
      let own : length a.directories ≡ length (start_state t).directories + length (directories_made m.ops) =
      ap length is.directories ∙ length-append (start_state t).directories (directories_made m.ops) in
      omega (arith, low, many, start, own))

  module _ (places : List ℕ) (allowed : IsAllowed (needs_of m) (length m.ops) places) where
    pub inside : All (λ place. place < length m.ops) places
    inside k d low = subst (λ v. v < length m.ops) (sym (get_or_default places k d 0 low)) (allowed.in_range k low)

    pub inside_steps : All (λ place. place < length a.steps) places
    inside_steps = all_inside a.entries m.ops a.steps is.steps places allowed.in_range

    abbrev pub left : List Slot
    left = fold slots_after a.slots (map (step_at a.steps) places)

    known : AreKnown (length a.directories) (length a.owners) left × (length left ≡ length a.slots)
    known =
        fold_known (length a.slots) (length a.directories) (length a.owners) a.steps is.known_steps places a.slots refl is.known

    pub known_left : AreKnown (length a.directories) (length a.owners) left
    known_left = known.0

    pub long_left : length left ≡ length a.entries
    long_left = known.1 ∙ is.long

    pub table_left : (state_of (start_state t) m.ops places).entries ≡ table_of_slots a.entries left
    unfolding state_of
    table_left =
        entries_fold (with_created (start_state t) m.ops) (map (op_at m.ops) places)
        ∙ fold_mirrored a.entries is.ascending m.ops a.steps is.steps a.slots is.long (start_table t) is.start places

    pub nested_left : IsNested (records_of (state_of (start_state t) m.ops places))
    nested_left = crash_states_are_nested t m is.version is.tree is.legal (profile_of m.version) places allowed

    pub deep_left : length (state_of (start_state t) m.ops places).directories ≡ length a.directories
    deep_left =
        directories_are_left t m is.version is.tree is.legal (profile_of m.version) places allowed ∙ ap length (sym is.directories)

    pub is_tree_left : IsTree (crash_state_of t m places)
    is_tree_left = crash_states_are_trees t m is.version is.tree is.legal (profile_of m.version) places allowed

-- what is known of files and directories
pub are_files : (t : Trace) (m : Micros) (tables : Tables) → IsAtlas t m (atlas_in tables) → (ops : List MicroOp) → ops ≡ m.ops
    → AreFiles t ops tables
are_files t m tables is ops same =
    subst (λ os. AreFiles t os tables) (sym same)
    (record { owners = is.owners; directories = is.directories; starts = is.starts; makings = is.makings; changed = is.changed })
