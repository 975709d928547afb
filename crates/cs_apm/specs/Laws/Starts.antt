-- The crash states of a trace are trees.
use Rattle.std.proofs.Common.{◌≡◌, ◌+◌, List, length, map, ap, length-append, refl, subst, sym, ◌∙◌, ℕ}
use Rattle.std.proofs.lemmas.List.FromFn.{length-map-range_with_len}
use Rattle.cs_entries.specs.Legal.{IsTree as IsEntryTree}
use Rattle.cs_entries.specs.Tables.{held_in}
use Rattle.cs_tree_model.specs.Fresh.{IsNested}
use Rattle.cs_tree_model.specs.Tree.{IsTree}
use Rattle.cs_trace.specs.Traces.{Trace, directory_count, start_table}
use Rattle.cs_trace_lines.specs.declared.profile.Profile.{Profile}
use Rattle.cs_micro.specs.Legal.{AreLegal, Made}
use Rattle.cs_micro.specs.Micros.{AreLegalFromStart, Micros}
use Rattle.cs_apm.specs.Orders.{needs_by}
use Rattle.cs_sets.specs.Sets.{IsAllowed}
use Rattle.cs_apm.specs.States.{State, crash_state_of, directories_made, directories_of}
use Rattle.cs_apm.specs.States.{directory_owner, records_of, start_state, state_of}
use Rattle.cs_apm.specs.Laws.Trees.{long_left, nested_records, state_is_tree, state_nodes}

-- the micro-operations are those of a trace of the same version
module _ (t : Trace) (m : Micros) (same : m.version ≡ t.version)
    (tree : IsEntryTree (held_in (start_table t))) (legal : AreLegalFromStart t m)
    (profile : Profile) (places : List ℕ)
    (allowed : IsAllowed (needs_by m profile) (length m.ops) places) where
  abbrev made : Made
  made = record {
    entries = start_table t;
    files = length t.files;
    homes = legal.homes;
  }

  abbrev left : State
  left = state_of (start_state t) m.ops places

  as_many : length (start_state t).directories ≡ length legal.homes
  as_many =
      length-map-range_with_len (directory_owner t) 0 (directory_count t.nodes) ∙ sym legal.many

  legal_here : AreLegal m.version made m.ops
  legal_here = subst (λ v. AreLegal v made m.ops) (sym same) legal.legal

  pub crash_states_are_trees : IsTree (crash_state_of t m places)
  crash_states_are_trees =
      state_is_tree (start_state t) made m.ops m.syncs m.version profile places tree refl legal.are
      as_many legal_here allowed

  pub crash_states_are_nested : IsNested (records_of left)
  crash_states_are_nested =
      nested_records left
      (state_nodes (start_state t) made m.ops m.syncs m.version profile places tree refl legal.are
      as_many legal_here allowed)

  pub directories_are_left : length left.directories ≡ length (directories_of t m.ops)
  directories_are_left =
      long_left (start_state t) made m.ops m.syncs m.version profile places tree refl legal.are
      as_many legal_here allowed
      ∙ ap (λ k. k + length (directories_made m.ops)) (sym as_many)
      ∙ sym (length-append (start_state t).directories (directories_made m.ops))
