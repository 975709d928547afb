use Rattle.std.proofs.Common.{◌≡◌, ◌++◌, Some, length}
use Rattle.std.specs.List.{All}
use Rattle.cs_tree_model.specs.Fresh.{with_numbers_from}
use Rattle.cs_tree_model.specs.Maps.Values.{map_entries}
use Rattle.cs_apm.specs.Slots.{IsKnown}
use Rattle.cs_apm.specs.States.{record_of, start_state, state_of}
use Rattle.cs_apm.proofs.making.records_of_nodes.Given as goal

abbrev pub invariant-loop-path : goal.invariant-loop-path
invariant-loop-path l = record {
  known : All (λ x. IsKnown (length l.tables.directories.items) (length l.tables.owners.items) (Some x.1)) l.path-iterator;
  records : l.records.items
      ++ with_numbers_from (length l.records.items)
      (map_entries (record_of (state_of (start_state l.trace) l.ops l.places)) l.path-iterator)
      ≡ with_numbers_from 0 (map_entries (record_of (state_of (start_state l.trace) l.ops l.places)) l.fn.nodes.entries);
}
