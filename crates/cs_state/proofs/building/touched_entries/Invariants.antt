use Rattle.std.proofs.Common.{◌≡◌, ◌++◌, ◌≤◌, length, drop}
use Rattle.cs_state.specs.Merging.{own_from}
use Rattle.cs_paths.specs.PathOrders.{slots_by_path}
use Rattle.cs_state.proofs.building.touched_entries.Given as goal

abbrev pub invariant-loop-id : goal.invariant-loop-id
invariant-loop-id l = record {
  so_far : l.own.items ++ own_from l.kept_below (drop l.id-index l.touched) (slots_by_path l.places l.slots) (length l.own.items)
      ≡ own_from l.kept_below l.touched (slots_by_path l.places l.slots) 0;
  few : length l.own.items ≤ l.id-index;
}
