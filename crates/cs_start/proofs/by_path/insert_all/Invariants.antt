use Rattle.std.proofs.Common.{◌≡◌}
use Rattle.std.specs.FinMap as map
use Rattle.cs_start.specs.Siblings.{with_all}
use Rattle.cs_start.proofs.by_path.insert_all.Given as goal

abbrev pub invariant-loop-path : goal.invariant-loop-path
invariant-loop-path l =
    with_all (map.from_entries l.by_path.entries) l.path-iterator.rest.items
    ≡ with_all (map.from_entries l.fn.by_path.entries) l.fn.list.items
