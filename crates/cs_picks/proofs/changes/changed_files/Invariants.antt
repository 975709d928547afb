use Rattle.std.proofs.Common.{◌≡◌}
use Rattle.std.specs.List.{filter, range_with_len}
use Rattle.cs_picks.specs.Changes.{is_changed}
use Rattle.cs_picks.proofs.changes.changed_files.Given as goal

abbrev pub invariant-loop-number : goal.invariant-loop-number
invariant-loop-number l = l.files.items ≡ filter (is_changed l.ops) (range_with_len 0 l.number)
