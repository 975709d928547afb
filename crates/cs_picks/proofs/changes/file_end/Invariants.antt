use Rattle.std.proofs.Common.{◌≡◌, ◌≤◌, ◌^◌, take}
use Rattle.cs_picks.specs.Changes.{file_end}
use Rattle.cs_picks.proofs.changes.file_end.Given as goal

abbrev pub invariant-loop-op : goal.invariant-loop-op
invariant-loop-op l = record {
  so_far : l.end ≡ file_end (take l.op-index l.ops);
  small : l.end ≤ 2 ^ 32;
}
