use Rattle.std.proofs.Common.{◌≡◌, false, take}
use Rattle.std.specs.List.{list_any}
use Rattle.cs_different.specs.Wants.{links}
use Rattle.cs_different.proofs.searching.is_linked.Given as goal

abbrev pub invariant-loop-op : goal.invariant-loop-op
invariant-loop-op l = list_any (links l.file) (take l.op-index l.ops) ≡ false
