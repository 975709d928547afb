use Rattle.std.proofs.Common.{take}
use Rattle.cs_apm.specs.Atlases.{AreChanged}
use Rattle.cs_apm.proofs.flags.changed_by.Given as goal

abbrev pub invariant-loop-op : goal.invariant-loop-op
invariant-loop-op l = AreChanged (take l.op-index l.ops) l.count l.changed.items
