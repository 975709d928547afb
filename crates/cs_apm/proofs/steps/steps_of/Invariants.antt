use Rattle.std.proofs.Common.{take}
use Rattle.cs_apm.specs.Slots.{AreSteps}
use Rattle.cs_apm.proofs.steps.steps_of.Given as goal

abbrev pub invariant-loop-op : goal.invariant-loop-op
invariant-loop-op l = AreSteps l.entries (take l.op-index l.ops) l.steps.items
