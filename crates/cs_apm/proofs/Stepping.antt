-- The steps of the micro-operations so far.
use Rattle.std.proofs.Common.{List, [], ◌∷◌, ◌++◌}
use Rattle.cs_entries.specs.declared.entry.Entry.{Entry}
use Rattle.cs_micro.specs.declared.micro_op.MicroOp.{MicroOp}
use Rattle.cs_apm.specs.Slots.{AreSteps, IsStep}
use Rattle.cs_apm.specs.declared.slot.Step.{Step}

pub steps_more : (es : List Entry) (ops : List MicroOp) (o : MicroOp) (steps : List Step) (s : Step) → AreSteps es ops steps
    → IsStep es o s → AreSteps es (ops ++ o ∷ []) (steps ++ s ∷ [])
steps_more es [] o [] s are is = (is, tt)
steps_more es [] o (t ∷ steps) s are is = absurd are
steps_more es (p ∷ ops) o [] s are is = absurd are
steps_more es (p ∷ ops) o (t ∷ steps) s are is = (are.0, steps_more es ops o steps s are.1 is)
