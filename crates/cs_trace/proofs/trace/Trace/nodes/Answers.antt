use Rattle.std.proofs.Common.{subst}
use Rattle.cs_trace.specs.Traces.{AreRecordsOf, Trace}
use Rattle.cs_trace.proofs.trace.Trace.nodes.Goals as goal

pub returns-clause-kinds : goal.returns-clause-kinds
returns-clause-kinds c = subst (λ (t : Trace). AreRecordsOf t.nodes t.records) c.self.view_is c.self.invariant.kinds
