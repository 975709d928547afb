use Rattle.std.proofs.Common.{sym, subst, ap, ◌∙◌, length, ◌^◌}
use Rattle.std.specs.BTreeMap.{get}
use Rattle.cs_sets.specs.Drawing.{AreCounts, row_cmp}
use Rattle.cs_sets.specs.Reach.{IsTransitive}
use Rattle.cs_sets.proofs.numbers.Numbers.set.Goals as goal

pub set_numbered-requires-clause-chained : goal.set_numbered-requires-clause-chained
set_numbered-requires-clause-chained c = subst IsTransitive (sym c.needed.ensures.chains) c.needed.ensures.passed_on
