use Rattle.std.proofs.Common.{◌∙◌, sym}
use Rattle.cs_fids.proofs.Maps.{len_is}
use Rattle.cs_fids.proofs.table.FidTable.len.Goals as goal

pub returns-clause-value : goal.returns-clause-value
returns-clause-value c = rw (← c.self.view_is) (c.len.ensures.len ∙ sym (len_is c.self.inside.fids.entries c.self.invariant.0.distinct))
