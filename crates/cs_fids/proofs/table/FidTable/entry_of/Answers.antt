use Rattle.std.proofs.Common.{◌∙◌, sym, ap, Some}
use Rattle.cs_fids.proofs.Maps.{get_is}
use Rattle.cs_fids.proofs.table.FidTable.entry_of.Goals as goal

pub returns-in-Some-clause-value : goal.returns-in-Some-clause-value
returns-in-Some-clause-value c =
    rw (← c.self.view_is) (ap Some c.entry.ensures ∙ c.in-Some.ensures.value ∙ sym (get_is c.args.fid c.self.inside.fids.entries))

pub returns-in-None-clause-value : goal.returns-in-None-clause-value
returns-in-None-clause-value c = rw (← c.self.view_is) (c.in-None.ensures.value ∙ sym (get_is c.args.fid c.self.inside.fids.entries))
