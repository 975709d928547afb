use Rattle.std.proofs.Common.{vec_capacity}
use Rattle.cs_fids.proofs.Keeping.{none_open}
use Rattle.cs_fids.proofs.Maps.{no_fids}
use Rattle.cs_fids.proofs.table.FidTable.clear.Goals as goal

pub invariant_of-self : goal.invariant_of-self
invariant_of-self c = rw (c.clear-2.ensures.items, c.clear.ensures.empty) (no_fids, none_open (vec_capacity c.clear-2.new.self))
