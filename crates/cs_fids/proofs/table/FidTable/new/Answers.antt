use Rattle.std.proofs.Common.{vec_capacity}
use Rattle.cs_fids.proofs.Keeping.{none_open}
use Rattle.cs_fids.proofs.Maps.{no_fids}
use Rattle.cs_fids.proofs.table.FidTable.new.Goals as goal

pub invariant_of-result : goal.invariant_of-result
invariant_of-result c = rw (c.new-2.ensures.items, c.new.ensures.empty) (no_fids, none_open (vec_capacity c.new-2.result))
