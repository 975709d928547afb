use Rattle.cs_wire.specs.Messages.{stat_in}
use Rattle.cs_wire.proofs.WhatFits.{entry_fits}
use Rattle.cs_wire.proofs.stat.StatRef.fits.Goals as goal

pub returns : goal.returns
returns c = rw c.is_some.ensures (entry_fits (stat_in c.args.self.now) c.size_of_entry.result c.size_of_entry.ensures.size)
