use Rattle.cs_wire.specs.Messages.{stat_in}
use Rattle.cs_wire.proofs.WhatFits.{is_entry}
use Rattle.cs_permit.proofs.shown.entry_size.Goals as goal

pub entry_length-requires : goal.entry_length-requires
entry_length-requires g c = is_entry (stat_in c.in-Some.stat) c.in-Some.ensures.fits.fits
