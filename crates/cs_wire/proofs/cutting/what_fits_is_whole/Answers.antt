use Rattle.cs_wire.proofs.Framing.{spelling_is_whole}
use Rattle.cs_wire.proofs.cutting.what_fits_is_whole.Goals as goal

pub returns : goal.returns
returns c = record { requests = spelling_is_whole; replies = spelling_is_whole }
