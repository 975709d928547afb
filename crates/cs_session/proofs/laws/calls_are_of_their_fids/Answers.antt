use Rattle.cs_session.proofs.OfFids.{for_fid}
use Rattle.cs_session.proofs.laws.calls_are_of_their_fids.Goals as goal

pub returns : goal.returns
returns c now session step refused moment place pass call asks = for_fid now session step refused moment place pass call asks
