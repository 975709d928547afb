use Rattle.cs_permit.proofs.Showing.{shown-slash}
use Rattle.cs_permit.proofs.shown.shown_name.Goals as goal

pub returns-in-None-clause-shown : goal.returns-in-None-clause-shown
returns-in-None-clause-shown g c = shown-slash
