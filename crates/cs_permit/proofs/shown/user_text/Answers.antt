use Rattle.cs_permit.proofs.Showing.{shown-user}
use Rattle.cs_permit.proofs.shown.user_text.Goals as goal

pub returns-clause-shown : goal.returns-clause-shown
returns-clause-shown c = rw c.as_str.ensures.value (shown-user _ c.as_str.ensures.legal)
