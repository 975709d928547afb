use Rattle.cs_permit.proofs.Showing.{shown-name}
use Rattle.cs_permit.proofs.shown.name_text.Goals as goal

pub returns-clause-shown : goal.returns-clause-shown
returns-clause-shown c = rw c.as_str.ensures.value (shown-name _ c.as_str.ensures.legal)
