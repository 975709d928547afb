use Rattle.cs_session.proofs.Fitting.{shown-printable}
use Rattle.cs_session.proofs.receiving.rule_text.Goals as goal

pub returns-clause-shown : goal.returns-clause-shown
returns-clause-shown c = shown-printable 48 c.text.result.now c.text.ensures.short c.text.ensures.printable
