use Rattle.std.proofs.Common.{refl, lit≤}
use Rattle.cs_session.proofs.Fitting.{shown-printable}
use Rattle.cs_session.proofs.receiving.memory_text.Goals as goal

pub returns-clause-shown : goal.returns-clause-shown
returns-clause-shown c = shown-printable 48 _ (lit≤ tt) refl
