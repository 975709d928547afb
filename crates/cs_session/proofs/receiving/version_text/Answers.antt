use Rattle.std.proofs.Common.{refl, lit≤}
use Rattle.cs_session.proofs.Fitting.{shown-printable}
use Rattle.cs_session.proofs.receiving.version_text.Goals as goal

pub returns-then-is_spoken-clause-shown : goal.returns-then-is_spoken-clause-shown
returns-then-is_spoken-clause-shown c = shown-printable 7 _ (lit≤ tt) refl

pub returns-else-is_spoken-clause-shown : goal.returns-else-is_spoken-clause-shown
returns-else-is_spoken-clause-shown c = shown-printable 7 _ (lit≤ tt) refl
