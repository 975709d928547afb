use Rattle.cs_run.proofs.Fitting.{fits}
use Rattle.cs_run.proofs.laws.answers_fit.Goals as goal

pub returns : goal.returns
returns c = fits
