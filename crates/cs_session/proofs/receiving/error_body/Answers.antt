use Rattle.std.specs.declared.borrow.CowStr.TheVariants.{Borrowed}
use Rattle.cs_session.proofs.Fitting.{fits-error}
use Rattle.cs_session.proofs.receiving.error_body.Goals as goal

pub returns-clause-fits : goal.returns-clause-fits
returns-clause-fits c = λ msize. fits-error msize (Borrowed c.args.text) c.requires
