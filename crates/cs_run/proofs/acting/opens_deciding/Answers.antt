use Rattle.cs_run.proofs.Asking.{same_of_open, same_of_others}
use Rattle.cs_run.proofs.acting.opens_deciding.Goals as goal

pub returns-in-Open : goal.returns-in-Open
returns-in-Open g c users = same_of_open _ _ _ users _ _ c.in-Open.is (c.opens_deciding_open.ensures users)

pub returns-in_default : goal.returns-in_default
returns-in_default g c users = same_of_others _ _ _ users _ (λ call is. c.in_default.not-Open call is)
