use Rattle.cs_run.proofs.Fitting.{outcome_fits}
use Rattle.cs_run.proofs.acting.act.Goals as goal

pub returns-in-Walk-clause-step : goal.returns-in-Walk-clause-step
returns-in-Walk-clause-step g c = rw c.in-Walk.is (c.act_walk.ensures c.args.opens.now.items c.args.turn)

pub returns-in-Walk-clause-fits : goal.returns-in-Walk-clause-fits
returns-in-Walk-clause-fits g c = rw c.in-Walk.is (outcome_fits _ _ _ _ _ (c.act_walk.ensures c.args.opens.now.items c.args.turn))

pub returns-clause-fits : goal.returns-clause-fits
returns-clause-fits g c = outcome_fits _ _ _ _ _ c.act_by_rules.ensures
