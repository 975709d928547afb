use Rattle.std.proofs.Common.{arith, not}
use Rattle.std.proofs.lemmas.List.Sums.{count_by-le-length}
use Rattle.cs_shared_runs.proofs.registry.Registry.missing.Goals as goal

pub returns-clause-few : goal.returns-clause-few
returns-clause-few g c =
    rw (← c.self.view_is)
    (omega (arith, c.missing.ensures.count, c.missing.ensures.each, count_by-le-length not c.self.inside.states.published))
