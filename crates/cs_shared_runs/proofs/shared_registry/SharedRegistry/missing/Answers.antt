use Rattle.cs_shared_runs.proofs.shared_registry.SharedRegistry.missing.Goals as goal

pub returns : goal.returns
returns g c only = rw (only _ c.missing.ensures.own) at c.missing.ensures.few
