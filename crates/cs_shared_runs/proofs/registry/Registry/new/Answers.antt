use Rattle.std.specs.Arc.{arc_value}
use Rattle.cs_shared_runs.proofs.Admitting.{admits_all}
use Rattle.cs_shared_runs.proofs.registry.Registry.new.Goals as goal

pub new-requires-clause-admitted : goal.new-requires-clause-admitted
new-requires-clause-admitted g c =
    admits_all g.S.ServerBrand.serves g.S.ServerBrand.loads (arc_value c.args.scene) c.requires.serves
    (rw c.deref.ensures at c.plan.ensures.planned)
