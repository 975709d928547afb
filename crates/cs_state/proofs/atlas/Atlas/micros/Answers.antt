use Rattle.std.proofs.Common.{sym, subst}
use Rattle.std.specs.Arc.{arc_value}
use Rattle.cs_micro.specs.Micros.{AreLegalFromStart}
use Rattle.cs_state.specs.declared.parts.Parts.{Parts}
use Rattle.cs_state.proofs.atlas.Atlas.micros.Goals as goal

pub returns-clause-legal : goal.returns-clause-legal
returns-clause-legal c =
    let parts = arc_value c.self.inside.parts in
    subst (λ (p : Parts). AreLegalFromStart c.args.self.now p.micros) (sym c.deref.ensures)
    (subst (λ t. AreLegalFromStart t parts.micros) c.self.view_is c.self.invariant.whole.atlas.legal)
