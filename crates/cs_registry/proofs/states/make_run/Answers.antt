use Rattle.std.proofs.Common.{◌∙◌}
use Rattle.std.specs.Arc.{arc_value}
use Rattle.cs_registry.proofs.Changing.{added}
use Rattle.cs_registry.proofs.states.make_run.Goals as goal

pub returns-clause-made : goal.returns-clause-made
returns-clause-made g c =
    let held = c.in_ok-held.held in
    let fresh : g.H.Held.is_fresh c.args.key (arc_value c.args.state.now) (arc_value c.args.users.now) held =
    rw (← c.in_ok-try_clone.ensures, ← c.in_ok-try_clone-2.ensures) c.in_ok-held.ensures in
    (c.len-place.ensures.len, (held, fresh, c.in_ok-insert.ensures.entries ∙ added c.args.runs.now.entries c.args.key _ c.requires.absent))
