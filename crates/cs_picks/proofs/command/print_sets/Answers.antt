use Rattle.cs_picks.proofs.command.print_sets.Goals as goal

pub returns : goal.returns
returns g c =
    (c.in_ok-scene.scene, c.in_ok-scene.ensures.scene, (c.is_asked.ensures.0 c.if-not-is_asked.false, c.in_ok-write_sets.ensures.written))
