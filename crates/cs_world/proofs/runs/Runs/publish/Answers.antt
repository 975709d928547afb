use Rattle.cs_world.specs.Marks.{Below, NoPass, NoKeeping}
use Rattle.cs_world.proofs.Making.{is_kept, is_short, is_twice}
use Rattle.cs_world.proofs.runs.Runs.publish.Goals as goal
use Rattle.cs_world.proofs.runs.Runs.publish.Goals.{in-Ok-publish_own, in-Err-Twice, in-Err-Memory-publish_own}

-- src/runs.rt:62:5
pub returns : goal.returns
returns c = elim c.match-publish_own.branch [
  | in-Ok-publish_own w ↦
      let own = w.in-Ok-publish_own.ensures in (
        Below NoPass,
        rw (w.result-is, ← c.self.view_is)
            (is_kept c.self.inside.states c.publish_own.new.self c.args.number c.in-Ok.state.number c.in-Ok.ensures.number own.0.0 own.1
            own.2),
      )
  | in-Err-Twice w ↦
      let own = rw w.in-Err-Twice.field-0-is at w.in-Err-Twice.ensures in (
        Below NoPass,
        rw (w.result-is, ← c.self.view_is)
            (is_twice c.self.inside.states c.publish_own.new.self c.args.number c.in-Ok.state.number c.in-Ok.ensures.number own.0.0 own.1
            own.2),
      )
  | in-Err-Memory-publish_own w ↦
      let own = rw w.in-Err-Memory-publish_own.field-0-is at w.in-Err-Memory-publish_own.ensures in (
        NoKeeping,
        rw (w.result-is, ← c.self.view_is)
            (is_short c.self.inside.states c.publish_own.new.self c.args.number c.in-Ok.state.number c.in-Ok.ensures.number own.0.0 own.1
            own.2),
      )
]
