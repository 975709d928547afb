use Rattle.std.proofs.Common.{ap}
use Rattle.cs_world.specs.Asking.{call_answer}
use Rattle.cs_world.specs.Marks.{InRun}
use Rattle.cs_world.proofs.runs.RunsPort.call.Goals as goal

pub returns-clause-given : goal.returns-clause-given
returns-clause-given c = (
  InRun c.call-2.ensures.called.0,
  rw (← c.self.view_is, c.held_at_mut.ensures.value)
      (ap (call_answer c.self.inside.states c.args.run) c.call-2.ensures.called.1),
)
