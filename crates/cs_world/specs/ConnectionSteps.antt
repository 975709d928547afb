-- A step of a connection, as a session takes it.
use Rattle.cs_session.specs.Steps as session
use Rattle.cs_world.specs.declared.step.ConnectionStep.{ConnectionStep}
use Rattle.cs_world.specs.declared.step.ConnectionStep.TheVariants.{Find, Attach, Call, Close}
use Rattle.cs_world.specs.declared.step.ConnectionStep.TheVariants.{Table}

abbrev pub session_step : ConnectionStep → session.Step
session_step (Find message) = session.FindStep message
session_step Attach = session.AttachStep
session_step (Call message) = session.CallStep message
session_step (Close fid) = session.CloseStep fid
session_step (Table change) = session.Table change

-- a session's step as a step of a connection of a world
abbrev pub connection_step : session.Step → ConnectionStep
connection_step (session.FindStep message) = Find message
connection_step session.AttachStep = Attach
connection_step (session.CallStep message) = Call message
connection_step (session.CloseStep fid) = Close fid
connection_step (session.Table change) = Table change
