-- What a step asks of the runs, if it asks.
use Rattle.std.specs.Prelude.{ℕ, nat_lt, Option, None, Some, if◌then◌else◌}
use Rattle.cs_names.specs.declared.limits.TheConstants.{CONNECTIONS}
use Rattle.cs_session.specs.Questions.{Question}
use Rattle.cs_session.specs.Steps.{Step as SessionStep, FirstMove, Done, Asks, first_move_by}
use Rattle.cs_world.specs.declared.step.Step.{Step}
use Rattle.cs_world.specs.declared.step.Step.TheVariants.{On}
use Rattle.cs_world.specs.ConnectionSteps.{session_step}
use Rattle.cs_world.specs.Marks.{WorldMark, refuses_own}
use Rattle.cs_world.specs.Worlds.{World, session_at}

-- the question of a step, if none of the connection's own rules refuses it
abbrev pub question_of_move : FirstMove → Option Question
question_of_move (Done reply session) = None
question_of_move (Asks question) = Some question

-- the question of a step of a connection, if it asks one
abbrev pub question_on : World → ℕ → ℕ → SessionStep → WorldMark → Option Question
question_on world conn now step mark =
    if nat_lt conn CONNECTIONS
    then question_of_move (first_move_by now (session_at world conn) step (refuses_own mark))
    else None

-- the question of any step, if it asks one: a publish and a reload ask nothing
abbrev pub question_of_step : World → Step → WorldMark → Option Question
question_of_step world (On conn now step) mark =
    question_on world conn now (session_step step) mark
question_of_step world other mark = None
