-- A step of a world, as a function of the allocation that fails: its reply, and the world then.
use Rattle.std.specs.Prelude.{◌≡◌, ℕ, nat_lt, if◌then◌else◌}
use Rattle.cs_names.specs.declared.limits.TheConstants.{CONNECTIONS}
use Rattle.cs_names.specs.declared.rule_id.RuleId.TheVariants.{S5}
use Rattle.cs_registry.specs.Registries.{Registry}
use Rattle.cs_session.specs.declared.reply.Reply.{Reply as SessionReply}
use Rattle.cs_session.specs.declared.reply.Reply.TheVariants.{Error}
use Rattle.cs_session.specs.Questions.{PortAnswer}
use Rattle.cs_session.specs.Sessions.{SessionState}
use Rattle.cs_session.specs.Steps.{Step as SessionStep, FirstMove, Done, Asks, first_move_by}
use Rattle.cs_session.specs.Steps.{reply_and_session as after_answer}
use Rattle.cs_world.specs.declared.reply.Reply.{Reply}
use Rattle.cs_world.specs.declared.reply.Reply.TheVariants.{Connection}
use Rattle.cs_world.specs.declared.step.Step.{Step}
use Rattle.cs_world.specs.declared.step.Step.TheVariants.{Publish, Reload, On}
use Rattle.cs_world.specs.Asking.{answer_of_runs}
use Rattle.cs_world.specs.ConnectionSteps.{session_step}
use Rattle.cs_world.specs.Marks.{WorldMark, RunMark, run_mark_of, refuses_own}
use Rattle.cs_world.specs.Publishing.{publish_step}
use Rattle.cs_world.specs.Reloading.{reload_step}
use Rattle.cs_journal.specs.Runs.{RunOf}
use Rattle.cs_world.specs.Worlds.{World, session_at, with_both}

-- ---- a step of a connection

abbrev pub reply_and_world : World → ℕ → Registry RunOf → SessionReply × SessionState → Reply
    × World
reply_and_world world conn registry pair =
    (Connection pair.0, with_both world conn pair.1 registry)

-- the connection continues from the answer
abbrev pub continued_from : World → ℕ → SessionStep → PortAnswer × Registry RunOf → Reply × World
continued_from world conn step answer =
    reply_and_world world conn answer.1 (after_answer (session_at world conn) step answer.0)

-- it answers by itself, or asks the runs
abbrev pub from_front : World → ℕ → SessionStep → RunMark → FirstMove → Reply × World
from_front world conn step mark (Done reply session) =
    reply_and_world world conn world.registry (reply, session)
from_front world conn step mark (Asks question) =
    continued_from world conn step (answer_of_runs world.registry question mark)

-- S5 if no connection has the number
abbrev pub on_connection : World → ℕ → ℕ → SessionStep → WorldMark → Reply × World
on_connection world conn now step mark =
    if nat_lt conn CONNECTIONS
    then from_front world conn step (run_mark_of mark)
    (first_move_by now (session_at world conn) step (refuses_own mark))
    else (Connection (Error S5), world)

-- ---- a step

abbrev pub by_registry : World → Reply × Registry RunOf → Reply × World
by_registry world pair = (pair.0, record world { registry = pair.1 })

abbrev pub step_of : World → Step → WorldMark → Reply × World
step_of world (Publish number) mark = by_registry world (publish_step world.registry number mark)
step_of world (Reload users) mark = by_registry world (reload_step world.registry users mark)
step_of world (On conn now step) mark = on_connection world conn now (session_step step) mark

-- the step has this reply and leads there if memory refuses what some mark says
abbrev pub IsStep : World → Step → Reply → World → Type 0
IsStep world step reply after = (mark : WorldMark) × ((reply, after) ≡ step_of world step mark)
