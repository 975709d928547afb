-- Steps of a world, one after the other.
use Rattle.std.specs.Prelude.{◌≡◌, ℕ, List, [], ◌∷◌, ◌++◌, map, IsErr, Ok, Err}
use Rattle.cs_names.specs.declared.rule_id.RuleId.{RuleId}
use Rattle.cs_names.specs.declared.rule_id.RuleId.TheVariants.{S2}
use Rattle.cs_permit.specs.Refusals.{IsFirstToFail}
use Rattle.cs_session.specs.declared.message.Message.{Message}
use Rattle.cs_session.specs.declared.reply.Reply.{Reply as SessionReply}
use Rattle.cs_session.specs.declared.reply.Reply.TheVariants.{Error, Memory}
use Rattle.cs_session.specs.Messages.{IfElse, goes_on, next_step}
use Rattle.cs_session.specs.Receiving.{PassesBeforeDecoding, IsSpelled, message_in}
use Rattle.cs_session.specs.Receiving.{rules_before_decoding}
use Rattle.cs_session.specs.Receiving.{tag_in, wire_of}
use Rattle.cs_session.specs.Sessions.{SessionState}
use Rattle.cs_session.specs.Steps.{Step as SessionStep}
use Rattle.cs_wire.specs.declared.message.TMessage.{TMessage}
use Rattle.cs_wire.specs.Answers.{TakesMemory}
use Rattle.cs_wire.specs.Messages.{Message as Spelled, replies as reply_side, requests}
use Rattle.cs_wire.specs.Reading.{message_of}
use Rattle.cs_world.specs.declared.reply.Reply.{Reply}
use Rattle.cs_world.specs.declared.reply.Reply.TheVariants.{Connection}
use Rattle.cs_world.specs.declared.step.Step.{Step}
use Rattle.cs_world.specs.declared.step.Step.TheVariants.{On}
use Rattle.cs_world.specs.ConnectionSteps.{connection_step}
use Rattle.cs_world.specs.Marks.{WorldMark}
use Rattle.cs_world.specs.Steps.{step_of}
use Rattle.cs_world.specs.Worlds.{World, session_at}

-- a reply before others
abbrev pub reply_before : Reply → List Reply × World → List Reply × World
reply_before reply rest = (reply ∷ rest.0, rest.1)

-- the replies to steps, each with the allocation that fails in it, and the world then
abbrev pub steps_of : World → List (Step × WorldMark) → List Reply × World
steps_of world [] = ([], world)
steps_of world (one ∷ rest) =
    reply_before (step_of world one.0 one.1).0
    (steps_of (step_of world one.0 one.1).1 rest)

-- the replies to earlier steps, and then to these, from the world that those led to
abbrev pub follow_on : List Reply × World → List (Step × WorldMark) → List Reply × World
follow_on first others = (first.0 ++ (steps_of first.1 others).0, (steps_of first.1 others).1)

-- these steps have these replies and lead there, each with some mark
pub record IsStepList (world : World) (steps : List Step) (replies : List Reply) (after : World)
    : Type 0 where
  pub marked : List (Step × WorldMark)
  pub steps_are : map (λ one. one.0) marked ≡ steps
  pub leads : (replies, after) ≡ steps_of world marked

-- ---- the steps of a message

-- a step of a connection at a moment
abbrev pub step_on : ℕ → ℕ → SessionStep → Step
step_on conn now step = On conn now (connection_step step)

abbrev pub steps_on : ℕ → ℕ → List (SessionStep × WorldMark) → List (Step × WorldMark)
steps_on conn now marked = map (λ one. (step_on conn now one.0, one.1)) marked

-- a message's own steps on a connection, each with its mark: each is the one that it takes next in
-- the world that those before it led to, another follows exactly if the message isn't answered yet,
-- and the last one's reply is the message's
abbrev pub AreOwnSteps : Message → ℕ → ℕ → World → List (SessionStep × WorldMark) → SessionReply
    → Type 0
AreOwnSteps message conn now world [] reply = ⊥
AreOwnSteps message conn now world (one ∷ rest) reply =
    (one.0 ≡ next_step message (session_at world conn))
    × ((own_reply : SessionReply)
    × ((step_of world (step_on conn now one.0) one.1).0 ≡ Connection own_reply)
    × IfElse (goes_on message one.0 own_reply)
    (AreOwnSteps message conn now (step_of world (step_on conn now one.0) one.1).1 rest
    reply)
    ((rest ≡ []) × (reply ≡ own_reply)))

-- the message's own steps at one moment lead there, and this is the reply of the last one
pub record IsByOwnSteps (world : World) (conn now : ℕ) (message : Message) (reply : SessionReply)
    (after : World) : Type 0 where
  pub marked : List (SessionStep × WorldMark)
  pub earlier : List Reply
  pub leads : (earlier ++ Connection reply ∷ [], after) ≡ steps_of world (steps_on conn now marked)
  pub own : AreOwnSteps message conn now world marked reply

-- the reply to bytes that take no step: the first of the rules before decoding that fails; S2 if
-- they are no message; out of memory, only if they are a message with something to copy; or the
-- reply of a message that takes no step
pub data IsOwnReply (session : SessionState) (bytes : List ℕ) (reply : SessionReply) : Type 0 where
  FailsARule : (rule : RuleId) → IsFirstToFail (rules_before_decoding session.msize bytes) rule
      → reply ≡ Error rule → IsOwnReply session bytes reply
  IsNoMessage : PassesBeforeDecoding session.msize bytes → IsErr (message_of requests bytes)
      → reply ≡ Error S2 → IsOwnReply session bytes reply
  IsOutOfMemory : PassesBeforeDecoding session.msize bytes → TakesMemory requests bytes
      → reply ≡ Memory → IsOwnReply session bytes reply
  TakesNoStep : (spelled : TMessage) → PassesBeforeDecoding session.msize bytes
      → IsSpelled bytes spelled
      → message_in spelled.body ≡ Err reply → IsOwnReply session bytes reply

-- the reply on the wire to bytes is that of the last of the steps of the message that they spell;
-- or the connection's own, and no step was taken
pub data IsRepliedBySteps (world : World) (conn now : ℕ) (bytes : List ℕ)
    (wire_reply : Spelled reply_side) (after : World) : Type 0 where
  ByItself : (reply : SessionReply) → IsOwnReply (session_at world conn) bytes reply
      → wire_reply ≡ wire_of (tag_in bytes) reply → after ≡ world
      → IsRepliedBySteps world conn now bytes wire_reply after
  BySteps : (spelled : TMessage) (message : Message) (reply : SessionReply)
      → IsSpelled bytes spelled
      → message_in spelled.body ≡ Ok message → wire_reply ≡ wire_of (tag_in bytes) reply
      → IsByOwnSteps world conn now message reply after
      → IsRepliedBySteps world conn now bytes wire_reply after
