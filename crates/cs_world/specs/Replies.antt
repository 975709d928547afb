-- What the messages of a connection result in, in a world.
use Rattle.std.specs.Prelude.{ℕ, List}
use Rattle.cs_journal.specs.Runs.{RunOf}
use Rattle.cs_registry.specs.Registries.{Registry}
use Rattle.cs_session.specs.declared.message.Message.{Message}
use Rattle.cs_session.specs.declared.reply.Reply.{Reply as SessionReply}
use Rattle.cs_session.specs.Messages.{IsAnswered}
use Rattle.cs_session.specs.Receiving.{IsReplied}
use Rattle.cs_session.specs.Sessions.{SessionState}
use Rattle.cs_wire.specs.Messages.{Message as Spelled, replies as reply_side}
use Rattle.cs_world.specs.Asking.{IsGiven}
use Rattle.cs_world.specs.Lists.{IsRepliedBySteps, IsByOwnSteps}
use Rattle.cs_world.specs.Worlds.{World, session_at, with_both}

-- a message's bytes have this reply on that connection, over the runs of the world, and lead there
abbrev pub IsRepliedOn : World → ℕ → ℕ → List ℕ → Spelled reply_side → World → Type 0
IsRepliedOn world conn now bytes wire_reply after =
    IsReplied IsGiven now bytes (session_at world conn) world.registry wire_reply
    (session_at after conn) after.registry

-- a message has this reply on that connection, and leads there
abbrev pub IsAnsweredOn : World → ℕ → ℕ → Message → SessionReply → World → Type 0
IsAnsweredOn world conn now message reply after =
    IsAnswered IsGiven now message (session_at world conn) world.registry reply
    (session_at after conn) after.registry

-- ---- by steps of the world

abbrev pub AreRepliedBySteps : World → ℕ → ℕ → Type 0
AreRepliedBySteps world conn now =
    (bytes : List ℕ) (wire_reply : Spelled reply_side) (session : SessionState)
    (registry : Registry RunOf)
    → IsReplied IsGiven now bytes (session_at world conn) world.registry wire_reply session registry
    → IsRepliedBySteps world conn now bytes wire_reply (with_both world conn session registry)

abbrev pub AreAnsweredBySteps : World → ℕ → ℕ → Type 0
AreAnsweredBySteps world conn now =
    (message : Message) (reply : SessionReply) (session : SessionState) (registry : Registry RunOf)
    → IsAnswered IsGiven now message (session_at world conn) world.registry reply session registry
    → IsByOwnSteps world conn now message reply (with_both world conn session registry)
