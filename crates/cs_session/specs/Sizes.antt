-- Replies and messages that fit the message size of a session.
use Rattle.std.specs.Prelude.{ℕ, ◌+◌, ◌-◌, ◌≤◌, List, length, max, Option, unwrap_or}
use Rattle.std.specs.List.{AllByRecursion}
use Rattle.cs_names.specs.declared.limits.TheConstants.{LEAST_MESSAGE_SIZE, WALK_NAMES}
use Rattle.cs_permit.specs.Sizes.{IsQid}
use Rattle.cs_wire.specs.declared.message.Qid.{Qid}
use Rattle.cs_wire.specs.declared.message.RBody.{RBody}
use Rattle.cs_wire.specs.Bodies.{ReplyFits as BodyFits, reply_bytes}
use Rattle.cs_wire.specs.Messages.{Fits, Message as Spelled, replies, spelling}
use Rattle.cs_session.specs.declared.message.CallMessage.{CallMessage}
use Rattle.cs_session.specs.declared.message.CallMessage.TheVariants as call
use Rattle.cs_session.specs.declared.message.Message.{Message}
use Rattle.cs_session.specs.declared.message.Message.TheVariants as m
use Rattle.cs_session.specs.declared.reading.TheConstants.{READ_OVERHEAD}
use Rattle.cs_session.specs.declared.reply.Reply.{Reply}
use Rattle.cs_session.specs.declared.reply.Reply.TheVariants as r

-- at most so many qids
pub record AreQids (most : ℕ) (qids : List Qid) : Type 0 where
  pub few : length qids ≤ most
  pub each : AllByRecursion IsQid qids

-- a walk of no more names than a message holds
abbrev pub CallFits : CallMessage → Type 0
CallFits (call.Walk x) = length x.names ≤ WALK_NAMES
CallFits message = Unit {0}

-- a reply fits a session of that message size: a walk has few qids, and a read few bytes; any other
-- is small
abbrev pub ReplyFits : Option ℕ → Reply → Type 0
ReplyFits msize (r.Walk way) = length way.qids ≤ WALK_NAMES
ReplyFits msize (r.Read bytes) = length bytes ≤ unwrap_or msize 0 - READ_OVERHEAD
ReplyFits msize reply = Unit {0}

-- a reply that fits every session
abbrev pub IsPlain : Reply → Type 0
IsPlain reply = (msize : Option ℕ) → ReplyFits msize reply

-- a message whose call fits
abbrev pub MessageFits : Message → Type 0
MessageFits (m.Call x) = CallFits x
MessageFits message = Unit {0}

-- ---- on the wire

-- the message size of the session, if one has begun, and never less than the least one
abbrev pub room_of : Option ℕ → ℕ
room_of msize = max LEAST_MESSAGE_SIZE (unwrap_or msize 0)

-- the fields have a spelling, which with the 7 bytes before it has at most so many bytes
pub record FitsIn (most : ℕ) (body : RBody) : Type 0 where
  pub fields : BodyFits body
  pub small : length (reply_bytes body) + 7 ≤ most

-- a reply that has a spelling, and one of at most so many bytes
pub record FitsWithin (most : ℕ) (reply : Spelled replies) : Type 0 where
  pub fits : Fits reply
  pub small : length (spelling reply) ≤ most
