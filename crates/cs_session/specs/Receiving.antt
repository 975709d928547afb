-- From a message's bytes to the reply on the wire.
use Rattle.std.specs.Prelude.{◌≡◌, ℕ, not, ◌&&◌, Bool, true, false, List, [], ◌∷◌, length, map}
use Rattle.std.specs.Prelude.{nat_lt, codes, is_none, Option, None, Some, Result, Ok, Err, IsErr}
use Rattle.std.specs.Prelude.{slice_index, string_bytes}
use Rattle.std.specs.Option.{option_map_or}
use Rattle.std.specs.Int.{w16, from_le_bytes}
use Rattle.cs_names.specs.declared.rule_id.RuleId.{RuleId}
use Rattle.cs_names.specs.declared.rule_id.RuleId.TheVariants.{S1, S2, S3, S5}
use Rattle.cs_names.specs.Rules.{text_of}
use Rattle.cs_permit.specs.Refusals.{Check, first_failing}
use Rattle.cs_permit.specs.Sent.{sent_of}
use Rattle.cs_wire.specs.declared.kind.RKind.TheVariants as rk
use Rattle.cs_wire.specs.declared.kind.TKind.{TKind}
use Rattle.cs_wire.specs.declared.kind.TKind.TheVariants as tk
use Rattle.cs_wire.specs.declared.message.TBody.{TBody}
use Rattle.cs_wire.specs.declared.message.TBody.TheVariants as t
use Rattle.cs_wire.specs.declared.message.TMessage.{TMessage}
use Rattle.cs_wire.specs.Answers.{TakesMemory}
use Rattle.cs_wire.specs.Messages.{IsMessage, Message as Spelled, qid_of, replies, requests}
use Rattle.cs_wire.specs.Messages.{spelling, t_kind_of, t_view}
use Rattle.cs_wire.specs.Reading.{message_of}
use Rattle.cs_session.specs.declared.message.CallMessage.TheVariants as call
use Rattle.cs_session.specs.declared.message.Message.{Message}
use Rattle.cs_session.specs.declared.message.Message.TheVariants as m
use Rattle.cs_session.specs.declared.reply.Reply.{Reply}
use Rattle.cs_session.specs.declared.reply.Reply.TheVariants as r
use Rattle.cs_session.specs.Marks.{OwnMark, MessageMark, NoDecode, Steps}
use Rattle.cs_session.specs.Messages.{Answers}
use Rattle.cs_session.specs.Questions.{Question, PortAnswer}
use Rattle.cs_session.specs.Sessions.{SessionState}

-- the tag of a message: its bytes 5 and 6
abbrev pub tag_in : List ℕ → ℕ
tag_in bytes = from_le_bytes w16 (slice_index bytes 5 ∷ slice_index bytes 6 ∷ [])

-- the types that may come with no session
abbrev pub needs_no_session : Option TKind → Bool
needs_no_session (Some tk.Version) = true
needs_no_session (Some tk.Flush) = true
needs_no_session other = false

-- what a message must have before it is decoded: a session, or a type that needs none; and no more
-- bytes than the session's message size
abbrev pub rules_before_decoding : Option ℕ → List ℕ → List Check
rules_before_decoding msize bytes =
    (S1, is_none msize && not (needs_no_session (t_kind_of (slice_index bytes 4))))
    ∷ (S2, option_map_or (λ most. nat_lt most (length bytes)) msize false)
    ∷ []

-- the message for the session, or the reply of one that takes no step: no authentication, and
-- nothing to flush
abbrev pub message_in : TBody → Result Message Reply
message_in (t.Version msize version) = Ok (m.Version msize (string_bytes version))
message_in (t.Auth afid uname aname) = Err (r.Error S3)
message_in (t.Attach fid afid uname aname) =
    Ok (m.Attach
    (record { fid = fid; afid = afid; uname = string_bytes uname; aname = string_bytes aname }))
message_in (t.Flush oldtag) = Err r.Flush
message_in (t.Walk fid newfid wname) =
    Ok (m.Call
    (call.Walk (record { fid = fid; newfid = newfid; names = map string_bytes wname.items })))
message_in (t.Open fid mode) = Ok (m.Call (call.Open (record { fid = fid; mode = mode })))
message_in (t.Create fid name perm mode) =
    Ok (m.Call
    (call.Create (record { fid = fid; name = string_bytes name; perm = perm; mode = mode })))
message_in (t.Read fid offset count) =
    Ok (m.Call (call.Read (record { fid = fid; offset = offset; count = count })))
message_in (t.Write fid offset bytes) =
    Ok (m.Call (call.Write (record { fid = fid; offset = offset; bytes = bytes.now })))
message_in (t.Clunk fid) = Ok (m.Clunk fid)
message_in (t.Remove fid) = Ok (m.Call (call.Remove fid))
message_in (t.Stat fid) = Ok (m.Call (call.Stat fid))
message_in (t.Wstat fid stat) = Ok (m.Call (call.Wstat (record { fid = fid; stat = sent_of stat })))

-- the bytes are that message's
abbrev pub IsSpelled : List ℕ → TMessage → Type 0
IsSpelled bytes message = IsMessage (t_view message) × (bytes ≡ spelling (t_view message))

-- no rule fails before decoding
abbrev pub PassesBeforeDecoding : Option ℕ → List ℕ → Type 0
PassesBeforeDecoding msize bytes = first_failing (rules_before_decoding msize bytes) ≡ None

-- nothing is asked, and the connection is unchanged
abbrev pub NothingChanges : {P : Type 0} → SessionState → P → Reply → Reply → SessionState → P
    → Type 0
NothingChanges session port own reply session' port' =
    (reply ≡ own) × (session' ≡ session) × (port' ≡ port)

module _ {P : Type 0} (gives : P → Question → PortAnswer → P → Type 0) (now : ℕ) where
  -- how bytes are answered, if the allocation that the mark names fails
  pub data Receives (bytes : List ℕ) (session : SessionState) (port : P) (reply : Reply)
      (session' : SessionState)
      (port' : P) : MessageMark → Type 0 where
    -- a rule fails before they are decoded
    Barred : (rule : RuleId) → first_failing (rules_before_decoding session.msize bytes) ≡ Some rule
        → NothingChanges session port (r.Error rule) reply session' port'
        → Receives bytes session port reply session' port' (Steps [])
    -- they are no message
    Malformed : PassesBeforeDecoding session.msize bytes → IsErr (message_of requests bytes)
        → NothingChanges session port (r.Error S2) reply session' port'
        → Receives bytes session port reply session' port' (Steps [])
    -- they are a message with something to copy, and there is no memory for the copy
    Short : PassesBeforeDecoding session.msize bytes → TakesMemory requests bytes
        → NothingChanges session port r.Memory reply session' port'
        → Receives bytes session port reply session' port' NoDecode
    -- they are a message that takes no step
    Alone : (message : TMessage) (own : Reply) → PassesBeforeDecoding session.msize bytes
        → IsSpelled bytes message → message_in message.body ≡ Err own
        → NothingChanges session port own reply session' port'
        → Receives bytes session port reply session' port' (Steps [])
    -- they are a message that is answered by its steps
    Asked : (message : TMessage) (asks : Message) (marks : List OwnMark)
        → PassesBeforeDecoding session.msize bytes → IsSpelled bytes message
        → message_in message.body ≡ Ok asks
        → Answers gives now asks marks session port reply session' port'
        → Receives bytes session port reply session' port' (Steps marks)

-- how bytes are answered, whatever memory refuses
pub record IsReceived {P : Type 0} (gives : P → Question → PortAnswer → P → Type 0) (now : ℕ)
    (bytes : List ℕ) (session : SessionState) (port : P) (reply : Reply) (session' : SessionState)
    (port' : P) : Type 0 where
  pub mark : MessageMark
  pub received : Receives gives now bytes session port reply session' port' mark

-- why bytes are not read: they are no message, or there is no memory for what must be copied
abbrev pub IsUnread : List ℕ → Reply → Type 0
IsUnread bytes r.Memory = TakesMemory requests bytes
IsUnread bytes (r.Error rule) = IsErr (message_of requests bytes) × (rule ≡ S2)
IsUnread bytes reply = ⊥

-- ---- the reply on the wire

-- the version that is spoken, or that none is
abbrev pub version_named : Bool → List ℕ
version_named true = codes "9P2000"
version_named false = codes "unknown"

abbrev pub error_reply : ℕ → List ℕ → Spelled replies
error_reply tag text = record { kind = rk.Error; tag = tag; fields = text }

-- a reply that has a form on the wire: neither that of a find nor that of a connection's end, which
-- no message has
abbrev pub IsOnWire : Reply → Type 0
IsOnWire r.Found = ⊥
IsOnWire r.Closed = ⊥
IsOnWire reply = Unit {0}

-- the reply as a message on the wire; one that isn't on the wire is taken as S5
abbrev pub wire_of : ℕ → Reply → Spelled replies
wire_of tag (r.Version msize spoken) =
    record { kind = rk.Version; tag = tag; fields = (msize, version_named spoken) }
wire_of tag (r.Attach qid) = record { kind = rk.Attach; tag = tag; fields = qid_of qid }
wire_of tag (r.Walk way) = record { kind = rk.Walk; tag = tag; fields = map qid_of way.qids }
wire_of tag (r.Open qid) = record { kind = rk.Open; tag = tag; fields = (qid_of qid, 0) }
wire_of tag (r.Create qid) = record { kind = rk.Create; tag = tag; fields = (qid_of qid, 0) }
wire_of tag (r.Read bytes) = record { kind = rk.Read; tag = tag; fields = bytes }
wire_of tag (r.Write count) = record { kind = rk.Write; tag = tag; fields = count }
wire_of tag r.Clunk = record { kind = rk.Clunk; tag = tag; fields = tt }
wire_of tag r.Remove = record { kind = rk.Remove; tag = tag; fields = tt }
wire_of tag (r.Stat stat) = record { kind = rk.Stat; tag = tag; fields = stat }
wire_of tag r.Wstat = record { kind = rk.Wstat; tag = tag; fields = tt }
wire_of tag r.Flush = record { kind = rk.Flush; tag = tag; fields = tt }
wire_of tag (r.Error rule) = error_reply tag (text_of rule)
wire_of tag r.Memory = error_reply tag (codes "out of memory")
wire_of tag other = error_reply tag (text_of S5)

-- the bytes of a message were answered, with the message's tag
pub record IsReplied {P : Type 0} (gives : P → Question → PortAnswer → P → Type 0) (now : ℕ)
    (bytes : List ℕ) (session : SessionState) (port : P) (wire_reply : Spelled replies)
    (session' : SessionState)
    (port' : P) : Type 0 where
  pub reply : Reply
  pub received : IsReceived gives now bytes session port reply session' port'
  pub wire_reply_is : wire_reply ≡ wire_of (tag_in bytes) reply
