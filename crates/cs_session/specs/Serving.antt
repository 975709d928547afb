-- What a server does with a stream: whole messages are answered, one after the other, and their
-- replies written in order.
use Rattle.std.specs.Prelude.{◌≡◌, ◌≢◌, ℕ, ◌<◌, ◌≤◌, List, [], ◌∷◌, ◌++◌, length, map, Option, None}
use Rattle.std.specs.Prelude.{Result, Ok, Err, ⊤}
use Rattle.std.specs.List.{flat_map}
use Rattle.std.specs.Io.KnownBytes.{Appends, Consumes, IsAtEnd}
use Rattle.cs_names.specs.declared.limits.TheConstants.{CONNECTION_READS}
use Rattle.cs_stream.specs.declared.stream.Counts.{Counts}
use Rattle.cs_stream.specs.Streams.{BlamesReads, BlamesWrites, GaveUpInTime, saturating_sum}
use Rattle.cs_wire.specs.declared.framer.FrameFault.{FrameFault}
use Rattle.cs_wire.specs.declared.framer.FrameFault.TheVariants as frame
use Rattle.cs_wire.specs.Framing.{Begins, IsUnfinished, IsUndersized, IsOversized}
use Rattle.cs_wire.specs.Messages.{Message as Spelled, replies, spelling}
use Rattle.cs_session.specs.declared.message.Message.TheVariants as m
use Rattle.cs_session.specs.declared.reply.Reply.TheVariants as r
use Rattle.cs_session.specs.declared.serving.ServeFault.{ServeFault}
use Rattle.cs_session.specs.declared.serving.ServeFault.TheVariants.{ReadFault, WriteFault}
use Rattle.cs_session.specs.declared.serving.ServeFault.TheVariants.{FrameFault as BadFrame, Memory}
use Rattle.cs_session.specs.declared.serving.StopReason.{StopReason}
use Rattle.cs_session.specs.declared.serving.StopReason.TheVariants.{More, Done, Stopped}
use Rattle.cs_session.specs.Messages.{IsAnswered}
use Rattle.cs_session.specs.Questions.{Question, PortAnswer}
use Rattle.cs_session.specs.Receiving.{IsReplied}
use Rattle.cs_session.specs.Sessions.{SessionState, empty_session}

-- A message that came, the moment at which it was answered, and its reply.
pub record Exchange : Type 0 where
  pub message : List ℕ
  pub moment : ℕ
  pub reply : Spelled replies

abbrev pub messages_of : List Exchange → List (List ℕ)
messages_of exchanges = map (λ exchange. exchange.message) exchanges

-- the bytes of the replies, in order
abbrev pub replies_of : List Exchange → List ℕ
replies_of exchanges = flat_map (λ exchange. spelling exchange.reply) exchanges

-- what comes next is no message, for this reason
abbrev pub IsFaulty : FrameFault → List ℕ → Type 0
IsFaulty frame.Undersize left = IsUndersized left
IsFaulty frame.Oversize left = IsOversized left
IsFaulty frame.Cut left = ⊥

-- why no more messages were answered: the replies fill their room, and some were answered; none is
-- left; or what comes next is no message
abbrev pub StopsFor : StopReason → List ℕ → List ℕ → Type 0
StopsFor More came left = length left < length came
StopsFor Done came left = IsUnfinished left
StopsFor (Stopped fault) came left = IsFaulty fault left

-- at which of the bytes that came the answers stop, and which bytes of the replies were not sent
abbrev pub StopsAt : Result (Unit {0}) ServeFault → List ℕ → List ℕ → Type 0
StopsAt (Ok x) left unsent = IsUnfinished left × (unsent ≡ [])
StopsAt (Err (BadFrame fault)) left unsent = IsFaulty fault left × (unsent ≡ [])
StopsAt (Err WriteFault) left unsent = ⊤
StopsAt (Err ReadFault) left unsent = ⊥
StopsAt (Err Memory) left unsent = ⊥

-- Where a server stops: what came, what is left of it, what of the replies was not sent, and what
-- the stream has left.
abbrev pub EndsAt : Result (Unit {0}) ServeFault → List ℕ → List ℕ → List ℕ → Option (List ℕ)
    → Type 0
-- every byte that came was of a message, every reply was sent, and the stream is at its end
EndsAt (Ok x) came left unsent rest = (left ≡ []) × (unsent ≡ []) × IsAtEnd rest
-- the stream ended inside a message
EndsAt (Err (BadFrame frame.Cut)) came left unsent rest =
    IsUnfinished left × (left ≢ []) × (unsent ≡ []) × IsAtEnd rest
-- the messages before the fault were answered, and the fault comes next
EndsAt (Err (BadFrame fault)) came left unsent rest = IsFaulty fault left × (unsent ≡ [])
-- the messages that came whole were answered
EndsAt (Err ReadFault) came left unsent rest = IsUnfinished left × (unsent ≡ [])
-- some front of the replies was sent
EndsAt (Err WriteFault) came left unsent rest = ⊤
-- nothing was read
EndsAt (Err Memory) came left unsent rest = (came ≡ []) × (unsent ≡ [])

-- Each fault has its cause in the stream's counts, before and after: reads failed or gave up for a
-- read fault, writes for a write fault, and one end was met for Ok and Cut. No more reads were made
-- than a connection has. At most the last 1,000 of its reads, and of its writes, were interrupted
-- in a row; no clause bounds a row that another read or write ended.
pub record FaultsHaveCauses (result : Result (Unit {0}) ServeFault)
    (old new : Counts) : Type 0 where
  pub read_fault : result ≡ Err ReadFault → BlamesReads old new
  pub write_fault : result ≡ Err WriteFault → BlamesWrites old new
  pub ended : result ≡ Ok tt → new.ends ≡ saturating_sum 1 old.ends
  pub cut : result ≡ Err (BadFrame frame.Cut) → new.ends ≡ saturating_sum 1 old.ends
  pub no_end : result ≡ Err ReadFault → new.ends ≡ old.ends
  pub bounded : new.reads ≤ saturating_sum CONNECTION_READS old.reads
  pub reads_in_time : GaveUpInTime old.interrupted_reads new.interrupted_reads
  pub writes_in_time : GaveUpInTime old.interrupted_writes new.interrupted_writes
  pub memory : result ≡ Err Memory → new ≡ old

module _ {P : Type 0} (gives : P → Question → PortAnswer → P → Type 0) where
  -- a message was answered, and the bytes of its reply come after these
  pub record Adds (now : ℕ) (message : List ℕ) (session : SessionState) (port : P)
      (old new : List ℕ)
      (session' : SessionState) (port' : P) : Type 0 where
    pub wire_reply : Spelled replies
    pub replied : IsReplied gives now message session port wire_reply session' port'
    pub adds : new ≡ old ++ spelling wire_reply

  -- each message was answered from where the one before led
  abbrev pub Exchanges : SessionState → P → List Exchange → SessionState → P → Type 0
  Exchanges session port [] session' port' = (session' ≡ session) × (port' ≡ port)
  Exchanges session port (exchange ∷ others) session' port' =
      (mid : SessionState) × (there : P)
      × IsReplied gives exchange.moment exchange.message session port exchange.reply mid there
      × Exchanges mid there others session' port'

  -- the whole messages in front of what came were answered with these bytes, and this is left of it
  pub record AnswersFront (session : SessionState) (port : P) (came left to_send : List ℕ)
      (session' : SessionState)
      (port' : P) : Type 0 where
    pub exchanges : List Exchange
    pub begins : Begins came (messages_of exchanges) left
    pub to_send_is : to_send ≡ replies_of exchanges
    pub run : Exchanges session port exchanges session' port'

  -- likewise, with the replies written to a stream
  pub record Handles (result : Result (Unit {0}) ServeFault) (session : SessionState) (port : P)
      (came left : List ℕ) (con con' : Option (List ℕ)) (session' : SessionState)
      (port' : P) : Type 0 where
    pub sent : List ℕ
    pub unsent : List ℕ
    pub appends : Appends con con' sent
    pub served : AnswersFront session port came left (sent ++ unsent) session' port'
    pub stops : StopsAt result left unsent

  -- likewise, with the messages read from it
  pub record Converses (result : Result (Unit {0}) ServeFault) (session : SessionState) (port : P)
      (rem rem' con con' : Option (List ℕ)) (session' : SessionState) (port' : P) : Type 0 where
    pub came : List ℕ
    pub left : List ℕ
    pub sent : List ℕ
    pub unsent : List ℕ
    pub consumes : Consumes rem rem' came
    pub appends : Appends con con' sent
    pub served : AnswersFront session port came left (sent ++ unsent) session' port'
    pub ends : EndsAt result came left unsent rem'

  -- a connection from its beginning to its hang-up
  pub record Conversation (result : Result (Unit {0}) ServeFault) (port : P)
      (rem rem' con con' : Option (List ℕ)) (port' : P) : Type 0 where
    pub last : SessionState
    pub there : P
    pub moment : ℕ
    pub conversed : Converses result (empty_session None) port rem rem' con con' last there
    pub hung_up : IsAnswered gives moment m.HangUp last there r.Closed (empty_session None) port'
