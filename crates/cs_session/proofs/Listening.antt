-- Bytes that were read and answered, and more of them.
use Rattle.std.proofs.Common.{◌≡◌, ℕ, ◌+◌, ◌<◌, ◌≤◌, List, [], ◌++◌, length, take, drop, Option, refl, sym, ap, subst, ◌∙◌, append_assoc}
use Rattle.std.proofs.Common.{arith}
use Rattle.std.specs.Prelude.{Result, Ok, Err}
use Rattle.std.specs.Io.KnownBytes.{Appends, Consumes, Keeps}
use Rattle.std.proofs.lemmas.List.{append-nil, take_at, take-append-drop, length-append, length-drop, length-take-le}
use Rattle.cs_wire.specs.declared.framer.FrameFault.TheVariants.{Undersize, Oversize, Cut}
use Rattle.cs_wire.specs.Framing.{IsUnfinished, size_in}
use Rattle.cs_wire.specs.Held.{Held, pending_bytes, size_of, after_advance, room_with}
use Rattle.cs_names.specs.declared.limits.TheConstants.{MESSAGE_BYTES}
use Rattle.cs_wire.proofs.OneCut.{short}
use Rattle.cs_session.specs.declared.serving.ServeFault.{ServeFault}
use Rattle.cs_session.specs.declared.serving.ServeFault.TheVariants.{WriteFault, FrameFault, Memory}
use Rattle.cs_session.specs.Questions.{Question, PortAnswer}
use Rattle.cs_session.specs.Sessions.{SessionState}
use Rattle.cs_session.specs.Serving.{AnswersFront, Handles, Converses, FaultsHaveCauses, StopsAt, EndsAt}
use Rattle.cs_stream.specs.declared.stream.Counts.{Counts}
use Rattle.std.proofs.KnownBytes.{Appends-nil, Appends-trans, Consumes-kept, Consumes-nil, Consumes-trans}
use Rattle.cs_session.proofs.Conversing.{served_none, served_on, served_then}

-- what fills the room is all of it
pub written-whole : (room bytes : List ℕ) → length bytes ≡ length room → room_with room bytes ≡ bytes
written-whole room bytes long = take_at bytes (drop (length bytes) room) (length room) long

pub length-written : (room bytes : List ℕ) → length (room_with room bytes) ≡ length room
length-written room bytes =
    length-take-le (length room) (bytes ++ drop (length bytes) room)
    (omega (arith, length-append bytes (drop (length bytes) room), length-drop (length bytes) room))

pub size-written : (held : Held) (bytes : List ℕ) → size_of (record held { room = room_with held.room bytes }) ≡ size_of held
size-written held bytes = ap (λ (n : ℕ). length held.bytes + n) (length-written held.room bytes)

pub size-taken : (held : Held) (count : ℕ) → size_of (after_advance held count) ≡ size_of held
size-taken held count =
    omega (
      arith,
      length-append held.bytes (take count held.room),
      length-append (take count held.room) (drop count held.room),
      ap length
          (take-append-drop count held.room),
    )

-- after less than a message there is room for more of it
pub room_some : (was is : Held) → pending_bytes is ≡ pending_bytes was → size_of is ≡ size_of was
    → length (pending_bytes is) + length is.room ≡ size_of is → MESSAGE_BYTES ≤ size_of was → IsUnfinished (pending_bytes was)
    → 0 < length is.room
room_some was is same size all enough part = omega (arith, ap length same, size, all, enough, short (pending_bytes was) part)

pub unfinished_none : IsUnfinished []
unfolding size_in
unfinished_none = tt

-- a fault of the answers ends the whole
stops_ends : (fault : ServeFault) (came left unsent : List ℕ) (rest : Option (List ℕ)) → StopsAt (Err fault) left unsent
    → EndsAt (Err fault) came left unsent rest
stops_ends (FrameFault Undersize) came left unsent rest h = h
stops_ends (FrameFault Oversize) came left unsent rest h = h
stops_ends (FrameFault Cut) came left unsent rest h = absurd h.0
stops_ends WriteFault came left unsent rest h = tt
stops_ends fault came left unsent rest h = absurd h

-- no call was made
pub nothing_read : (counts : Counts) → FaultsHaveCauses (Err Memory) counts counts
nothing_read counts = record {
  read_fault = λ e. absurd (cc);
  write_fault = λ e. absurd (cc);
  ended = λ e. absurd (cc);
  cut = λ e. absurd (cc);
  no_end = λ e. absurd (cc);
  bounded = omega arith;
  reads_in_time = omega arith;
  writes_in_time = omega arith;
  memory = λ _. refl;
}

module _ {P : Type 0} (gives : P → Question → PortAnswer → P → Type 0) where
  -- so far, with every whole message answered and every reply written
  pub record Listening (s : SessionState) (p : P) (left : List ℕ) (rem rem' con con' : Option (List ℕ)) (s' : SessionState)
      (p' : P) : Type 0 where
    pub came : List ℕ
    pub sent : List ℕ
    pub consumes : Consumes rem rem' came
    pub appends : Appends con con' sent
    pub served : AnswersFront gives s p came left sent s' p'

  pub listening_none : (s : SessionState) (p : P) (left : List ℕ) (rem con : Option (List ℕ)) → left ≡ []
      → Listening s p left rem rem con con s p
  listening_none s p left rem con e = record {
    came = [];
    sent = [];
    consumes = Consumes-nil rem;
    appends = Appends-nil con;
    served = subst (λ (z : List ℕ). AnswersFront gives s p [] z [] s p) (sym e) (served_none gives s p []);
  }

  -- nothing came
  pub listening_same : (s : SessionState) (p : P) (left : List ℕ) (rem rem' rem'' con con' con'' : Option (List ℕ)) (t : SessionState)
      (q : P)
      → Listening s p left rem rem' con con' t q → Keeps rem' rem'' → con'' ≡ con' → Listening s p left rem rem'' con con'' t q
  listening_same s p left rem rem' rem'' con con' con'' t q h keeps e =
      subst (λ (z : Option (List ℕ)). Listening s p left rem rem'' con z t q) (sym e) (record {
        came = h.came;
        sent = h.sent;
        consumes = Consumes-kept rem rem' rem'' h.came h.consumes keeps;
        appends = h.appends;
        served = h.served;
      })

  -- a piece came
  pub listening_on : (s : SessionState) (p : P) (left : List ℕ) (rem rem' rem'' con con' con'' : Option (List ℕ)) (t : SessionState) (q : P)
      (piece : List ℕ)
      → Listening s p left rem rem' con con' t q → Consumes rem' rem'' piece → con'' ≡ con'
      → Listening s p (left ++ piece) rem rem'' con con'' t q
  listening_on s p left rem rem' rem'' con con' con'' t q piece h consumes e =
      subst (λ (z : Option (List ℕ)). Listening s p (left ++ piece) rem rem'' con z t q) (sym e) (record {
        came = h.came ++ piece;
        sent = h.sent;
        consumes = Consumes-trans rem rem' rem'' h.came piece h.consumes consumes;
        appends = h.appends;
        served = served_on gives s p h.came left h.sent t q piece h.served;
      })

  -- it was answered
  pub listening_more : (s : SessionState) (p : P) (mid left : List ℕ) (rem rem' con con' con'' : Option (List ℕ)) (t : SessionState) (q : P)
      (u : SessionState) (r : P)
      → Listening s p mid rem rem' con con' t q → Handles gives (Ok tt) t q mid left con' con'' u r
      → Listening s p left rem rem' con con'' u r
  listening_more s p mid left rem rem' con con' con'' t q u r h a =
      let all : a.sent ++ a.unsent ≡ a.sent = ap (λ (z : List ℕ). a.sent ++ z) a.stops.1 ∙ append-nil a.sent in
      record {
        came = h.came;
        sent = h.sent ++ a.sent;
        consumes = h.consumes;
        appends = Appends-trans con con' con'' h.sent a.sent h.appends a.appends;
        served = served_then gives s p h.came mid h.sent t q left a.sent u r h.served
            (subst (λ (z : List ℕ). AnswersFront gives t q mid left z u r) all a.served);
      }

  -- it was answered up to a fault
  pub conversed_part : (fault : ServeFault) (s : SessionState) (p : P) (mid left : List ℕ) (rem rem' con con' con'' : Option (List ℕ))
      (t : SessionState) (q : P) (u : SessionState) (r : P)
      → Listening s p mid rem rem' con con' t q → Handles gives (Err fault) t q mid left con' con'' u r
      → Converses gives (Err fault) s p rem rem' con con'' u r
  conversed_part fault s p mid left rem rem' con con' con'' t q u r h a = record {
    came = h.came;
    left = left;
    sent = h.sent ++ a.sent;
    unsent = a.unsent;
    consumes = h.consumes;
    appends = Appends-trans con con' con'' h.sent a.sent h.appends a.appends;
    served = subst (λ (z : List ℕ). AnswersFront gives s p h.came left z u r) (sym (append_assoc h.sent a.sent a.unsent))
        (served_then gives s p h.came mid h.sent t q left (a.sent ++ a.unsent) u r h.served a.served);
    ends = stops_ends fault h.came left a.unsent rem' a.stops;
  }

  -- it ended with every reply written
  pub conversed_whole : (result : Result (Unit {0}) ServeFault) (s : SessionState) (p : P) (left : List ℕ)
      (rem rem' con con' : Option (List ℕ)) (t : SessionState) (q : P)
      → Listening s p left rem rem' con con' t q → ((came : List ℕ) → EndsAt result came left [] rem')
      → Converses gives result s p rem rem' con con' t q
  conversed_whole result s p left rem rem' con con' t q h ends = record {
    came = h.came;
    left = left;
    sent = h.sent;
    unsent = [];
    consumes = h.consumes;
    appends = h.appends;
    served = subst (λ (z : List ℕ). AnswersFront gives s p h.came left z t q) (sym (append-nil h.sent)) h.served;
    ends = ends h.came;
  }

  -- nothing was read
  pub conversed_nothing : (s : SessionState) (p : P) (rem con : Option (List ℕ)) → Converses gives (Err Memory) s p rem rem con con s p
  conversed_nothing s p rem con = record {
    came = [];
    left = [];
    sent = [];
    unsent = [];
    consumes = Consumes-nil rem;
    appends = Appends-nil con;
    served = served_none gives s p [];
    ends = (refl, refl);
  }
