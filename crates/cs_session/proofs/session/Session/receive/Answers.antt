use Rattle.std.proofs.Common.{◌∙◌, ◌≡◌, ℕ, List, [], Err, refl, rules, subst, sym}
use Rattle.cs_names.specs.declared.rule_id.RuleId.TheVariants.{S3}
use Rattle.cs_wire.specs.declared.message.TBody.{TBody}
use Rattle.cs_wire.specs.declared.message.TBody.TheVariants as body
use Rattle.cs_session.specs.declared.reply.Reply.{Reply}
use Rattle.cs_session.specs.declared.reply.Reply.TheVariants as r
use Rattle.cs_session.specs.Marks.{NoDecode, Steps}
use Rattle.cs_session.specs.Questions.{Question, PortAnswer}
use Rattle.cs_session.specs.Receiving.{Alone, Asked, Barred, PassesBeforeDecoding, IsOnWire, IsReceived, IsUnread, Malformed, Short}
use Rattle.cs_session.specs.Receiving.{message_in}
use Rattle.cs_session.specs.Sessions.{SessionState}
use Rattle.cs_session.proofs.Fitting.{asks_fit}
use Rattle.cs_session.proofs.OnWire.{no_hang_up, on_wire}
use Rattle.cs_session.proofs.session.Session.receive.Goals as goal

-- bytes that are not read
module _ {P : Type 0} (gives : P → Question → PortAnswer → P → Type 0) (now : ℕ) (bytes : List ℕ) (s : SessionState) (p : P)
    (let_in : PassesBeforeDecoding s.msize bytes) where
  unread : (reply : Reply) → IsUnread bytes reply → IsReceived gives now bytes s p reply s p
  unread r.Memory u = record { mark = NoDecode; received = Short let_in u (refl, refl, refl) }
  unread (r.Error rule) u = record { mark = Steps []; received = Malformed let_in u.0 (rw u.1 (refl, refl, refl)) }
  unread reply u = absurd u

pub returns-in-Some-clause-received : goal.returns-in-Some-clause-received
returns-in-Some-clause-received g c = record { mark = Steps []; received = Barred c.in-Some.rule (search rules) (refl, refl, refl) }

pub returns-in-Err-clause-received : goal.returns-in-Err-clause-received
returns-in-Err-clause-received g c =
    unread g.P.Port.gives c.args.now c.args.bytes.now c.args.self.now c.args.port.now (search rules) c.in-Err.reply c.in-Err.ensures.err

pub returns-in-Err-message_in-clause-received : goal.returns-in-Err-message_in-clause-received
returns-in-Err-message_in-clause-received g c =
    record {
      mark = Steps [];
      received =
          Alone c.in-Ok.message c.in-Err-message_in.reply (search rules) c.in-Ok.ensures.ok
          (sym c.message_in.ensures ∙ c.in-Err-message_in.is) (refl, refl, refl);
    }

pub returns-clause-received : goal.returns-clause-received
returns-clause-received g c =
    let answered = c.answer.ensures.answered in
    record {
      mark = Steps answered.marks;
      received =
          Asked c.in-Ok.message c.in-Ok-message_in.asks answered.marks (search rules) c.in-Ok.ensures.ok
          (sym c.message_in.ensures ∙ c.in-Ok-message_in.is) answered.answers;
    }

pub returns-clause-fits : goal.returns-clause-fits
returns-clause-fits g c =
    let asks = sym c.message_in.ensures ∙ c.in-Ok-message_in.is in
    c.answer.ensures.fits (rw asks at (asks_fit c.in-Ok.message.tag c.in-Ok.message.body c.in-Ok.ensures.ok.0.fields_fit))

pub returns-clause-on_wire : goal.returns-clause-on_wire
returns-clause-on_wire g c =
    let answered = c.answer.ensures.answered in
    on_wire g.P.Port.gives c.args.now c.in-Ok-message_in.asks
    (no_hang_up c.in-Ok.message.body c.in-Ok-message_in.asks (sym c.message_in.ensures ∙ c.in-Ok-message_in.is)) answered.marks _ _ _ _ _
    answered.answers

-- the reply to bytes that aren't read
unread_on_wire : (bytes : List ℕ) (reply : Reply) → IsUnread bytes reply → IsOnWire reply
unread_on_wire bytes r.Memory u = tt
unread_on_wire bytes (r.Error rule) u = tt
unread_on_wire bytes reply u = absurd u

pub returns-in-Err-clause-on_wire : goal.returns-in-Err-clause-on_wire
returns-in-Err-clause-on_wire g c = unread_on_wire c.args.bytes.now c.in-Err.reply c.in-Err.ensures.err

-- and to a message that takes no step
own_on_wire : (b : TBody) (reply : Reply) → message_in b ≡ Err reply → IsOnWire reply
own_on_wire (body.Auth afid uname aname) reply e = let is : r.Error S3 ≡ reply = cc in subst IsOnWire is tt
own_on_wire (body.Flush oldtag) reply e = let is : r.Flush ≡ reply = cc in subst IsOnWire is tt
own_on_wire b reply e = absurd (cc)

pub returns-in-Err-message_in-clause-on_wire : goal.returns-in-Err-message_in-clause-on_wire
returns-in-Err-message_in-clause-on_wire g c =
    own_on_wire c.in-Ok.message.body c.in-Err-message_in.reply (sym c.message_in.ensures ∙ c.in-Err-message_in.is)
