-- Messages that were answered, their replies written, and more of them.
use Rattle.std.proofs.Common.{◌≡◌, ℕ, List, [], ◌∷◌, ◌++◌, refl, sym, ap, subst, ◌∙◌, append_assoc}
use Rattle.std.specs.Prelude.{Option, Result, Ok, Err, IsOk, OnOk}
use Rattle.std.specs.Io.KnownBytes.{Appends}
use Rattle.std.specs.List.{concat, AllByRecursion}
use Rattle.std.proofs.lemmas.List.{append-nil, map-append}
use Rattle.std.proofs.lemmas.List.Concat.{flat_map-append}
use Rattle.std.proofs.lemmas.List.Folds.{concat-append}
use Rattle.cs_wire.specs.Framing.{Begins, IsWhole}
use Rattle.cs_wire.specs.Messages.{Message as Spelled, replies, spelling}
use Rattle.cs_session.specs.declared.serving.ServeFault.{ServeFault}
use Rattle.cs_session.specs.declared.serving.ServeFault.TheVariants.{WriteFault}
use Rattle.cs_session.specs.Questions.{Question, PortAnswer}
use Rattle.cs_session.specs.Receiving.{IsReplied}
use Rattle.cs_session.specs.Sessions.{SessionState}
use Rattle.cs_session.specs.Serving.{Exchange, messages_of, replies_of, Exchanges, AnswersFront, Handles, StopsAt}
use Rattle.cs_stream.specs.Streams.{AppendsFront}
use Rattle.std.proofs.KnownBytes.{Appends-nil, Appends-trans}

-- ---- bytes

all_then : (xs ys : List (List ℕ)) → AllByRecursion IsWhole xs → AllByRecursion IsWhole ys → AllByRecursion IsWhole (xs ++ ys)
all_then [] ys p q = q
all_then (x ∷ xs) ys p q = (p.0, all_then xs ys p.1 q)

begins_then : (came : List ℕ) (xs : List (List ℕ)) (mid : List ℕ) (ys : List (List ℕ)) (left : List ℕ) → Begins came xs mid
    → Begins mid ys left → Begins came (xs ++ ys) left
begins_then came xs mid ys left p q = record {
  each = all_then xs ys p.each q.each;
  parts = p.parts ∙ ap (λ (z : List ℕ). concat xs ++ z) q.parts ∙ sym (append_assoc (concat xs) (concat ys) left) ∙ ap
      (λ (z : List ℕ). z ++ left) (sym (concat-append xs ys));
}

begins_on : (came : List ℕ) (xs : List (List ℕ)) (left piece : List ℕ) → Begins came xs left → Begins (came ++ piece) xs (left ++ piece)
begins_on came xs left piece p = record {
  each = p.each;
  parts = ap (λ (z : List ℕ). z ++ piece) p.parts ∙ append_assoc (concat xs) left piece;
}

-- ---- exchanges

module _ {P : Type 0} (gives : P → Question → PortAnswer → P → Type 0) where
  run_then : (s : SessionState) (p : P) (xs : List Exchange) (t : SessionState) (q : P) (ys : List Exchange) (u : SessionState) (r : P)
      → Exchanges gives s p xs t q → Exchanges gives t q ys u r → Exchanges gives s p (xs ++ ys) u r
  run_then s p [] t q ys u r h k =
      subst (λ (z : P). Exchanges gives s z ys u r) h.1 (subst (λ (z : SessionState). Exchanges gives z q ys u r) h.0 k)
  run_then s p (x ∷ xs) t q ys u r h k = (h.0, h.1, h.2, run_then h.0 h.1 xs t q ys u r h.3 k)

  pub served_none : (s : SessionState) (p : P) (came : List ℕ) → AnswersFront gives s p came came [] s p
  served_none s p came = record { exchanges = []; begins = record { each = tt; parts = refl }; to_send_is = refl; run = (refl, refl) }

  pub served_then : (s : SessionState) (p : P) (came mid to_send : List ℕ) (t : SessionState) (q : P) (left more : List ℕ)
      (u : SessionState) (r : P)
      → AnswersFront gives s p came mid to_send t q → AnswersFront gives t q mid left more u r
      → AnswersFront gives s p came left (to_send ++ more) u r
  served_then s p came mid to_send t q left more u r a b = record {
    exchanges = a.exchanges ++ b.exchanges;
    begins = subst (λ (z : List (List ℕ)). Begins came z left) (sym (map-append (λ (x : Exchange). x.message) a.exchanges b.exchanges))
        (begins_then came (messages_of a.exchanges) mid (messages_of b.exchanges) left a.begins b.begins);
    to_send_is =
        ap (λ (z : List ℕ). z ++ more) a.to_send_is ∙ ap (λ (z : List ℕ). replies_of a.exchanges ++ z) b.to_send_is ∙ sym
        (flat_map-append (λ (x : Exchange). spelling x.reply) a.exchanges b.exchanges);
    run = run_then s p a.exchanges t q b.exchanges u r a.run b.run;
  }

  served_one : (s : SessionState) (p : P) (message left : List ℕ) (now : ℕ) (reply : Spelled replies) (t : SessionState) (q : P)
      → IsWhole message → IsReplied gives now message s p reply t q
      → AnswersFront gives s p (message ++ left) left (spelling reply) t q
  served_one s p message left now reply t q whole replied = record {
    exchanges = record { message = message; moment = now; reply = reply } ∷ [];
    begins = record { each = (whole, tt); parts = ap (λ (z : List ℕ). z ++ left) (sym (append-nil message)) };
    to_send_is = sym (append-nil (spelling reply));
    run = (t, q, replied, (refl, refl));
  }

  -- one message more
  pub served_more : (s : SessionState) (p : P) (came mid to_send : List ℕ) (t : SessionState) (q : P) (message left : List ℕ) (now : ℕ)
      (reply : Spelled replies) (u : SessionState) (r : P)
      → AnswersFront gives s p came mid to_send t q → mid ≡ message ++ left → IsWhole message → IsReplied gives now message t q reply u r
      → AnswersFront gives s p came left (to_send ++ spelling reply) u r
  served_more s p came mid to_send t q message left now reply u r a e whole replied =
      served_then s p came mid to_send t q left (spelling reply) u r a
      (subst (λ (z : List ℕ). AnswersFront gives t q z left (spelling reply) u r) (sym e)
      (served_one t q message left now reply u r whole replied))

  -- more bytes
  pub served_on : (s : SessionState) (p : P) (came left to_send : List ℕ) (t : SessionState) (q : P) (piece : List ℕ)
      → AnswersFront gives s p came left to_send t q → AnswersFront gives s p (came ++ piece) (left ++ piece) to_send t q
  served_on s p came left to_send t q piece a = record {
    exchanges = a.exchanges;
    begins = begins_on came (messages_of a.exchanges) left piece a.begins;
    to_send_is = a.to_send_is;
    run = a.run;
  }

  -- ---- written to a stream

  -- so far, with every reply written
  pub record Handling (s : SessionState) (p : P) (came left : List ℕ) (con con' : Option (List ℕ)) (s' : SessionState)
      (p' : P) : Type 0 where
    pub sent : List ℕ
    pub appends : Appends con con' sent
    pub served : AnswersFront gives s p came left sent s' p'

  pub handling_none : (s : SessionState) (p : P) (came : List ℕ) (con : Option (List ℕ)) → Handling s p came came con con s p
  handling_none s p came con = record { sent = []; appends = Appends-nil con; served = served_none s p came }

  pub handling_more : (s : SessionState) (p : P) (came mid left : List ℕ) (con con' con'' : Option (List ℕ)) (t : SessionState) (q : P)
      (to_send : List ℕ) (u : SessionState) (r : P)
      → Handling s p came mid con con' t q → AnswersFront gives t q mid left to_send u r → Appends con' con'' to_send
      → Handling s p came left con con'' u r
  handling_more s p came mid left con con' con'' t q to_send u r h more appends = record {
    sent = h.sent ++ to_send;
    appends = Appends-trans con con' con'' h.sent to_send h.appends appends;
    served = served_then s p came mid h.sent t q left to_send u r h.served more;
  }

  pub handled_whole : (result : Result (Unit {0}) ServeFault) (s : SessionState) (p : P) (came left : List ℕ) (con con' : Option (List ℕ))
      (t : SessionState) (q : P)
      → Handling s p came left con con' t q → StopsAt result left [] → Handles gives result s p came left con con' t q
  handled_whole result s p came left con con' t q h stops = record {
    sent = h.sent;
    unsent = [];
    appends = h.appends;
    served = subst (λ (z : List ℕ). AnswersFront gives s p came left z t q) (sym (append-nil h.sent)) h.served;
    stops = stops;
  }

  pub handled_part : (s : SessionState) (p : P) (came mid left : List ℕ) (con con' con'' : Option (List ℕ)) (t : SessionState) (q : P)
      (to_send : List ℕ) (u : SessionState) (r : P)
      → Handling s p came mid con con' t q → AnswersFront gives t q mid left to_send u r → AppendsFront con' con'' to_send
      → Handles gives (Err WriteFault) s p came left con con'' u r
  handled_part s p came mid left con con' con'' t q to_send u r h more part =
      let all : h.sent ++ to_send ≡ (h.sent ++ part.sent) ++ part.unsent =
      ap (λ (z : List ℕ). h.sent ++ z) part.parts ∙ sym (append_assoc h.sent part.sent part.unsent) in
      record {
        sent = h.sent ++ part.sent;
        unsent = part.unsent;
        appends = Appends-trans con con' con'' h.sent part.sent h.appends part.appends;
        served = subst (λ (z : List ℕ). AnswersFront gives s p came left z u r) all
            (served_then s p came mid h.sent t q left to_send u r h.served more);
        stops = tt;
      }

-- what holds of a call that succeeds
pub on_ok : {A E : Type 0} (answer : Result A E) (Q : Type 0) → IsOk answer → OnOk answer Q → Q
on_ok (Ok x) Q ok q = q
on_ok (Err e) Q ok q = absurd cc
