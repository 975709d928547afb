use Rattle.std.proofs.Common.{ℕ, Bool, true, false, List, [], ◌∷◌, sym, ap}
use Rattle.cs_session.specs.declared.message.Message.{Message}
use Rattle.cs_session.specs.declared.reply.Reply.{Reply}
use Rattle.cs_session.specs.Marks.{OwnMark}
use Rattle.cs_session.specs.Messages.{IfElse, Answers, goes_on, next_step}
use Rattle.cs_session.specs.Questions.{Question, PortAnswer}
use Rattle.cs_session.specs.Sessions.{SessionState}
use Rattle.cs_session.specs.Trails.{IsTrail, StepRecord}
use Rattle.cs_session.proofs.laws.message_is_steps.Goals as goal

choose : (b : Bool) (A B C : Type 0) → IfElse b A B → (A → C) → (B → C) → C
choose true A B C e f h = f e
choose false A B C e f h = h e

trail_of : {P : Type 0} (gives : P → Question → PortAnswer → P → Type 0) (now : ℕ) (message : Message) (marks : List OwnMark)
    (s : SessionState) (p : P) (reply : Reply) (s' : SessionState) (p' : P)
    → Answers gives now message marks s p reply s' p' → IsTrail gives now s p marks reply s' p'
trail_of gives now message [] s p reply s' p' a = absurd a
trail_of gives now message (mark ∷ marks) s p reply s' p' (step_reply, mid, there, takes, e) =
    let first : StepRecord = record { step = next_step message s; mark = mark; reply = step_reply } in
    choose (goes_on message (next_step message s) step_reply) _ _ (IsTrail gives now s p (mark ∷ marks) reply s' p') e
    (λ more.
    let rest = trail_of gives now message marks mid there reply s' p' more in
    record {
      steps = first ∷ rest.steps;
      last = rest.last;
      trail = (mid, there, takes, rest.trail);
      marks_are = ap (λ ms. mark ∷ ms) rest.marks_are;
      reply_is = rest.reply_is;
    })
    (λ done. record {
      steps = [];
      last = first;
      trail = (mid, there, takes, (done.2, done.3));
      marks_are = ap (λ ms. mark ∷ ms) (sym done.0);
      reply_is = done.1;
    })

pub returns : goal.returns
returns g c = λ now message marks s t p q reply a. trail_of g.P.Port.gives now message marks s p reply t q a
