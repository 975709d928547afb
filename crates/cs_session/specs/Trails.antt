-- A message's steps as a list, each with its mark, and each from where the one before led.
use Rattle.std.specs.Prelude.{◌≡◌, ℕ, List, [], ◌∷◌, ◌++◌, map}
use Rattle.cs_session.specs.declared.reply.Reply.{Reply}
use Rattle.cs_session.specs.Marks.{OwnMark}
use Rattle.cs_session.specs.Questions.{Question, PortAnswer}
use Rattle.cs_session.specs.Sessions.{SessionState}
use Rattle.cs_session.specs.Steps.{Step, TakesWithMark}

pub record StepRecord : Type 0 where
  pub step : Step
  pub mark : OwnMark
  pub reply : Reply

module _ {P : Type 0} (gives : P → Question → PortAnswer → P → Type 0) (now : ℕ) where
  -- each step leads to where the next one begins
  abbrev pub Trail : SessionState → P → List StepRecord → SessionState → P → Type 0
  Trail session port [] session' port' = (session' ≡ session) × (port' ≡ port)
  Trail session port (taken ∷ others) session' port' =
      (mid : SessionState) × (there : P)
      × TakesWithMark gives now session port taken.step taken.mark taken.reply mid there
      × Trail mid there others session' port'

  -- steps with these marks, of which the last has this reply
  pub record IsTrail (session : SessionState) (port : P) (marks : List OwnMark) (reply : Reply)
      (session' : SessionState) (port' : P) : Type 0 where
    pub steps : List StepRecord
    pub last : StepRecord
    pub trail : Trail session port (steps ++ last ∷ []) session' port'
    pub marks_are : map (λ taken. taken.mark) (steps ++ last ∷ []) ≡ marks
    pub reply_is : reply ≡ last.reply
