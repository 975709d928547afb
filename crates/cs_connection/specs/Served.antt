-- How a connection ended, over runs that threads share.
use Rattle.std.specs.Prelude.{◌≡◌, ℕ, ◌⊎◌, List, Option, Result, Err}
use Rattle.cs_session.specs.declared.serving.ServeFault.{ServeFault}
use Rattle.cs_session.specs.declared.serving.ServeFault.TheVariants.{Memory}
use Rattle.cs_session.specs.Serving.{Conversation}
use Rattle.cs_shared_runs.specs.Answers.{GivesAnswer, GivesAttach}
use Rattle.cs_shared_runs.specs.Serving.{HasRuns}
use Rattle.cs_connection.specs.Asking.{Gives}
use Rattle.cs_connection.specs.Kept.{FoundRuns, no_runs}

-- how its stream was served, and what it kept
pub record Ended : Type 0 where
  pub result : Result (Unit {0}) ServeFault
  pub kept : FoundRuns

-- there was no memory for its thread
abbrev pub WasRefused : Ended → Type 0
WasRefused ended = (ended.result ≡ Err Memory) × (ended.kept ≡ no_runs)

module _ (serves : HasRuns) (answered : GivesAnswer) (attached : GivesAttach) where
  -- A stream with these bytes was served from its beginning to its hang-up, over runs that threads
  -- share.
  abbrev pub ConversationOf : Ended → (rem rem' con con' : Option (List ℕ)) → Type 0
  ConversationOf ended rem rem' con con' =
      Conversation (Gives serves answered attached) ended.result no_runs rem rem' con con'
      ended.kept

  pub record HadConversation (ended : Ended) : Type 0 where
    pub remaining : Option (List ℕ)
    pub remaining' : Option (List ℕ)
    pub contents : Option (List ℕ)
    pub contents' : Option (List ℕ)
    pub serving : ConversationOf ended remaining remaining' contents contents'

  abbrev pub HasEnded : Ended → Type 0
  HasEnded ended = HadConversation ended ⊎ WasRefused ended
