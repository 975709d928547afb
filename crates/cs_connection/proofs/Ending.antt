-- What comes of a connection that was served.
use Rattle.std.proofs.Common.{◌≡◌, ℕ, List, Option, sym, subst, inl}
use Rattle.std.specs.Prelude.{Result}
use Rattle.cs_session.specs.declared.serving.ServeFault.{ServeFault}
use Rattle.cs_session.specs.Serving.{Conversation}
use Rattle.cs_shared_runs.specs.Answers.{GivesAnswer, GivesAttach}
use Rattle.cs_shared_runs.specs.Serving.{HasRuns}
use Rattle.cs_connection.specs.Kept.{FoundRuns, no_runs}
use Rattle.cs_connection.specs.Asking.{Gives}
use Rattle.cs_connection.specs.Served.{HasEnded, ConversationOf}

module _ (serves : HasRuns) (answered : GivesAnswer) (attached : GivesAttach) (result : Result (Unit {0}) ServeFault)
    (rem rem' con con' : Option (List ℕ)) (first last kept : FoundRuns) (begins : first ≡ no_runs) (ends : kept ≡ last)
    (is : Conversation (Gives serves answered attached) result first rem rem' con con' last) where
  pub serving : ConversationOf serves answered attached (record { result = result; kept = kept }) rem rem' con con'
  serving =
      subst (λ (k : FoundRuns). Conversation (Gives serves answered attached) result k rem rem' con con' kept) begins
      (subst (λ (k : FoundRuns). Conversation (Gives serves answered attached) result first rem rem' con con' k) (sym ends) is)

  pub has_ended : HasEnded serves answered attached (record { result = result; kept = kept })
  has_ended = inl (record { remaining = rem; remaining' = rem'; contents = con; contents' = con'; serving = serving })
