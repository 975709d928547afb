-- A connection at its place in the list.
use Rattle.std.proofs.Common.{◌≡◌, ℕ, List}
use Rattle.cs_registry.specs.Registries.{Registry}
use Rattle.cs_session.specs.declared.message.Message.{Message}
use Rattle.cs_session.specs.declared.reply.Reply.{Reply}
use Rattle.cs_session.specs.Messages.{IsAnswered}
use Rattle.cs_session.specs.Receiving.{IsReplied}
use Rattle.cs_session.specs.Sessions.{SessionState}
use Rattle.cs_wire.specs.Messages.{Message as Spelled, replies}
use Rattle.cs_world.specs.Asking.{IsGiven}
use Rattle.cs_journal.specs.Runs.{RunOf}

module _ (now : ℕ) where
  pub replied : (bytes : List ℕ) (s t : SessionState) (p : Registry RunOf) (told : Spelled replies) (s' t' : SessionState)
      (p' : Registry RunOf) → t ≡ s → t' ≡ s' → IsReplied IsGiven now bytes s p told s' p' → IsReplied IsGiven now bytes t p told t' p'
  replied bytes s t p told s' t' p' e e' r = rw (e, e') r

  pub answered : (message : Message) (s t : SessionState) (p : Registry RunOf) (reply : Reply) (s' t' : SessionState) (p' : Registry RunOf)
      → t ≡ s → t' ≡ s' → IsAnswered IsGiven now message s p reply s' p' → IsAnswered IsGiven now message t p reply t' p'
  answered message s t p reply s' t' p' e e' a = rw (e, e') a
