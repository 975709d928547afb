-- Which states are strangers to the registry under its lock.
use Rattle.std.proofs.Common.{◌≢◌, ℕ, refl}
use Rattle.std.specs.Prelude.{◌↔◌, Result, Ok, Err}
use Rattle.cs_plan.specs.Scenes.{Published}
use Rattle.cs_registry.specs.Keys.{Key}
use Rattle.cs_registry.specs.Publishing.{IsStateOf, Publishes}
use Rattle.cs_registry.specs.Registries.{Registry}
use Rattle.cs_registry.specs.declared.fault.PublishFault.{PublishFault}
use Rattle.cs_registry.specs.declared.fault.PublishFault.TheVariants.{Stranger, Twice, Memory}

-- those that are none of its scene
pub own_unless_stranger : (old new : Registry Key) (state : Published) (answer : Result Unit PublishFault)
    → Publishes old state answer new → IsStateOf old.scene state ↔ (answer ≢ Err Stranger)
own_unless_stranger old new state (Ok _) is = (λ own refused. cc, λ other. is.0)
own_unless_stranger old new state (Err Stranger) is = (λ own refused. is.0 own, λ other. absurd (other refl))
own_unless_stranger old new state (Err Twice) is = (λ own refused. cc, λ other. is.0)
own_unless_stranger old new state (Err Memory) is = (λ own refused. cc, λ other. is.0)
