use Rattle.std.proofs.Common.{◌≡◌, [], length}
use Rattle.cs_registry.specs.Registries.{missing_of}
use Rattle.cs_publish.proofs.publishing.publish_made.Given as goal

abbrev pub invariant-missing : goal.invariant-missing
invariant-missing g l =
    (l.states.scene ≡ l.fn.states.scene) × (l.states.users ≡ l.fn.states.users) × (length l.states.published ≡ length l.states.scene.plan)
    × (l.states.runs ≡ [])

abbrev pub decreases-missing : goal.decreases-missing
decreases-missing g l = missing_of l.states
