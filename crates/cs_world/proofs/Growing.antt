-- The versions and the next number of a published state.
use Rattle.cs_journal.proofs.Unchanged.{unchanged_can_grow}
use Rattle.cs_journal.specs.Bounds.{CanGrow}
use Rattle.cs_plan.specs.Scenes.{IsPublished, Published}

-- each version, and the next number, can grow
pub can_grow : (state : Published) → IsPublished state → CanGrow state.tree
can_grow state is = unchanged_can_grow state.tree is.unchanged.versions is.unchanged.few
