-- The states of a scene may be published in a server that has them.
use Rattle.std.proofs.Common.{◌≡◌, ◌∙◌, ap, sym}
use Rattle.cs_journal.proofs.Unchanged.{unchanged_can_grow}
use Rattle.cs_journal.specs.Bounds.{CanGrow}
use Rattle.cs_plan.specs.Scenes.{IsPublished, Published, Scene, state_at}
use Rattle.cs_registry.specs.Registries.{AdmitsAll}
use Rattle.cs_shared_runs.specs.Serving.{IsPlanned, HasRuns, LoadsUsers, ServesAll, ServesEach}

-- each version, and the next number, can grow
can_grow : (state : Published) → IsPublished state → CanGrow state.tree
can_grow state is = unchanged_can_grow state.tree is.unchanged.versions is.unchanged.few

pub admits_all : (serves : HasRuns) (loads : LoadsUsers) (scene : Scene) → ServesAll serves loads scene → IsPlanned scene
    → AdmitsAll (λ number tree. CanGrow tree × ServesEach serves loads number tree) scene
admits_all serves loads scene all planned state is own =
    (can_grow state is, all planned state.number state.tree (ap (λ (s : Scene). state_at s state.number) (sym own) ∙ is.state))
