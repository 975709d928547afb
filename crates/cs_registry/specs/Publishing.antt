-- What it is to publish a state.
use Rattle.std.specs.Prelude.{◌≡◌, ◌<◌, ℕ, true, false, length, slice_set, Result, Ok, Err}
use Rattle.cs_plan.specs.Scenes.{Published, Scene}
use Rattle.cs_registry.specs.Registries.{Registry, is_published}
use Rattle.cs_registry.specs.declared.fault.PublishFault.{PublishFault}
use Rattle.cs_registry.specs.declared.fault.PublishFault.TheVariants.{Stranger, Twice, Memory}

-- a state that was made is one of the scene's: it was made in it, and has a number of its plan
abbrev pub IsStateOf : Scene → Published → Type 0
IsStateOf scene state = (state.number < length scene.plan) × (state.scene ≡ scene)

module _ {H : Type 0} where
  abbrev pub with_published : Registry H → ℕ → Registry H
  with_published registry number =
      record registry { published = slice_set registry.published number true }

  -- the result, and the registry after it: Stranger comes first, then Twice, and out of memory last
  abbrev pub Publishes : Registry H → Published → Result Unit PublishFault → Registry H → Type 0
  Publishes old state (Ok _) new =
      IsStateOf old.scene state × (is_published old state.number ≡ false)
      × (new ≡ with_published old state.number)
  Publishes old state (Err Stranger) new = (¬ IsStateOf old.scene state) × (new ≡ old)
  Publishes old state (Err Twice) new =
      IsStateOf old.scene state × (is_published old state.number ≡ true) × (new ≡ old)
  Publishes old state (Err Memory) new =
      IsStateOf old.scene state × (is_published old state.number ≡ false) × (new ≡ old)
