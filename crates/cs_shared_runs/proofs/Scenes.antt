-- What is done under the registry's lock leaves it the server's.
use Rattle.std.proofs.Common.{ℕ, Bool, true, false, not, Option, None, Some, sym, subst}
use Rattle.std.specs.Prelude.{IfSome, Result, Ok, Err, if◌then◌else◌}
use Rattle.std.specs.Option.{option_map_or}
use Rattle.std.proofs.lemmas.List.Elements.{All-push}
use Rattle.cs_permit.specs.declared.fault.FindFault.{FindFault}
use Rattle.cs_permit.specs.declared.fault.FindFault.TheVariants.{Unpublished, Full}
use Rattle.cs_plan.specs.Scenes.{Published, Scene}
use Rattle.cs_registry.specs.Finds.{Finds, IsNew, found_again, made}
use Rattle.cs_registry.specs.Keys.{Key}
use Rattle.cs_registry.specs.Publishing.{Publishes}
use Rattle.cs_registry.specs.Registries.{Registry, is_published}
use Rattle.cs_registry.specs.Runs.{has_no_room, place_of}
use Rattle.cs_registry.specs.declared.fault.PublishFault.{PublishFault}
use Rattle.cs_registry.specs.declared.fault.PublishFault.TheVariants.{Stranger, Twice, Memory}
use Rattle.cs_shared_runs.specs.Finding.{IsKeyed, IsOfServer, is_fresh}
use Rattle.cs_shared_runs.proofs.Keyed.{found_again_keyed}

module _ (is_scene : Scene → Type 0) (old new : Registry Key) (is : IsOfServer is_scene old) where
  -- a registry in which a state was published
  pub published_of_server : (state : Published) (answer : Result Unit PublishFault) → Publishes old state answer new
      → IsOfServer is_scene new
  published_of_server state (Ok _) done = subst (IsOfServer is_scene) (sym done.2) (record { scene = is.scene; keyed = is.keyed })
  published_of_server state (Err Stranger) done = subst (IsOfServer is_scene) (sym done.1) is
  published_of_server state (Err Twice) done = subst (IsOfServer is_scene) (sym done.2) is
  published_of_server state (Err Memory) done = subst (IsOfServer is_scene) (sym done.2) is

  -- and one in which a run was found
  pub found_of_server : (key : Key) (place : ℕ) → Finds is_fresh old key (Ok place) new → IsOfServer is_scene new
  found_of_server key place finds =
      subst (λ (left : Result ℕ FindFault × Registry Key). IsOfServer is_scene left.1) (sym finds.answers)
      (by (not (is_published old key.number)) (has_no_room old.runs key) (place_of key old.runs) finds.given finds.fresh)
    where
      by : (unpublished full : Bool) (there : Option ℕ) (given : Option Key) → IfSome given (IsNew is_fresh old key)
          → IsOfServer is_scene
          (if unpublished then (Err Unpublished, old) else if full then (Err Full, old)
          else option_map_or (found_again old) there (made old key given)).1
      by true full there given fresh = is
      by false true there given fresh = is
      by false false (Some at) given fresh = record { scene = is.scene; keyed = found_again_keyed old.runs at is.keyed }
      by false false None (Some held) fresh = record { scene = is.scene; keyed = All-push IsKeyed old.runs (key, _) is.keyed fresh.2 }
      by false false None None fresh = is
