-- What a find of the run of a key returns and leaves.
use Rattle.std.specs.Prelude.{◌≡◌, ◌≢◌, ℕ, not, List, length, if◌then◌else◌, slice_get}
use Rattle.std.specs.Prelude.{IfSome, IsSomeAnd, Option, None, Some, Result, Ok, Err}
use Rattle.std.specs.Option.{option_map_or}
use Rattle.cs_plan.specs.Scenes.{state_at}
use Rattle.cs_tree_model.specs.Tree.{Tree}
use Rattle.cs_users.specs.Rows.{Row}
use Rattle.cs_registry.specs.Keys.{Key}
use Rattle.cs_registry.specs.Registries.{Registry, is_published}
use Rattle.cs_registry.specs.Runs.{has_no_room, held_at, place_of, with_find, with_run}
use Rattle.cs_permit.specs.declared.fault.FindFault.{FindFault}
use Rattle.cs_permit.specs.declared.fault.FindFault.TheVariants.{Unpublished, Full, Memory}

module _ {H : Type 0} where
  -- a run that is made, if memory gives one
  abbrev pub made : Registry H → Key → Option H → Result ℕ FindFault × Registry H
  made registry key None = (Err Memory, registry)
  made registry key (Some held) =
      (Ok (length registry.runs), record registry { runs = with_run registry.runs key held })

  abbrev pub found_again : Registry H → ℕ → Result ℕ FindFault × Registry H
  found_again registry place = (Ok place, record registry { runs = with_find registry.runs place })

  -- the place of the run of the key, and what is left: the state must be published, and there must
  -- be room for the attach; a key that has no run gets the one that memory gives
  abbrev pub found : Registry H → Key → Option H → Result ℕ FindFault × Registry H
  found registry key given =
      if not (is_published registry key.number) then (Err Unpublished, registry) else
      if has_no_room registry.runs key then (Err Full, registry) else
      option_map_or (found_again registry) (place_of key registry.runs) (made registry key given)

  -- a value is new: of a key, over the tree of its state, with the users
  abbrev pub IsNew : (Key → Tree → List Row → H → Type 0) → Registry H → Key → H → Type 0
  IsNew is_fresh registry key held =
      (tree : Tree) × (state_at registry.scene key.number ≡ Some tree)
      × is_fresh key tree registry.users held

  -- the answer is the definition's for what memory gives, which is a new run or none
  pub record Finds (is_fresh : Key → Tree → List Row → H → Type 0) (old : Registry H) (key : Key)
      (answer : Result ℕ FindFault) (new : Registry H) : Type 0 where
    pub given : Option H
    pub fresh : IfSome given (IsNew is_fresh old key)
    pub answers : (answer, new) ≡ found old key given

  -- the run of the key is at the place: the one that was there before, or a new one if there was
  -- none; no other run changes
  pub record IsFound (is_fresh : Key → Tree → List Row → H → Type 0) (old : Registry H) (key : Key)
      (place : ℕ) (new : Registry H) : Type 0 where
    pub here : place_of key new.runs ≡ Some place
    pub same : (before : ℕ) → place_of key old.runs ≡ Some before
        → (place ≡ before) × (held_at new.runs place ≡ held_at old.runs place)
    pub fresh : place_of key old.runs ≡ None
        → IsSomeAnd (held_at new.runs place) (IsNew is_fresh old key)
    pub others : (other : ℕ) → other ≢ place → slice_get new.runs other ≡ slice_get old.runs other
