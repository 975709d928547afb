-- The runs of a registry, in the order in which they were made.
use Rattle.std.specs.Prelude.{ℕ, ◌+◌, nat_le, Bool, false, List, ◌∷◌, [], ◌++◌, length, position}
use Rattle.std.specs.Prelude.{slice_get, slice_set, Option, None, Some}
use Rattle.std.specs.Map.{keys_of}
use Rattle.std.specs.Option.{option_map, option_map_or}
use Rattle.cs_names.specs.declared.limits.TheConstants.{RUNS, RUN_ATTACHES}
use Rattle.cs_registry.specs.Keys.{Key, same_key}
use Rattle.cs_registry.specs.declared.found.Found.{Found}

-- each with its key, how often it was found, and what is kept of it
abbrev pub Runs : Type 0 → Type 0
Runs H = List (Key × Found H)

module _ {H : Type 0} where
  -- the place of the run of this key
  abbrev pub place_of : Key → Runs H → Option ℕ
  place_of key runs = position (same_key key) (keys_of runs)

  -- the key of the run at a place
  abbrev pub key_at : Runs H → ℕ → Option Key
  key_at runs place = option_map (λ run. run.0) (slice_get runs place)

  -- what is kept of the run at a place
  abbrev pub held_at : Runs H → ℕ → Option H
  held_at runs place = option_map (λ run. run.1.held) (slice_get runs place)

  -- how often the run at a place was found
  abbrev pub finds_at : Runs H → ℕ → Option ℕ
  finds_at runs place = option_map (λ run. run.1.finds) (slice_get runs place)

  abbrev pub change : (Found H → Found H) → ℕ → Runs H → Runs H
  change new place runs =
      option_map_or (λ run. slice_set runs place (run.0, new run.1)) (slice_get runs place) runs

  -- the runs with another value kept of the run at a place
  abbrev pub with_held : Runs H → ℕ → H → Runs H
  with_held runs place held = change (λ run. record run { held = held }) place runs

  -- the runs with one find more of the run at a place
  abbrev pub with_find : Runs H → ℕ → Runs H
  with_find runs place = change (λ run. record run { finds = run.finds + 1 }) place runs

  -- the runs with one more, which is found for the first time
  abbrev pub with_run : Runs H → Key → H → Runs H
  with_run runs key held = runs ++ (key, record { finds = 1; held = held }) ∷ []

  -- ---- room

  -- the run was found as often as it can be, or a new one would be one too many
  abbrev pub room_ends : Runs H → Option ℕ → Bool
  room_ends runs None = nat_le RUNS (length runs)
  room_ends runs (Some place) = option_map_or (nat_le RUN_ATTACHES) (finds_at runs place) false

  abbrev pub has_no_room : Runs H → Key → Bool
  has_no_room runs key = room_ends runs (place_of key runs)
