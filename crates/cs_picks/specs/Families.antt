-- The families of sets.
use Rattle.std.specs.Prelude.{ℕ, ◌+◌, ◌-◌, ◌==◌, ◌||◌, if◌then◌else◌, Bool, List, []}
use Rattle.std.specs.Prelude.{◌∷◌, ◌++◌, length, map, Option}
use Rattle.std.specs.List.{filter, flat_map}
use Rattle.cs_micro.specs.Micros.{Micros}
use Rattle.cs_sets.specs.Chains.{by_chain}
use Rattle.cs_sets.specs.Orders.{needs_in}
use Rattle.cs_plan.specs.Plans.{places_below}
use Rattle.cs_plan.specs.Scenes.{Scene, micros_of, order_in}
use Rattle.cs_picks.specs.Changes.{changed_files}
use Rattle.cs_picks.specs.Losses.{losses_of}
use Rattle.cs_picks.specs.Left.{is_given, left_of, lost_places}
use Rattle.cs_picks.specs.declared.family.Family.{Family}
use Rattle.cs_picks.specs.declared.family.Family.TheVariants.{Both, Files, Lost}

-- ---- the least sets

-- the one is the place itself, or the place needs it, directly or through others
abbrev pub is_needed : (ℕ → ℕ → Bool) → ℕ → ℕ → Bool
is_needed needs place i = i == place || by_chain needs i place

-- the least allowed set that has the place
abbrev pub least_with : (ℕ → ℕ → Bool) → ℕ → List ℕ
least_with needs place = filter (is_needed needs place) (places_below (place + 1))

-- the least allowed set of each place
abbrev pub lost_sets : List (List Bool) → List (List ℕ)
lost_sets order = map (least_with (needs_in order)) (places_below (length order))

-- ---- the prefixes that lose a file's changes

-- what is left of a prefix without these places, if it is given; the prefix that is a place shorter
-- loses others
abbrev pub sets_left : (ℕ → ℕ → Bool) → List ℕ → List ℕ → ℕ → List (List ℕ)
sets_left needs shorter lost end =
    if is_given needs shorter lost end then left_of needs lost end ∷ [] else []

abbrev pub sets_without : (ℕ → ℕ → Bool) → List (Option ℕ) → List (Option ℕ) → ℕ → List (List ℕ)
sets_without needs shorter losses file =
    sets_left needs (lost_places shorter file) (lost_places losses file) (length losses)

-- the sets of a prefix: for each file the set that is left, if it is given
abbrev pub prefix_sets : Micros → List (List Bool) → ℕ → List (List ℕ)
prefix_sets m order end =
    flat_map
    (sets_without (needs_in order) (losses_of m.ops m.syncs (end - 1))
    (losses_of m.ops m.syncs end))
    (changed_files m.ops)

-- the sets of all prefixes
abbrev pub files_sets : Micros → List (List Bool) → List (List ℕ)
files_sets m order = flat_map (prefix_sets m order) (places_below (length m.ops + 1))

-- ---- of a scene

abbrev pub family_in : Scene → Family → List (List ℕ)
family_in s Lost = lost_sets (order_in s)
family_in s Files = files_sets (micros_of s) (order_in s)
family_in s Both = lost_sets (order_in s) ++ files_sets (micros_of s) (order_in s)
