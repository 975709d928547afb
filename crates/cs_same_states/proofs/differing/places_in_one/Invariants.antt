use Rattle.std.proofs.Common.{◌≡◌, ℕ, ◌+◌, ◌-◌, ◌≤◌, Bool, [], length, take}
use Rattle.cs_state.specs.Steps.{items_that_pass}
use Rattle.cs_same_states.proofs.differing.places_in_one.Given as goal

abbrev pub invariant-loop-here : goal.invariant-loop-here
invariant-loop-here l = record {
  here : l.here ≤ length l.places;
  there : l.there ≤ length l.others;
  same : (f : ℕ → Bool) → items_that_pass f l.found.items ≡ []
      → items_that_pass f (take l.here l.places) ≡ items_that_pass f (take l.there l.others);
}

abbrev pub decreases-loop-here : goal.decreases-loop-here
decreases-loop-here l = length l.places - l.here + (length l.others - l.there)
