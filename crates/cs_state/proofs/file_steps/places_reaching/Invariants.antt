use Rattle.std.proofs.Common.{◌≡◌, take}
use Rattle.cs_state.specs.Steps.{places_reaching}
use Rattle.cs_state.proofs.file_steps.places_reaching.Given as goal

abbrev pub invariant-loop-place : goal.invariant-loop-place
invariant-loop-place l = l.found.items ≡ places_reaching l.sizes l.ops (take l.place-index l.places) l.page
