use Rattle.std.proofs.Common.{◌≡◌, fold, map, take}
use Rattle.cs_apm.specs.Rules.{op_at}
use Rattle.cs_state.specs.Windows.{size_after}
use Rattle.cs_same_states.proofs.reaching.size_after_places.Given as goal

abbrev pub invariant-loop-place : goal.invariant-loop-place
invariant-loop-place l = l.left ≡ fold (size_after l.file) l.size (map (op_at l.ops) (take l.place-index l.places))
