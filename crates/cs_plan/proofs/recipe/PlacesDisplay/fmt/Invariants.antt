use Rattle.std.proofs.Common.{take}
use Rattle.std.specs.Prelude.{codes, decimal, ◌++◌}
use Rattle.std.specs.Fmt.{HasWritten, IsPlainFormatter}
use Rattle.std.specs.List.{flat_map}
use Rattle.cs_plan.proofs.recipe.PlacesDisplay.fmt.Given as goal

abbrev pub invariant-loop-place : goal.invariant-loop-place
invariant-loop-place g l =
    IsPlainFormatter l.initial.f
    → HasWritten g.W.Write.write_str_gives l.initial.f (flat_map (λ k. codes "," ++ decimal k) (take l.place-index l.others)) l.f
