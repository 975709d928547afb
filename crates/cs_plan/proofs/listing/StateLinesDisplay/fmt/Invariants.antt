use Rattle.std.specs.Fmt.{HasWritten, IsPlainFormatter}
use Rattle.std.specs.List.{flat_map}
use Rattle.cs_plan.specs.Lists.{state_line}
use Rattle.cs_plan.specs.Plans.{places_below}
use Rattle.cs_plan.proofs.listing.StateLinesDisplay.fmt.Given as goal

abbrev pub invariant-loop-number : goal.invariant-loop-number
invariant-loop-number g l =
    IsPlainFormatter l.initial.f
    → HasWritten g.W.Write.write_str_gives l.initial.f (flat_map (state_line l.self.scene.now) (places_below l.number-counter)) l.f
