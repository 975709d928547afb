use Rattle.std.specs.Fmt.{HasWritten, IsPlainFormatter}
use Rattle.std.specs.List.{flat_map}
use Rattle.cs_plan.specs.Lists.{op_line}
use Rattle.cs_plan.specs.Plans.{places_below}
use Rattle.cs_plan.proofs.listing.OpLinesDisplay.fmt.Given as goal

abbrev pub invariant-loop-place : goal.invariant-loop-place
invariant-loop-place g l =
    IsPlainFormatter l.initial.f
    → HasWritten g.W.Write.write_str_gives l.initial.f (flat_map (op_line l.op-items) (places_below l.place-counter)) l.f
