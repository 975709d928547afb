use Rattle.std.proofs.Common.{◌≡◌, Ok, length, take}
use Rattle.cs_trace.specs.Kept.{state_of}
use Rattle.cs_trace.specs.States.{lines_in, state_in}
use Rattle.cs_trace.proofs.lines.state_after_lines.Given as goal

abbrev pub invariant-loop-i : goal.invariant-loop-i
invariant-loop-i l = state_in (take (length l.yielded) (lines_in l.text)) ≡ Ok (state_of l.state)
