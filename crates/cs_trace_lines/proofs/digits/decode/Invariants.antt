use Rattle.std.proofs.Common.{◌-◌, ◌*◌}
use Rattle.cs_trace_lines.proofs.HexDigits.{IsDecoded}
use Rattle.cs_trace_lines.proofs.digits.decode.Given as goal

abbrev pub invariant-loop-decoded : goal.invariant-loop-decoded
invariant-loop-decoded l = IsDecoded l.fn.digits.items l.digits.items l.decoded

abbrev pub decreases-loop-decoded : goal.decreases-loop-decoded
decreases-loop-decoded l = l.len - 2 * l.decoded
