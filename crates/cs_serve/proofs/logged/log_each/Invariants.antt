use Rattle.std.proofs.Common.{length}
use Rattle.cs_wire.specs.Held.{pending_bytes}
use Rattle.cs_serve.proofs.logged.log_each.Given as goal

abbrev pub decreases-loop-reply : goal.decreases-loop-reply
decreases-loop-reply g l = length (pending_bytes l.replies)
