use Rattle.std.proofs.Common.{length}
use Rattle.cs_wire.specs.Held.{pending_bytes}
use Rattle.cs_serve.proofs.for_linux.translate_replies.Given as goal

abbrev pub decreases-loop-reply : goal.decreases-loop-reply
decreases-loop-reply l = length (pending_bytes l.replies)
