use Rattle.std.proofs.Common.{length}
use Rattle.cs_wire.specs.Held.{pending_bytes}
use Rattle.cs_serve.proofs.for_linux.translate_requests.Given as goal

abbrev pub decreases-loop-request : goal.decreases-loop-request
decreases-loop-request l = length (pending_bytes l.requests)
