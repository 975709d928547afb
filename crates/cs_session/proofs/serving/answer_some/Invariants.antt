use Rattle.std.proofs.Common.{◌≡◌, ◌≤◌, ◌<◌, ◌*◌, None, length, vec_len, vec_capacity}
use Rattle.cs_names.specs.declared.limits.TheConstants.{MESSAGE_BYTES}
use Rattle.cs_wire.specs.Held.{pending_bytes, size_of}
use Rattle.cs_session.specs.Serving.{AnswersFront}
use Rattle.cs_session.proofs.serving.answer_some.Given as goal

abbrev pub invariant-loop-alloc : goal.invariant-loop-alloc
invariant-loop-alloc g l = record {
  served : AnswersFront g.P.Port.gives l.fn.session l.fn.port (pending_bytes l.fn.framer) (pending_bytes l.framer) l.replies.items l.session
      l.port;
  less : length (pending_bytes l.framer) ≤ length (pending_bytes l.fn.framer);
  fewer : 0 < vec_len l.replies → length (pending_bytes l.framer) < length (pending_bytes l.fn.framer);
  size : size_of l.framer ≡ size_of l.fn.framer;
  room : 2 * MESSAGE_BYTES ≤ vec_capacity l.replies;
  idle : l.session.awaited ≡ None;
}

abbrev pub decreases-loop-alloc : goal.decreases-loop-alloc
decreases-loop-alloc g l = length (pending_bytes l.framer)
