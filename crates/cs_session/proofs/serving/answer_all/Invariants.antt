use Rattle.std.proofs.Common.{◌≡◌, ◌≤◌, ◌*◌, None, length, vec_capacity}
use Rattle.cs_names.specs.declared.limits.TheConstants.{MESSAGE_BYTES}
use Rattle.cs_wire.specs.Held.{pending_bytes, size_of}
use Rattle.cs_stream.specs.Streams.{KeepsReads, KeepsFaults}
use Rattle.cs_session.proofs.Conversing.{Handling}
use Rattle.cs_session.proofs.serving.answer_all.Given as goal

abbrev pub invariant-loop-fault : goal.invariant-loop-fault
invariant-loop-fault g l =
    let was = g.S.Stream.counts l.fn.stream in
    let is = g.S.Stream.counts l.stream in
    record {
      handling : Handling g.P.Port.gives l.fn.session l.fn.port (pending_bytes l.fn.framer) (pending_bytes l.framer)
          (g.S.Stream.contents l.fn.stream) (g.S.Stream.contents l.stream) l.session l.port;
      faults : KeepsFaults was is;
      reads : KeepsReads was is;
      no_row : is.interrupted_writes ≤ was.interrupted_writes;
      remaining : g.S.Stream.remaining l.stream ≡ g.S.Stream.remaining l.fn.stream;
      size : size_of l.framer ≡ size_of l.fn.framer;
      room : 2 * MESSAGE_BYTES ≤ vec_capacity l.replies;
      idle : l.session.awaited ≡ None;
    }

abbrev pub decreases-loop-fault : goal.decreases-loop-fault
decreases-loop-fault g l = length (pending_bytes l.framer)
