use Rattle.std.proofs.Common.{◌≡◌, ◌≤◌, ◌<◌, ◌*◌, None, vec_capacity}
use Rattle.cs_names.specs.declared.limits.TheConstants.{MESSAGE_BYTES}
use Rattle.cs_wire.specs.Framing.{IsUnfinished}
use Rattle.cs_wire.specs.Held.{pending_bytes, size_of}
use Rattle.cs_stream.specs.Streams.{saturating_sum}
use Rattle.cs_stream.proofs.Counting.{Reading}
use Rattle.cs_session.proofs.Listening.{Listening}
use Rattle.cs_session.proofs.serving.converse.Given as goal

abbrev pub invariant-loop : goal.invariant-loop
invariant-loop g l =
    let was = g.S.Stream.counts l.fn.stream in
    let is = g.S.Stream.counts l.stream in
    record {
      listening : Listening g.P.Port.gives l.fn.session l.fn.port (pending_bytes l.framer) (g.S.Stream.remaining l.fn.stream)
          (g.S.Stream.remaining l.stream) (g.S.Stream.contents l.fn.stream) (g.S.Stream.contents l.stream) l.session l.port;
      unfinished : IsUnfinished (pending_bytes l.framer);
      size : MESSAGE_BYTES ≤ size_of l.framer;
      room : 2 * MESSAGE_BYTES ≤ vec_capacity l.replies;
      idle : l.session.awaited ≡ None;
      few : l.waits < 1000;
      waits : l.waits ≤ is.interrupted_reads;
      row : is.interrupted_reads ≤ saturating_sum l.waits was.interrupted_reads;
      writes : is.interrupted_writes ≤ was.interrupted_writes;
      made : l.waits ≤ l.counter;
      reading : Reading l.counter was is;
    }
