use Rattle.std.proofs.Common.{◌≡◌, ◌≤◌, ◌<◌, length, ◌+◌, ◌-◌, ◌*◌}
use Rattle.cs_stream.specs.Streams.{KeepsReads, saturating_sum}
use Rattle.cs_stream.proofs.Written.{Wrote}
use Rattle.cs_stream.proofs.stream.write_all.Given as goal

abbrev pub invariant-loop-rest : goal.invariant-loop-rest
invariant-loop-rest g l =
    let was = g.S.Stream.counts l.fn.stream in
    let is = g.S.Stream.counts l.stream in
    record {
      wrote : Wrote (g.S.Stream.contents l.fn.stream) (g.S.Stream.contents l.stream) l.bytes l.rest;
      waits : l.waits < 1000;
      interrupted : l.waits ≤ is.interrupted_writes;
      row : is.interrupted_writes ≤ saturating_sum l.waits was.interrupted_writes;
      waits_on : 0 < l.waits → 0 < length l.rest;
      writes : saturating_sum l.waits was.writes ≤ is.writes;
      failed : was.failed_writes ≤ is.failed_writes;
      idle : was.idle_writes ≤ is.idle_writes;
      reads : KeepsReads was is;
      remaining : g.S.Stream.remaining l.stream ≡ g.S.Stream.remaining l.fn.stream;
    }

abbrev pub decreases-loop-rest : goal.decreases-loop-rest
decreases-loop-rest g l = length l.rest * 1000 + (1000 - l.waits)
