use Rattle.std.proofs.Common.{◌≡◌, ◌≤◌, ◌<◌, vec_len}
use Rattle.std.specs.Io.KnownBytes.{Consumes}
use Rattle.cs_stream.specs.Streams.{KeepsFaults, saturating_sum}
use Rattle.cs_script.proofs.reading.read_all.Given as goal

abbrev pub invariant-loop : goal.invariant-loop
invariant-loop g l =
    let was = g.S.Stream.counts l.fn.stream in
    let is = g.S.Stream.counts l.stream in
    record {
      read : Consumes (g.S.Stream.remaining l.fn.stream) (g.S.Stream.remaining l.stream) l.bytes.items;
      contents : g.S.Stream.contents l.stream ≡ g.S.Stream.contents l.fn.stream;
      room : vec_len l.room ≡ 65536;
      few : l.waits < 1000;
      waits : l.waits ≤ is.interrupted_reads;
      made : l.waits ≤ l.counter;
      reads : is.reads ≡ saturating_sum l.counter was.reads;
      failed : was.failed_reads ≤ is.failed_reads;
      ends : is.ends ≡ was.ends;
      faults : KeepsFaults was is;
    }
