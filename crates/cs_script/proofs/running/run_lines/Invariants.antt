use Rattle.std.proofs.Common.{◌≡◌, take}
use Rattle.cs_stream.specs.Streams.{KeepsFaults, KeepsReads}
use Rattle.cs_script.specs.Scripted.{RanTo}
use Rattle.cs_script.proofs.running.run_lines.Given as goal

abbrev pub invariant-loop-line : goal.invariant-loop-line
invariant-loop-line g l = record {
  ran : RanTo l.fn.world (take l.line-index l.lines) (g.S.Stream.contents l.fn.stream) (g.S.Stream.contents l.stream) l.world;
  faults : KeepsFaults (g.S.Stream.counts l.fn.stream) (g.S.Stream.counts l.stream);
  reads : KeepsReads (g.S.Stream.counts l.fn.stream) (g.S.Stream.counts l.stream);
  remaining : g.S.Stream.remaining l.stream ≡ g.S.Stream.remaining l.fn.stream;
}
