use Rattle.std.proofs.Common.{string_bytes, take}
use Rattle.cs_serve.specs.Summary.{AreReported}
use Rattle.cs_serve.proofs.summary.runs_text.Given as goal

abbrev pub invariant-loop-run : goal.invariant-loop-run
invariant-loop-run g l = AreReported g.S.ServerBrand.serves l.passes (take l.run-index l.runs) (string_bytes l.text)
