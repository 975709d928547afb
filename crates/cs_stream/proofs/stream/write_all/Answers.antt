use Rattle.std.proofs.Common.{arith, length, ◌∙◌}
use Rattle.cs_stream.specs.declared.stream.Transfer.TheVariants.{Bytes}
use Rattle.cs_stream.proofs.Counting.{keeps_reads_more, up_if}
use Rattle.cs_stream.proofs.Written.{wrote_more}
use Rattle.cs_stream.proofs.stream.write_all.Goals as goal

pub loop-rest-preserved-in-Bytes : goal.loop-rest-preserved-in-Bytes
loop-rest-preserved-in-Bytes g c =
    let was = c.loop-rest.invariant in
    let now = c.in-Bytes.ensures in
    record {
      wrote = rw c.split_at.ensures.back (wrote_more _ _ _ _ _ _ was.wrote now.bytes.1);
      waits = omega arith;
      interrupted = omega arith;
      row = rw now.counted (omega arith);
      waits_on = λ h. absurd (omega (arith, h));
      writes = rw now.counted (omega (arith, was.writes));
      failed = rw now.counted was.failed;
      idle = rw now.counted (up_if _ _ _ was.idle);
      reads = keeps_reads_more _ _ _ (Bytes c.in-Bytes.count) (length c.loop-rest.rest.now) was.reads now.counted;
      remaining = now.remaining ∙ was.remaining;
    }
