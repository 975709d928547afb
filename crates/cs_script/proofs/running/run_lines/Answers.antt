use Rattle.std.proofs.Common.{refl, ◌∙◌}
use Rattle.cs_stream.proofs.Counting.{keeps_faults_same, keeps_faults_then, keeps_reads_same, keeps_reads_then}
use Rattle.cs_inputs.proofs.Blaming.{output_later}
use Rattle.cs_script.proofs.RunLines.{ran_none, ran_next, ran_until}
use Rattle.cs_script.proofs.running.run_lines.Goals as goal

pub loop-line-init : goal.loop-line-init
loop-line-init g c = record { ran = ran_none _ _; faults = keeps_faults_same _; reads = keeps_reads_same _; remaining = refl }

pub loop-line-preserved : goal.loop-line-preserved
loop-line-preserved g c =
    let was = c.loop-line.invariant in
    let said = c.in_default.ensures in
    record {
      ran = ran_next _ _ _ c.line-item.result _ _ _ _ _ said.prints.0 c.loop-line-test.true c.line-item.is was.ran said.prints.1
          said.prints.2;
      faults = keeps_faults_then _ _ _ was.faults said.faults;
      reads = keeps_reads_then _ _ _ was.reads said.reads;
      remaining = said.remaining ∙ was.remaining;
    }

pub returns-in-Err : goal.returns-in-Err
returns-in-Err g c =
    let was = c.loop-line.invariant in
    let said = c.in-Err.ensures in
    record {
      ran = tt;
      stopped =
          ran_until _ _ _ c.line-item.result _ _ _ _ _ said.prints.0 c.loop-line-test.true c.line-item.is was.ran said.prints.1
          said.prints.2;
      fault = output_later (g.S.Stream.counts c.args.stream.now) (g.S.Stream.counts c.loop-line.stream)
          (g.S.Stream.counts c.run_line.new.stream) c.in-Err.fault was.faults said.fault;
      faults = keeps_faults_then _ _ _ was.faults said.faults;
      reads = keeps_reads_then _ _ _ was.reads said.reads;
      remaining = said.remaining ∙ was.remaining;
    }
