use Rattle.std.proofs.Common.{ap}
use Rattle.cs_script.proofs.Ended.{ended_over}
use Rattle.cs_script.proofs.program.script_with.Goals as goal

pub returns-clause-printed : goal.returns-clause-printed
returns-clause-printed g c = (
  g.R.Read.remaining c.script_over-done.new.stream.reader,
  ended_over c.args.inputs.now c.exit_status-status.result c.script_over-done.result
      (g.R.Read.remaining c.new-stream.result.reader) (g.R.Read.remaining c.args.input)
      (g.R.Read.remaining c.script_over-done.new.stream.reader) (g.W.Write.contents c.new-stream.result.writer)
      (g.W.Write.contents c.args.out) (g.W.Write.contents c.script_over-done.new.stream.writer)
      (g.W.Write.contents c.into_writer-out.result) (g.W.Write.contents c.exit_status-status.new.out)
      (ap g.R.Read.remaining c.new-stream.ensures.reader) (ap g.W.Write.contents c.new-stream.ensures.writer)
      (ap g.W.Write.contents c.into_writer-out.ensures) c.exit_status-status.ensures.done c.script_over-done.ensures.printed
      c.exit_status-status.ensures.kept,
)
