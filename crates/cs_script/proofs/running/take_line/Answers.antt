use Rattle.std.proofs.Common.{◌≡◌}
use Rattle.cs_script.specs.declared.script.ScriptLine.TheVariants.{Reload}
use Rattle.cs_script.proofs.running.take_line.Goals as goal

pub returns-in-Reload-clause-err : goal.returns-in-Reload-clause-err
returns-in-Reload-clause-err g c =
    let line : c.args.line.now ≡ Reload c.bytes.result.now = cc in
    rw line c.load_file.ensures.err
