use Rattle.std.proofs.Common.{refl}
use Rattle.std.specs.String.{string_bytes}
use Rattle.cs_script.specs.Printed.{Loaded, NotRead, refused_text}
use Rattle.cs_script.proofs.Told.{told_ok, told_err}
use Rattle.cs_script.proofs.running.load_file.Goals as goal

pub returns-in-Err-clause-ok : goal.returns-in-Err-clause-ok
returns-in-Err-clause-ok c =
    told_ok string_bytes (λ text. Loaded c.args.world.now c.args.file.now text c.args.world.now) (refused_text c.in-Err.fault)
    c.refused_text.result
    (NotRead c.in-Err.fault c.in-Err.ensures.exact refl refl) c.refused_text.ensures

pub returns-in-Err-clause-err : goal.returns-in-Err-clause-err
returns-in-Err-clause-err c =
    told_err (λ text. Loaded c.args.world.now c.args.file.now text c.args.world.now) (refused_text c.in-Err.fault) c.refused_text.result
    (NotRead c.in-Err.fault c.in-Err.ensures.exact refl refl)
