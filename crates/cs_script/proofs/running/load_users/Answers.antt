use Rattle.std.specs.String.{string_bytes}
use Rattle.cs_users.specs.declared.fault.UsersFault.TheVariants.{Memory}
use Rattle.cs_script.specs.Printed.{Loaded, refused_text, reloaded_text}
use Rattle.cs_script.proofs.Loading.{not_kept, taken}
use Rattle.cs_script.proofs.Told.{told_ok, told_err}
use Rattle.cs_script.proofs.running.load_users.Goals as goal

pub returns-in-Reloaded-clause-ok : goal.returns-in-Reloaded-clause-ok
returns-in-Reloaded-clause-ok c =
    told_ok string_bytes (λ text. Loaded c.args.world.now c.args.file.now text c.step.new.self) reloaded_text c.reloaded_text.result
    (taken _ _ _ _ _ c.requires c.step.ensures.steps c.in-Reloaded.is) c.reloaded_text.ensures

pub returns-in-Reloaded-clause-err : goal.returns-in-Reloaded-clause-err
returns-in-Reloaded-clause-err c =
    told_err (λ text. Loaded c.args.world.now c.args.file.now text c.step.new.self) reloaded_text c.reloaded_text.result
    (taken _ _ _ _ _ c.requires c.step.ensures.steps c.in-Reloaded.is)

pub returns-in-NotReloaded-clause-ok : goal.returns-in-NotReloaded-clause-ok
returns-in-NotReloaded-clause-ok c =
    told_ok string_bytes (λ text. Loaded c.args.world.now c.args.file.now text c.step.new.self) (refused_text Memory)
    c.refused_text.result (not_kept _ _ _ _ _ c.requires c.step.ensures.steps c.in-NotReloaded.is) c.refused_text.ensures

pub returns-in-NotReloaded-clause-err : goal.returns-in-NotReloaded-clause-err
returns-in-NotReloaded-clause-err c =
    told_err (λ text. Loaded c.args.world.now c.args.file.now text c.step.new.self) (refused_text Memory) c.refused_text.result
    (not_kept _ _ _ _ _ c.requires c.step.ensures.steps c.in-NotReloaded.is)
