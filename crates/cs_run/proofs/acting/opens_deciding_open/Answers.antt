use Rattle.std.proofs.Common.{[], ◌∙◌, sym}
use Rattle.cs_run.proofs.Asking.{same_of_file, same_of_shared}
use Rattle.cs_run.proofs.acting.opens_deciding_open.Goals as goal

pub returns-then-is_exclusive_file : goal.returns-then-is_exclusive_file
returns-then-is_exclusive_file g c users =
    same_of_file (g.T.TreeRead.tree c.args.tree.now) c.block_on_file.result.now c.args.opens.now.items users
    c.args.call.now c.block_on_file.ensures

pub returns-else-is_exclusive_file : goal.returns-else-is_exclusive_file
returns-else-is_exclusive_file g c users =
    same_of_shared (g.T.TreeRead.tree c.args.tree.now) [] c.args.opens.now.items users c.args.call.now
    (sym c.is_exclusive_file.ensures ∙ c.if-is_exclusive_file.false)
