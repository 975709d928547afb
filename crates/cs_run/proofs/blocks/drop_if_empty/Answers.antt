use Rattle.std.proofs.Common.{◌∙◌, ap, arith}
use Rattle.std.proofs.lemmas.Bool.Decides.{nat_tests}
use Rattle.cs_run.proofs.Joining.{joined_drop}
use Rattle.cs_run.specs.Blocks.{all_opens}
use Rattle.cs_run.proofs.blocks.drop_if_empty.Goals as goal

pub returns-then-is_empty-clause-opens : goal.returns-then-is_empty-clause-opens
returns-then-is_empty-clause-opens c =
    ap all_opens c.remove-empty.ensures.items ∙ joined_drop c.args.blocks.now.items c.args.block_index c.index.result.now c.requires.bound
    (grind (arith, nat_tests))
