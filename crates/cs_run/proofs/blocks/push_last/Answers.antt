use Rattle.std.proofs.Common.{◌∙◌, ◌++◌, ◌∷◌, [], ap, arith}
use Rattle.cs_run.proofs.Joining.{joined_push, room_some}
use Rattle.cs_run.proofs.blocks.push_last.Goals as goal

pub returns-clause-opens : goal.returns-clause-opens
returns-clause-opens c =
    joined_push c.args.blocks.now.items _ c.index_mut.result.now c.push_reserved.new.self c.args.opened
    (omega (arith, room_some c.args.blocks.now.items c.requires.room))
    (c.push_reserved.ensures.items ∙ ap (λ b. b.items ++ c.args.opened ∷ []) c.index_mut.ensures.value)
