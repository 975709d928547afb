use Rattle.std.proofs.Common.{◌∙◌, ap, arith}
use Rattle.std.proofs.lemmas.Result.{on_ok_weaker}
use Rattle.cs_run.proofs.Joining.{joined_same, room_last}
use Rattle.cs_run.proofs.blocks.widen_last.Goals as goal

pub returns-clause-opens : goal.returns-clause-opens
returns-clause-opens c =
    joined_same c.add_block_if_full.new.blocks.items _ c.index_mut.result.now c.reserve.new.self
    (omega (arith, c.in_ok-add_block_if_full.ensures.some))
    (c.reserve.ensures.items ∙ ap (λ b. b.items) c.index_mut.ensures.value) ∙ c.add_block_if_full.ensures.opens

pub returns-clause-room : goal.returns-clause-room
returns-clause-room c =
    on_ok_weaker c.reserve.result
    (λ room. room_last c.add_block_if_full.new.blocks.items _ c.reserve.new.self
    (omega (arith, c.in_ok-add_block_if_full.ensures.some)) room) c.reserve.ensures.ok
