use Rattle.std.proofs.Common.{◌∙◌, ap}
use Rattle.std.specs.List.{remove}
use Rattle.cs_run.proofs.Joining.{joined_remove, lies}
use Rattle.cs_run.proofs.blocks.remove_open.Goals as goal

pub returns-clause-value : goal.returns-clause-value
returns-clause-value c =
    lies c.args.blocks.now.items c.args.place.block_index c.args.place.at c.index_mut.result.now c.requires.has_open
    c.index_mut.ensures.value c.remove-open.result c.remove-open.ensures.value

pub returns-clause-opens : goal.returns-clause-opens
returns-clause-opens c =
    c.drop_if_empty.ensures.opens ∙ joined_remove c.args.blocks.now.items c.args.place.block_index c.args.place.at c.index_mut.result.now
    c.remove-open.new.self c.requires.has_open.block (c.requires.has_open.inside c.index_mut.result.now)
    (c.remove-open.ensures.items ∙ ap (λ b. remove b.items c.args.place.at) c.index_mut.ensures.value)
