use Rattle.std.proofs.Common.{◌∙◌, ap, refl, arith}
use Rattle.std.proofs.lemmas.List.{get_or_default}
use Rattle.cs_run.proofs.Joining.{ascending_own, lies_there, none_past, not_there, of_other}
use Rattle.cs_run.proofs.blocks.open_place_of.Goals as goal

pub returns-then-block_index-blocks-clause-value : goal.returns-then-block_index-blocks-clause-value
returns-then-block_index-blocks-clause-value c =
    none_past c.args.blocks.now c.requires.ascending c.requires.filled c.args.number c.args.pass c.blocks_below-block_index.result
    c.if-block_index-blocks.true c.blocks_below-block_index.ensures.below

pub index_of_open-requires : goal.index_of_open-requires
index_of_open-requires c =
    ascending_own c.args.blocks.now c.requires.ascending c.requires.filled c.args.number c.args.pass c.blocks_below-block_index.result
    c.index-blocks-block_index.result (omega arith) c.index-blocks-block_index.is _ c.as_slice-opens.ensures.value

pub returns-in_default-clause-value : goal.returns-in_default-clause-value
returns-in_default-clause-value c =
    not_there c.args.blocks.now c.requires.ascending c.requires.filled c.args.number c.args.pass c.blocks_below-block_index.result
    c.index-blocks-block_index.result (omega arith) c.index-blocks-block_index.is _ c.as_slice-opens.ensures.value
    c.blocks_below-block_index.ensures.below c.blocks_below-block_index.ensures.next (c.in_default.ensures.missing refl)

pub returns-then-opens-at-clause-value : goal.returns-then-opens-at-clause-value
returns-then-opens-at-clause-value c =
    lies_there c.args.blocks.now c.requires.ascending c.requires.filled c.args.number c.args.pass c.blocks_below-block_index.result
    c.index-blocks-block_index.result (omega arith) c.index-blocks-block_index.is _ c.as_slice-opens.ensures.value c.in-Some.at
    c.in-Some.ensures.bound c.in-Some.ensures.found
    (λ d. ap (λ o. o.pass) (get_or_default _ _ d _ c.in-Some.ensures.bound) ∙ c.if-opens-at.true)

pub returns-else-opens-at-clause-value : goal.returns-else-opens-at-clause-value
returns-else-opens-at-clause-value c =
    of_other c.args.blocks.now c.requires.ascending c.requires.filled c.args.number c.args.pass c.blocks_below-block_index.result
    c.index-blocks-block_index.result (omega arith) c.index-blocks-block_index.is _ c.as_slice-opens.ensures.value c.in-Some.at
    c.in-Some.ensures.bound c.in-Some.ensures.found
    (λ d same. c.if-opens-at.false (ap (λ o. o.pass) (get_or_default _ _ _ d c.in-Some.ensures.bound) ∙ same))
