use Rattle.std.proofs.Common.{◌≡◌, ◌++◌, ◌∷◌, [], ◌+◌, ◌-◌, ap, sym, ◌∙◌, arith, map, length, append_assoc}
use Rattle.std.proofs.lemmas.List.FromFn.{map-range_with_len_more}
use Rattle.std.specs.List.{range_with_len}
use Rattle.cs_trace_lines.specs.Versions.{block_bytes}
use Rattle.cs_micro.specs.Blocks.{block_of, block_write, block_writes}
use Rattle.cs_micro.proofs.Divisions.{blocks_ascend}
use Rattle.cs_micro.proofs.blocks.push_blocks.Goals as goal

pub loop-block-preserved : goal.loop-block-preserved
loop-block-preserved c =
    let size = block_bytes c.args.block_size in
    let f = block_write size c.args.file c.args.offset c.args.bytes.now in
    let first = block_of size c.args.offset in
    let block = c.loop-block.block in
    let n = block - first in
    let op = c.in_ok-write_block.field-0 in
    let old = c.args.ops.now.items in
    let above = c.loop-block.auto.block in
    let longer : n + 1 ≡ block + 1 - first = omega (arith, above) in
    c.in_ok-push.ensures.items ∙ ap (λ v. v ++ op ∷ []) c.loop-block.invariant
    ∙ append_assoc old (map f (range_with_len first n)) (op ∷ [])
    ∙ ap (λ o. old ++ (map f (range_with_len first n) ++ o ∷ [])) c.in_ok-write_block.ensures
    ∙ ap (λ v. old ++ v) (sym (map-range_with_len_more f first n block (omega (arith, above))))
    ∙ ap (λ m. old ++ map f (range_with_len first m)) longer

pub returns : goal.returns
unfolding block_writes
returns c =
    let size = block_bytes c.args.block_size in
    let f = block_write size c.args.file c.args.offset c.args.bytes.now in
    let first = block_of size c.args.offset in
    let last = block_of size (c.args.offset + length c.args.bytes.now - 1) in
    let ascend =
    blocks_ascend c.args.block_size c.args.offset (c.args.offset + length c.args.bytes.now - 1) (omega (arith, c.requires.some)) in
    let whole : c.loop-block.block - first ≡ last + 1 - first =
    omega (arith, c.loop-block-test.false, c.loop-block.auto.block-end, ascend) in
    c.loop-block.invariant ∙ ap (λ n. c.args.ops.now.items ++ map f (range_with_len first n)) whole
