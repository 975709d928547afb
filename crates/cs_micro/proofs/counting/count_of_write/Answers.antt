use Rattle.std.proofs.Common.{length, sym, ap, ◌∙◌, arith, eq-eqb, refl}
use Rattle.std.proofs.lemmas.Bool.{false≢true}
use Rattle.cs_trace_lines.specs.Versions.{block_bytes}
use Rattle.cs_micro.specs.Blocks.{block_writes}
use Rattle.cs_micro.proofs.Counted.{count_written}
use Rattle.cs_micro.proofs.counting.count_of_write.Goals as goal

pub returns : goal.returns
returns c file =
    let bytes = c.args.bytes.now in
    let count =
    count_written c.args.version file c.args.size c.args.offset bytes
    (λ none. false≢true (sym c.if-is_empty.false ∙ c.is_empty.ensures ∙ eq-eqb (length bytes) 0 none)) in
    let grown = c.count_of_growth-changes.ensures.value file in
    let blocks = c.count_of_blocks.ensures.value file bytes refl in
    let same = ap (λ size. length (block_writes (block_bytes size) file c.args.offset bytes)) c.block_size.ensures in
    omega (arith, count, grown, blocks, same)
