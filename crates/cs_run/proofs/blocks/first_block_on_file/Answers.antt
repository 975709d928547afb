use Rattle.std.proofs.Common.{◌≡◌, ◌∙◌, true, ap, arith, sym}
use Rattle.cs_permit.specs.Opens.{is_open as is_on}
use Rattle.cs_run.proofs.Joining.{is_on_here}
use Rattle.cs_run.proofs.blocks.first_block_on_file.Goals as goal

pub returns-then-is_on : goal.returns-then-is_on
returns-then-is_on c =
    let own : is_on c.block-item.result.items c.args.file ≡ true =
    ap (λ xs. is_on xs c.args.file) (sym c.as_slice.ensures.value) ∙ sym c.is_on.ensures ∙ c.if-is_on.true in
    ap (λ xs. is_on xs c.args.file) c.as_slice-then-is_on.ensures.value ∙ own ∙ sym
    (is_on_here c.args.blocks.now c.loop-block.block-index c.block-item.result c.args.file (omega arith)
    (ap (λ b. is_on b.items c.args.file) (sym c.block-item.is) ∙ own))
