use Rattle.std.proofs.Common.{◌∙◌, arith}
use Rattle.std.specs.BTreeMap.{get}
use Rattle.std.specs.Ordering.{nat_cmp}
use Rattle.cs_overlay.proofs.Owning.{reaches_more}
use Rattle.cs_overlay.proofs.growing.copy_blocks_up.Goals as goal

pub loop-at-preserved : goal.loop-at-preserved
loop-at-preserved g c =
    let inv = c.loop-at.invariant in (
      omega (arith, inv.0, c.min-stop.ensures, c.loop-at-test.true),
      reaches_more (get nat_cmp c.loop-at.blocks) (get nat_cmp c.make_block_reach.new.blocks) c.args.offset c.loop-at.at c.min-stop.result
          c.make_block_reach.ensures.keeps inv.1 (omega (arith, c.min-stop.ensures)) c.in_ok-make_block_reach.ensures.there,
      (λ i. c.make_block_reach.ensures.same i ∙ inv.2 i),
    )
