use Rattle.std.proofs.Common.{rules, arith}
use Rattle.std.proofs.lemmas.Grind.{common_steps}
use Rattle.std.proofs.lemmas.List.{get_or_default}
use Rattle.cs_sets.proofs.Crowding.{merged_more, merged_rises}
use Rattle.cs_sets.proofs.count.merge.Goals as goal

pub loop-future-preserved : goal.loop-future-preserved
loop-future-preserved c =
    let before = c.loop-future.invariant in
    let added = c.in_ok-add.ensures in
    let i = c.loop-future.future-index in
    let low = c.loop-future-test.true in
    record {
      weight = λ needs m k. grind (arith, common_steps, before.weight needs m k, added.weight needs m k);
      reached = λ needs n k all. added.reached needs n k (before.reached needs n k all) (all i _ low);
      merged = λ sorted. merged_more c.args.futures.now i c.loop-future.merged.items c.add.new.futures.items _ low
          (λ d. get_or_default c.args.futures.now i d _ low) sorted (before.merged sorted) added.first added.rises;
    }

pub returns-clause-rises : goal.returns-clause-rises
returns-clause-rises c = λ sorted.
    merged_rises c.args.futures.now c.loop-future.future-index c.loop-future.merged.items (omega arith)
    (c.loop-future.invariant.merged sorted)
