use Rattle.std.proofs.Common.{arith}
use Rattle.std.proofs.lemmas.Grind.{common_steps}
use Rattle.cs_sets.proofs.count.split.Goals as goal

pub loop-future-preserved : goal.loop-future-preserved
loop-future-preserved c =
    let before = c.loop-future.invariant in
    let pushed = c.in_ok-push_halves.ensures in
    record {
      weight = grind (arith, common_steps, before.weight, pushed.weight);
      reached = λ all. pushed.reached (before.reached all) (all c.loop-future.future-index _ c.loop-future-test.true);
    }
