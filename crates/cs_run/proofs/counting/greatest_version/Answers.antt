use Rattle.std.proofs.Common.{arith}
use Rattle.cs_run.proofs.Bounding.{all_within}
use Rattle.cs_run.proofs.counting.greatest_version.Goals as goal

pub returns : goal.returns
returns g c = record {
  bounds = all_within (g.T.TreeRead.tree c.args.tree.now) c.loop-number.greatest c.last_number-last.result
      c.version_of-greatest.ensures.is_tree c.last_number-last.ensures
      (λ n less. c.loop-number.invariant.before n (omega (arith, less, c.loop-number-test.false))) c.loop-number.invariant.last;
  least = c.loop-number.invariant.least;
}
