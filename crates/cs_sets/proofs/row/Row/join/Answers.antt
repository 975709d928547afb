use Rattle.std.proofs.Common.{rules, subst, arith}
use Rattle.cs_sets.specs.Bits.{has_place}
use Rattle.cs_sets.proofs.Words.{IsJoined, join_none, join_more, join_bits}
use Rattle.cs_sets.proofs.row.Row.join.Goals as goal

pub loop-w-init : goal.loop-w-init
loop-w-init c = join_none c.args.self.now.words c.args.other.now.words

pub loop-w-preserved : goal.loop-w-preserved
loop-w-preserved c =
    join_more c.loop-w.self.words c.args.self.now.words c.args.other.now.words c.loop-w.w (search rules) c.loop-w-test.true
    c.loop-w.invariant

pub returns : goal.returns
unfolding has_place
returns c = λ k. join_bits c.loop-w.self.words c.args.self.now.words c.args.other.now.words k (search rules) (search rules)
    (subst (λ w. IsJoined c.loop-w.self.words c.args.self.now.words c.args.other.now.words w) (omega arith) c.loop-w.invariant)
