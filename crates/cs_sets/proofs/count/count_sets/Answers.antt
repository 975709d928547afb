use Rattle.std.proofs.Common.{arith, length, ap, ◌∙◌, ◌+◌, ◌-◌, ◌<◌, min, subst, sym, List}
use Rattle.cs_sets.specs.declared.count.Future.{Future}
use Rattle.cs_sets.specs.declared.count.TheConstants.{FUTURES}
use Rattle.cs_sets.specs.Counting.{weigh}
use Rattle.cs_sets.specs.Crowding.{AreReached}
use Rattle.cs_sets.specs.Rows.{needed_in}
use Rattle.cs_sets.proofs.Crowding.{crowded}
use Rattle.cs_sets.proofs.count.count_sets.Goals as goal

pub loop-place-preserved : goal.loop-place-preserved
loop-place-preserved c =
    let needs = needed_in c.args.needed.now in
    let n = length c.args.needed.now in
    let k = c.loop-place.place in
    record {
      weight = c.in_ok-level-2.ensures.weight ∙ ap (λ v. min v c.args.most) (ap (weigh needs (n - k) k) c.as_slice.ensures.value)
          ∙ c.loop-place.invariant.weight;
      reached = c.in_ok-level-2.ensures.reached
          (subst (λ (v : List Future). AreReached needs n k v) (sym c.as_slice.ensures.value) c.loop-place.invariant.reached);
    }

pub returns-then-len-gt-FUTURES-clause-fault : goal.returns-then-len-gt-FUTURES-clause-fault
returns-then-len-gt-FUTURES-clause-fault c =
    let needs = needed_in c.args.needed.now in
    let n = length c.args.needed.now in
    let k = c.loop-place.place in
    λ e. crowded needs n (k + 1) (omega arith) c.in_ok-level-2.level.items FUTURES
    (c.in_ok-level-2.ensures.reached
    (subst (λ (v : List Future). AreReached needs n k v) (sym c.as_slice.ensures.value) c.loop-place.invariant.reached))
    c.in_ok-level-2.ensures.rises (omega arith)
