use Rattle.std.proofs.Common.{List, length, ap, ◌∙◌, ◌+◌, ◌-◌, min, rules, subst, sym}
use Rattle.std.proofs.lemmas.List.Sorted.{All-permutation, answers_always, sum_by-IsPermutation}
use Rattle.std.proofs.lemmas.Result.{IfOk-weaker}
use Rattle.std.specs.List.Sorted.{IsSortedByKey}
use Rattle.cs_sets.specs.declared.count.Future.{Future}
use Rattle.cs_sets.specs.Crowding.{AreReached, IsReached, left_of}
use Rattle.cs_sets.specs.Drawing.{row_cmp}
use Rattle.cs_sets.specs.Rows.{needed_in}
use Rattle.cs_sets.specs.Counting.{weight, weigh}
use Rattle.cs_sets.proofs.count.next_level.Goals as goal

pub returns-clause-weight : goal.returns-clause-weight
returns-clause-weight c =
    let needs = needed_in c.args.needed.now in
    let n = length c.args.needed.now in
    let k = c.args.place in
    let m = n - (k + 1) in
    IfOk-weaker c.merge.result _ _
    (λ merged h. h needs m (k + 1) ∙ ap (λ v. min v c.args.most)
    (ap (weigh needs m (k + 1)) c.as_slice.ensures.value
    ∙ sum_by-IsPermutation (weight needs m (k + 1)) c.in_ok-next.next.items c.sort_by_key.new.self.items c.sort_by_key.ensures.permutation
    ∙ c.in_ok-next.ensures.weight))
    c.merge.ensures.weight

pub returns-clause-reached : goal.returns-clause-reached
returns-clause-reached c =
    let needs = needed_in c.args.needed.now in
    let n = length c.args.needed.now in
    let k = c.args.place in
    let P : Future → Type 0 = λ f. IsReached needs n (k + 1) f.left in
    IfOk-weaker c.merge.result _ _
    (λ merged h all. h needs n (k + 1) (subst (λ (v : List Future). AreReached needs n (k + 1) v) (sym c.as_slice.ensures.value)
    (All-permutation P c.in_ok-next.next.items c.sort_by_key.new.self.items c.sort_by_key.ensures.permutation
    (c.in_ok-next.ensures.reached all))))
    c.merge.ensures.reached

pub returns-clause-rises : goal.returns-clause-rises
returns-clause-rises c =
    IfOk-weaker c.merge.result _ _
    (λ merged h. h (subst (λ (v : List Future). IsSortedByKey left_of row_cmp v) (sym c.as_slice.ensures.value)
    (c.in_ok-sort_by_key.ensures.sorted left_of (answers_always _ _ _ (λ f a r q k. search rules)))))
    c.merge.ensures.rises
