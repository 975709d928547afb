use Rattle.std.proofs.Common.{arith, subst, sym, ◌∙◌, []}
use Rattle.std.proofs.lemmas.Bool.{false≢true}
use Rattle.std.specs.List.{All}
use Rattle.std.proofs.lemmas.List.{get_or_read, take_all}
use Rattle.cs_plan.specs.Plans.{IsAllowedIn}
use Rattle.cs_plan.proofs.Picking.{all_more}
use Rattle.cs_plan.proofs.plan.first_refused.Goals as goal

pub loop-place-preserved : goal.loop-place-preserved
loop-place-preserved c =
    let is = get_or_read c.args.picks.now c.loop-place.place c.index-picks-place.result c.loop-place-test.true c.index-picks-place.is [] in
    all_more (IsAllowedIn c.args.order.now) c.args.picks.now c.loop-place.place [] c.loop-place-test.true c.loop-place.invariant
    (subst (IsAllowedIn c.args.order.now) (c.as_slice.ensures ∙ is) (c.is_allowed.ensures.0 c.if-not-is_allowed.false))

pub returns-then-not-is_allowed : goal.returns-then-not-is_allowed
returns-then-not-is_allowed c =
    let is = get_or_read c.args.picks.now c.loop-place.place c.index-picks-place.result c.loop-place-test.true c.index-picks-place.is [] in
    record {
      there = c.loop-place-test.true;
      before = c.loop-place.invariant;
      refused =
          λ h. false≢true
          (sym c.if-not-is_allowed.true ∙ c.is_allowed.ensures.1 (subst (IsAllowedIn c.args.order.now) (sym (c.as_slice.ensures ∙ is)) h));
    }

pub returns : goal.returns
returns c = subst (All (IsAllowedIn c.args.order.now)) (take_all c.loop-place.place c.args.picks.now (omega arith)) c.loop-place.invariant
