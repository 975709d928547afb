use Rattle.std.proofs.Common.{◌≡◌, false, ⊎_elim, sym, ap, ◌∙◌, subst, arith, length}
use Rattle.std.proofs.lemmas.List.{get_or_default}
use Rattle.cs_apm.specs.Slots.{step_at}
use Rattle.cs_apm.specs.declared.slot.Step.TheVariants.{Other}
use Rattle.cs_state.specs.Shares.{mark_at, Leaves, Touches}
use Rattle.cs_state.proofs.Joining.{rejoined}
use Rattle.cs_state.proofs.marks.marks_of.Goals as goal
use borrow.Author.Count.{below_more}

pub loop-step-preserved : goal.loop-step-preserved
loop-step-preserved c =
    let i = c.loop-step.step-index in
    let new = c.mark_touched.new.marks in
    let was = c.deref_mut.ensures.value in
    let long : length new ≡ length c.loop-step.marks.items = c.mark_touched.ensures.long ∙ ap length was in
    let all = rejoined false c.loop-step.marks.len new c.loop-step.marks.items c.loop-step.marks.ok.0 long in
    record {
      long = ap length all ∙ long ∙ c.loop-step.invariant.long;
      left = λ id gone.
          (let w = c.mark_touched.ensures.left id (ap (λ ms. mark_at ms id) (sym all) ∙ gone) in
          below_more (λ k. Leaves id (step_at c.args.steps.now k)) i
          (c.loop-step.invariant.left id (ap (λ ms. mark_at ms id) (sym was) ∙ w.0))
          (subst (Leaves id) (get_or_default c.args.steps.now i _ Other c.loop-step-test.true) w.1));
      touched = λ id here. ⊎_elim
          (λ old.
          let w = c.loop-step.invariant.touched id (ap (λ ms. mark_at ms id) (sym was) ∙ old) in
          (w.0, (let low = w.1 in omega (arith, low)), w.2))
          (λ now. (i, omega arith, subst (Touches id) (get_or_default c.args.steps.now i _ Other c.loop-step-test.true) now))
          (c.mark_touched.ensures.touched id (ap (λ ms. mark_at ms id) (sym all) ∙ here));
    }
