use Rattle.std.proofs.Common.{arith, ◌+◌, ◌≤◌, length, refl, sym}
use Rattle.cs_names.specs.Pieces.{pieces}
use Rattle.cs_users.proofs.Lines.{length-pieces, within_more, dropped_more, first_fault-more}
use Rattle.cs_users.proofs.reading.check_lines.Goals as goal

pub check_line-requires : goal.check_line-requires
check_line-requires c =
    let some : c.loop-line.before + 1 ≤ length (pieces 10 c.args.text.now) =
    within_more _ _ _ _ _ c.loop-line.invariant.left c.in-Some.ensures.steps in
    omega (arith, length-pieces 10 c.args.text.now)

pub overflow_add-before : goal.overflow_add-before
overflow_add-before c =
    let some : c.loop-line.before + 1 ≤ length (pieces 10 c.args.text.now) =
    within_more _ _ _ _ _ c.loop-line.invariant.left c.in-Some.ensures.steps in
    omega (arith, length-pieces 10 c.args.text.now)

pub loop-line-preserved : goal.loop-line-preserved
loop-line-preserved c = record {
  within = within_more (pieces 10 c.args.text.now) _ _ c.loop-line.before _ c.loop-line.invariant.left c.in-Some.ensures.steps;
  left = dropped_more (pieces 10 c.args.text.now) _ _ c.loop-line.before _ c.loop-line.invariant.left c.in-Some.ensures.steps;
  same = first_fault-more (pieces 10 c.args.text.now) _ _ c.loop-line.before _ _ _ c.loop-line.invariant.left c.in-Some.ensures.steps refl
      (sym c.in_ok-check_line.ensures) c.loop-line.invariant.same;
}
