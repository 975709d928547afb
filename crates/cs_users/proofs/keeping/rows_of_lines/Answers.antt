use Rattle.std.proofs.Common.{arith, ◌+◌, ◌≤◌, length}
use Rattle.cs_names.specs.Pieces.{pieces}
use Rattle.cs_users.proofs.Lines.{IsText-line, length-pieces, within_more, dropped_more, first_fault-more, rows_in-more, rows_or_fault-end}
use Rattle.cs_users.proofs.keeping.rows_of_lines.Goals as goal

pub overflow_add-before : goal.overflow_add-before
overflow_add-before c =
    let some : c.loop-line.before + 1 ≤ length (pieces 10 c.args.text.now) =
    within_more _ _ _ _ _ c.loop-line.invariant.left c.in-Some.ensures.steps in
    omega (arith, length-pieces 10 c.args.text.now)

pub add_line-requires : goal.add_line-requires
add_line-requires c = IsText-line c.args.text.now _ _ c.loop-line.before _ c.requires c.loop-line.invariant.left c.in-Some.ensures.steps

pub overflow_add-before-in-loop-line : goal.overflow_add-before-in-loop-line
overflow_add-before-in-loop-line c =
    let some : c.loop-line.before + 1 ≤ length (pieces 10 c.args.text.now) =
    within_more _ _ _ _ _ c.loop-line.invariant.left c.in-Some.ensures.steps in
    omega (arith, length-pieces 10 c.args.text.now)

pub loop-line-preserved : goal.loop-line-preserved
loop-line-preserved c = record {
  within = within_more (pieces 10 c.args.text.now) _ _ c.loop-line.before _ c.loop-line.invariant.left c.in-Some.ensures.steps;
  left = dropped_more (pieces 10 c.args.text.now) _ _ c.loop-line.before _ c.loop-line.invariant.left c.in-Some.ensures.steps;
  same = first_fault-more (pieces 10 c.args.text.now) _ _ c.loop-line.before _ c.loop-line.rows _ c.loop-line.invariant.left
      c.in-Some.ensures.steps c.loop-line.invariant.rows c.in_ok-rows.ensures.good c.loop-line.invariant.same;
  rows = rows_in-more (pieces 10 c.args.text.now) _ _ c.loop-line.before _ c.loop-line.rows _ c.loop-line.invariant.left
      c.in-Some.ensures.steps c.loop-line.invariant.rows c.in_ok-rows.ensures.kept;
}

pub returns-clause-kept : goal.returns-clause-kept
returns-clause-kept c =
    rows_or_fault-end (pieces 10 c.args.text.now) _ c.loop-line.before c.loop-line.rows c.loop-line.invariant.left c.in-None.ensures.steps.0
    c.loop-line.invariant.same c.loop-line.invariant.rows
