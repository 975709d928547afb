use Rattle.std.proofs.Common.{◌+◌, ap, arith, length, sym, ◌∙◌}
use Rattle.std.proofs.lemmas.List.{append-nil}
use Rattle.std.specs.Prelude.{Err, Ok}
use Rattle.cs_names.proofs.Cutting.{length-pieces}
use Rattle.cs_names.specs.PiecesLeft.{pieces_left}
use Rattle.cs_inputs.specs.Picks.{with_picks_first, picks_from, picks_in, picks_on}
use Rattle.cs_inputs.proofs.ReadingPicks.{line_kept, line_refused}
use Rattle.cs_inputs.proofs.picks.read_picks.Goals as goal

pub overflow_add-before : goal.overflow_add-before
overflow_add-before c =
    let most = length-pieces 10 c.args.bytes.now in
    let one_more = ap length c.in-Some.ensures.steps in
    omega (arith, most, one_more, c.loop-line.invariant.bounded)

pub overflow_add-before-in-loop-line : goal.overflow_add-before-in-loop-line
overflow_add-before-in-loop-line c =
    let most = length-pieces 10 c.args.bytes.now in
    let one_more = ap length c.in-Some.ensures.steps in
    omega (arith, most, one_more, c.loop-line.invariant.bounded)

pub loop-line-preserved : goal.loop-line-preserved
loop-line-preserved c =
    let number = c.loop-line.before + 1 in
    let line = c.in-Some.line.now in
    let later = picks_from (number + 1) (pieces_left c.next.new.self) in
    record {
      read = line_kept c.loop-line.picks.items c.push_pick.new.picks.items number (picks_on line) later c.in_default.ensures.kept
          ∙ ap (λ lines. with_picks_first c.loop-line.picks.items (picks_from number lines)) (sym c.in-Some.ensures.steps)
          ∙ c.loop-line.invariant.read;
      bounded = (let one_more = ap length c.in-Some.ensures.steps in omega (arith, one_more, c.loop-line.invariant.bounded));
    }

pub returns-clause-read : goal.returns-clause-read
unfolding picks_in
returns-clause-read c =
    sym c.loop-line.invariant.read
    ∙ ap (λ lines. with_picks_first c.loop-line.picks.items (picks_from (c.loop-line.before + 1) lines)) c.in-None.ensures.steps.0
    ∙ ap Ok (append-nil c.loop-line.picks.items)

pub returns-in-Err-clause-fault : goal.returns-in-Err-clause-fault
unfolding picks_in
returns-in-Err-clause-fault c = λ other.
    let number = c.loop-line.before + 1 in
    let line = c.in-Some.line.now in
    let later = picks_from (number + 1) (pieces_left c.next.new.self) in
    let refused = c.in-Err.ensures.fault other in
    sym c.loop-line.invariant.read
    ∙ ap (λ lines. with_picks_first c.loop-line.picks.items (picks_from number lines)) c.in-Some.ensures.steps
    ∙ line_refused c.loop-line.picks.items number (picks_on line) later refused.1
    ∙ ap Err (sym refused.0)
