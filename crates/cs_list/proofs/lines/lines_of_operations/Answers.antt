use Rattle.std.proofs.Common.{◌++◌, ap, ◌∙◌, arith, replicate}
use Rattle.std.proofs.lemmas.List.{get_or_read, take_all}
use Rattle.std.proofs.lemmas.List.FromFn.{length-enumerate_from}
use Rattle.std.specs.List.{enumerate_from, flat_map}
use Rattle.cs_list.specs.Lines.{line_of}
use Rattle.cs_list.proofs.More.{more_at}
use Rattle.cs_list.proofs.lines.lines_of_operations.Goals as goal

pub loop-place-preserved : goal.loop-place-preserved
loop-place-preserved c =
    let operations = c.args.operations.now in
    let place = c.loop-place.place in
    let operation = c.index-operations-place.result in
    let is = get_or_read operations place operation c.loop-place-test.true c.index-operations-place.is operation in
    more_at (line_of c.args.version c.args.numbers.now c.args.first) operations place operation c.loop-place.lines.items
    c.push_repeated.new.lines.items c.loop-place-test.true is c.loop-place.invariant
    (c.in_ok-push_repeated.ensures ∙ (λ i. c.loop-place.lines.items ++ replicate (c.micro_count.ensures i) (c.number_at-line.ensures i)))

pub returns : goal.returns
returns c =
    let all = enumerate_from 0 c.args.operations.now in
    c.loop-place.invariant ∙ ap (flat_map (line_of c.args.version c.args.numbers.now c.args.first))
    (take_all c.loop-place.place all (omega (arith, length-enumerate_from 0 c.args.operations.now)))
