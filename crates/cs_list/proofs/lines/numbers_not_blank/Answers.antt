use Rattle.std.proofs.Common.{sym, ap, ◌∙◌, lit<, arith, length, take}
use Rattle.std.proofs.lemmas.List.{length_push, take_all}
use Rattle.std.proofs.lemmas.Iterator.Splits.{YieldsList-from_str_split}
use Rattle.std.proofs.lemmas.Iterator.Consumers.{YieldsList-at, YieldsList-from_enumerate, YieldsList-turn, YieldsList-end}
use Rattle.std.specs.List.{enumerate_from, flat_map}
use Rattle.cs_trace.specs.States.{lines_in}
use Rattle.cs_list.specs.Lines.{number_unless_blank}
use Rattle.cs_list.proofs.More.{more}
use Rattle.cs_list.proofs.lines.numbers_not_blank.Goals as goal

pub loop-place-preserved : goal.loop-place-preserved
loop-place-preserved c =
    let all = enumerate_from 0 (lines_in c.args.text.now) in
    let cut =
    YieldsList-from_str_split 10 c.args.text.now (lit< tt) c.split.ensures.text c.split.ensures.has_more c.split.ensures.pattern in
    let numbered =
    YieldsList-at c.into_iter-place-iterator.ensures.into_iter_gives
    (YieldsList-from_enumerate (YieldsList-at c.enumerate-place-items.ensures.source cut) c.enumerate-place-items.ensures.count) in
    let at = YieldsList-turn numbered c.loop-place.yielded _ c.loop-place.yielded_by _ _ (c.in-Some.place, c.in-Some.line) c.in-Some.is
    c.next.ensures.steps in
    more number_unless_blank all (length c.loop-place.yielded) (c.in-Some.place, c.in-Some.line.now) c.loop-place.numbers.items
    c.push_unless_blank.new.numbers.items at.0 at.1 c.loop-place.invariant c.in_ok-push_unless_blank.ensures
    ∙ ap (λ k. flat_map number_unless_blank (take k all)) (sym (length_push c.loop-place.yielded (c.in-Some.place, c.in-Some.line)))

pub returns : goal.returns
returns c =
    let all = enumerate_from 0 (lines_in c.args.text.now) in
    let cut =
    YieldsList-from_str_split 10 c.args.text.now (lit< tt) c.split.ensures.text c.split.ensures.has_more c.split.ensures.pattern in
    let numbered =
    YieldsList-at c.into_iter-place-iterator.ensures.into_iter_gives
    (YieldsList-from_enumerate (YieldsList-at c.enumerate-place-items.ensures.source cut) c.enumerate-place-items.ensures.count) in
    let end = YieldsList-end numbered c.loop-place.yielded _ c.loop-place.yielded_by _ _ c.in-None.is c.next.ensures.steps in
    c.loop-place.invariant ∙ ap (flat_map number_unless_blank) (take_all (length c.loop-place.yielded) all (omega (arith, end.1)))
