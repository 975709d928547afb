use Rattle.std.proofs.Common.{◌≡◌, ℕ, ◌+◌, List, [], ◌∷◌, ◌++◌, Ok, lit<, arith, length, take, sym, ap, ◌∙◌}
use Rattle.std.proofs.lemmas.List.{length_push}
use Rattle.std.proofs.lemmas.List.FromFn.{length-enumerate_from}
use Rattle.std.proofs.lemmas.Iterator.Splits.{YieldsList-from_str_split}
use Rattle.std.proofs.lemmas.Iterator.Consumers.{YieldsList-at, YieldsList-from_enumerate, YieldsList-turn, YieldsList-end}
use Rattle.cs_trace.specs.Kept.{state_of}
use Rattle.cs_trace.specs.State.{State}
use Rattle.cs_trace.specs.States.{lines_in, state_in}
use Rattle.cs_trace.proofs.LineByLine.{ends, goes_on, stops, turn, MayWant-line}
use Rattle.cs_trace.proofs.SoundAll.{bounded}
use Rattle.cs_trace.proofs.lines.state_after_lines.Goals as goal

read_before : (lines : List (List ℕ)) (done i : ℕ) (m : State) → done ≡ i → state_in (take done lines) ≡ Ok m
    → state_in (take i lines) ≡ Ok m
read_before lines done i m same read = ap (λ k. state_in (take k lines)) (sym same) ∙ read

pub apply_line-requires : goal.apply_line-requires
apply_line-requires c = bounded (take (length c.loop-i.yielded) (lines_in c.args.text.now)) _ c.loop-i.invariant

pub returns-in-Err-clause-fault : goal.returns-in-Err-clause-fault
returns-in-Err-clause-fault c = λ other.
    let lines = lines_in c.args.text.now in
    let cut = YieldsList-from_str_split 10 c.args.text.now
    (lit< tt) c.split.ensures.text c.split.ensures.has_more c.split.ensures.pattern in
    let numbered = YieldsList-at c.into_iter-i-iterator.ensures.into_iter_gives
    (YieldsList-from_enumerate (YieldsList-at c.enumerate-i-items.ensures.source cut) c.enumerate-i-items.ensures.count) in
    let at = turn lines _ _ _ (YieldsList-turn numbered c.loop-i.yielded _ c.loop-i.yielded_by _ _
    (c.in-Some.i, c.in-Some.line) c.in-Some.is c.next.ensures.steps) in
    let before = read_before lines _ _ (state_of c.loop-i.state) at.number c.loop-i.invariant in
    stops (state_of c.loop-i.state) c.in-Some.i lines _ at.low at.is before c.in-Err.kind (c.in-Err.ensures.fault other)

pub returns-in-Err-clause-memory : goal.returns-in-Err-clause-memory
returns-in-Err-clause-memory c = λ wanted.
    let lines = lines_in c.args.text.now in
    let cut = YieldsList-from_str_split 10 c.args.text.now
    (lit< tt) c.split.ensures.text c.split.ensures.has_more c.split.ensures.pattern in
    let numbered = YieldsList-at c.into_iter-i-iterator.ensures.into_iter_gives
    (YieldsList-from_enumerate (YieldsList-at c.enumerate-i-items.ensures.source cut) c.enumerate-i-items.ensures.count) in
    let at = turn lines _ _ _ (YieldsList-turn numbered c.loop-i.yielded _ c.loop-i.yielded_by _ _
    (c.in-Some.i, c.in-Some.line) c.in-Some.is c.next.ensures.steps) in
    let before = read_before lines _ _ (state_of c.loop-i.state) at.number c.loop-i.invariant in
    MayWant-line (state_of c.loop-i.state) c.in-Some.i lines _ at.low at.is before (c.in-Err.ensures.memory wanted)

pub loop-i-preserved : goal.loop-i-preserved
loop-i-preserved c =
    let lines = lines_in c.args.text.now in
    let cut = YieldsList-from_str_split 10 c.args.text.now
    (lit< tt) c.split.ensures.text c.split.ensures.has_more c.split.ensures.pattern in
    let numbered = YieldsList-at c.into_iter-i-iterator.ensures.into_iter_gives
    (YieldsList-from_enumerate (YieldsList-at c.enumerate-i-items.ensures.source cut) c.enumerate-i-items.ensures.count) in
    let at = turn lines _ _ _ (YieldsList-turn numbered c.loop-i.yielded _ c.loop-i.yielded_by _ _
    (c.in-Some.i, c.in-Some.line) c.in-Some.is c.next.ensures.steps) in
    let before = read_before lines _ _ (state_of c.loop-i.state) at.number c.loop-i.invariant in
    let after = state_of c.apply_line.new.state in
    let next = goes_on (state_of c.loop-i.state) c.in-Some.i lines _ at.low at.is before after c.in_default.ensures in
    let number : c.in-Some.i + 1 ≡ length (c.loop-i.yielded ++ (c.in-Some.i, c.in-Some.line) ∷ []) = omega
    (arith, at.number, length_push c.loop-i.yielded (c.in-Some.i, c.in-Some.line)) in
    read_before lines _ _ after number next

pub returns-clause-done : goal.returns-clause-done
returns-clause-done c =
    let lines = lines_in c.args.text.now in
    let cut = YieldsList-from_str_split 10 c.args.text.now
    (lit< tt) c.split.ensures.text c.split.ensures.has_more c.split.ensures.pattern in
    let numbered = YieldsList-at c.into_iter-i-iterator.ensures.into_iter_gives
    (YieldsList-from_enumerate (YieldsList-at c.enumerate-i-items.ensures.source cut) c.enumerate-i-items.ensures.count) in
    let all = YieldsList-end numbered c.loop-i.yielded _ c.loop-i.yielded_by _ _ c.in-None.is c.next.ensures.steps in
    ends (state_of c.loop-i.state) (length c.loop-i.yielded) lines (omega (arith, all.1, length-enumerate_from 0 lines)) c.loop-i.invariant
