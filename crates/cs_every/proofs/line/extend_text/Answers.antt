use Rattle.std.proofs.Common.{◌≤◌, ◌+◌, ◌*◌, ◌++◌, codes, decimal, length, ap, sym, subst, arith}
use Rattle.std.proofs.Math.ListN.{set}
use Rattle.cs_sets.specs.Bits.{has_place}
use Rattle.cs_sets.specs.Finding.{HasNone, IsNext}
use Rattle.cs_every.specs.Lines.{IsText, text_before}
use Rattle.cs_every.proofs.Kept.{longer_text, more_text, text_short}
use Rattle.cs_every.proofs.line.extend_text.Goals as goal

pub push_place-requires-clause-room : goal.push_place-requires-clause-room
push_place-requires-clause-room c =
    let has = has_place c.args.set.now in
    let next : IsNext has c.loop-place.at 1024 c.in-Some.place = c.in-Some.ensures in
    let from = next.from_first in let to = next.before_end in
    let long = ap length c.loop-place.invariant.kept.whole in
    let short : length (text_before has c.loop-place.at) ≤ 5 * c.loop-place.at =
    text_short has c.loop-place.at c.loop-place.invariant.low in
    omega (arith, from, to, long, short)

pub loop-place-preserved : goal.loop-place-preserved
loop-place-preserved c =
    let has = has_place c.args.set.now in
    let place = c.in-Some.place in
    let starts = c.loop-place.starts in
    let text = c.loop-place.text.items in
    let next : IsNext has c.loop-place.at 1024 place = c.in-Some.ensures in
    let to = next.before_end in
    record {
      low = omega (arith, to);
      kept = subst (λ v. IsText (set starts place c.len.result) v has (place + 1)) (sym c.push_place.ensures)
          (subst (λ v. IsText (set starts place v) (text ++ (codes "," ++ decimal place)) has (place + 1)) (sym c.len.ensures.value)
          (more_text starts text has c.loop-place.at 1024 place next (omega (arith, to)) c.loop-place.invariant.kept));
    }

pub returns : goal.returns
returns c =
    let has = has_place c.args.set.now in
    let none : HasNone has c.loop-place.at 1024 = c.in_default.ensures in
    longer_text c.loop-place.starts c.loop-place.text.items has c.loop-place.at 1024 c.loop-place.invariant.low none
    c.loop-place.invariant.kept
