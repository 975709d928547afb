use Rattle.std.proofs.Common.{ap, arith, length, refl, subst, ◌++◌, ◌∙◌, ◌≡◌}
use Rattle.std.proofs.lemmas.Grind.{put_two}
use Rattle.std.proofs.lemmas.List.{get_or_read}
use Rattle.std.specs.Fmt.{HasWritten}
use Rattle.std.specs.List.{flat_map}
use Rattle.std.specs.Prelude.{codes, decimal}
use Rattle.cs_micro.specs.Texts.{op_text}
use Rattle.cs_micro.specs.declared.micro_op.MicroOp.TheVariants.{Say}
use Rattle.cs_plan.specs.Lists.{op_line, op_lines}
use Rattle.cs_plan.specs.Plans.{places_below}
use Rattle.cs_plan.proofs.Lines.{lines_more}
use Rattle.cs_plan.proofs.listing.OpLinesDisplay.fmt.Goals as goal

pub loop-place-preserved : goal.loop-place-preserved
loop-place-preserved g c = λ plain.
    let before = c.loop-place.invariant plain in
    let ops = c.args.self.now.ops.now in
    let n = c.loop-place.place-counter in
    let is = get_or_read ops n c.op-item.result c.loop-place-test.true c.op-item.is Say in
    put_two _ _ _ _ _ _ _ before (c.in_ok-write.ensures.writes before.plain refl)
    (ap (λ o. flat_map (op_line ops) (places_below n) ++ (codes "op " ++ (decimal n ++ (codes " " ++ (op_text o ++ codes "\n"))))) is ∙
    lines_more (op_line ops) n)

pub returns-clause-writes : goal.returns-clause-writes
unfolding op_lines
returns-clause-writes g c = λ plain _.
    let ops = c.args.self.now.ops.now in
    let all : c.loop-place.place-counter ≡ length ops = omega arith in
    subst (λ n. HasWritten g.W.Write.write_str_gives c.args.f.now (flat_map (op_line ops) (places_below n)) c.loop-place.f) all
    (c.loop-place.invariant plain)
