use Rattle.std.proofs.Common.{◌≡◌, ◌++◌, ap, arith, length, map, subst, ◌∙◌}
use Rattle.std.proofs.KnownBytes.{Appends-nil}
use Rattle.std.specs.Io.KnownBytes.{Appends}
use Rattle.std.specs.List.{range_with_len}
use Rattle.cs_sets.specs.Orders.{needs_in}
use Rattle.cs_picks.specs.Families.{least_with}
use Rattle.cs_every.specs.Texts.{pick_line, picks_text}
use Rattle.cs_picks.proofs.Written.{lines_more, written_more}
use Rattle.cs_picks.proofs.lost.write_lost.Goals as goal

pub loop-place-init : goal.loop-place-init
loop-place-init g c = Appends-nil (g.W.Write.contents c.args.out.now)

pub loop-place-preserved : goal.loop-place-preserved
loop-place-preserved g c =
    let f = least_with (needs_in c.args.order.now) in
    let n = c.loop-place.place in
    let before = picks_text (map f (range_with_len 0 n)) in
    let e = ap (λ v. before ++ pick_line v) (c.deref.ensures.value ∙ c.in_ok-set.ensures.value) ∙ lines_more f n in
    written_more (g.W.Write.contents c.args.out.now) (g.W.Write.contents c.loop-place.out) (g.W.Write.contents c.write_pick.new.out) before
    (pick_line c.deref.result.now) _ c.loop-place.invariant c.in_ok-write_pick.ensures.text e

pub returns-clause-sets : goal.returns-clause-sets
returns-clause-sets g c =
    let e : c.loop-place.place ≡ length c.args.order.now = omega arith in
    subst (λ n. Appends (g.W.Write.contents c.args.out.now) (g.W.Write.contents c.loop-place.out)
    (picks_text (map (least_with (needs_in c.args.order.now)) (range_with_len 0 n)))) e c.loop-place.invariant
