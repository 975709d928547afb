use Rattle.std.proofs.Common.{ap, length}
use Rattle.std.specs.List.{filter}
use Rattle.cs_sets.specs.Every.{every}
use Rattle.cs_sets.specs.Orders.{needs_in}
use Rattle.cs_sets.specs.Places.{places_of}
use Rattle.cs_different.specs.Members.{has_seconds}
use Rattle.cs_every.specs.Texts.{pick_line, picks_text}
use Rattle.cs_every.proofs.Written.{part_more, part_whole}
use Rattle.cs_picks.proofs.under.write_members.Goals as goal

pub loop-set-preserved : goal.loop-set-preserved
loop-set-preserved g c =
    let p = has_seconds c.args.firsts.now in
    part_more (g.W.Write.contents c.args.out.now) (g.W.Write.contents c.loop-set.out) (g.W.Write.contents c.write_set.new.out)
    (picks_text (filter p c.loop-set.sets)) (pick_line (places_of c.in-Some.set)) (picks_text (filter p c.next_whole.new.sets))
    (picks_text (filter p (every (needs_in c.args.order.now) (length c.args.order.now)))) c.loop-set.invariant
    c.in_ok-write_set.ensures.text (ap picks_text c.in-Some.ensures)

pub returns-clause-text : goal.returns-clause-text
returns-clause-text g c =
    let p = has_seconds c.args.firsts.now in
    part_whole (g.W.Write.contents c.args.out.now) (g.W.Write.contents c.loop-set.out) (picks_text (filter p c.loop-set.sets))
    (picks_text (filter p (every (needs_in c.args.order.now) (length c.args.order.now)))) c.loop-set.invariant
    (ap picks_text c.in_default.ensures)
