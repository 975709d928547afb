use Rattle.std.proofs.Common.{ap, length, subst}
use Rattle.std.specs.Io.KnownBytes.{Appends}
use Rattle.cs_sets.specs.Every.{every}
use Rattle.cs_sets.specs.Orders.{needs_in}
use Rattle.cs_sets.specs.Places.{places_of}
use Rattle.cs_every.specs.Texts.{pick_line, picks_text}
use Rattle.cs_every.proofs.Written.{part_more, part_whole}
use Rattle.cs_every.proofs.printed.write_every.Goals as goal

pub loop-set-preserved : goal.loop-set-preserved
loop-set-preserved g c =
    let before = g.W.Write.contents c.loop-set.out in
    let after = g.W.Write.contents c.write.new.out in
    part_more (g.W.Write.contents c.args.out.now) before after (picks_text c.loop-set.sets)
    (pick_line (places_of c.in-Some.set)) (picks_text c.next.new.self)
    (picks_text (every (needs_in c.args.order.now) (length c.args.order.now))) c.loop-set.invariant
    (subst (λ v. Appends before after (pick_line v)) c.change_to.ensures c.in_ok-write.ensures.text)
    (ap picks_text c.in-Some.ensures.steps)

pub returns-clause-text : goal.returns-clause-text
returns-clause-text g c =
    part_whole (g.W.Write.contents c.args.out.now) (g.W.Write.contents c.loop-set.out) (picks_text c.loop-set.sets)
    (picks_text (every (needs_in c.args.order.now) (length c.args.order.now))) c.loop-set.invariant
    (ap picks_text c.in_default.ensures.steps.0)
