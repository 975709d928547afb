use Rattle.std.proofs.Common.{[], arith, map, subst}
use Rattle.std.proofs.KnownBytes.{Appends-nil}
use Rattle.std.proofs.lemmas.List.{take_all}
use Rattle.std.specs.Io.KnownBytes.{Appends}
use Rattle.cs_sets.specs.declared.row.Row.{Row}
use Rattle.cs_sets.specs.Places.{places_of}
use Rattle.cs_every.specs.Texts.{pick_line, picks_text}
use Rattle.cs_every.proofs.Written.{rows_more}
use Rattle.cs_every.proofs.printed.write_rows.Goals as goal

pub loop-set-init : goal.loop-set-init
loop-set-init g c = Appends-nil (g.W.Write.contents c.args.out.now)

pub loop-set-preserved : goal.loop-set-preserved
loop-set-preserved g c =
    let d : Row = record { words = [] } in
    let before = g.W.Write.contents c.loop-set.out in
    let after = g.W.Write.contents c.write.new.out in
    rows_more (g.W.Write.contents c.args.out.now) before after c.args.sets.now c.loop-set.set-index d c.loop-set-test.true
    c.loop-set.invariant (subst (λ v. Appends before after (pick_line v)) c.change_to.ensures c.in_ok-write.ensures.text)

pub returns-clause-text : goal.returns-clause-text
returns-clause-text g c =
    subst (λ v. Appends (g.W.Write.contents c.args.out.now) (g.W.Write.contents c.loop-set.out) (picks_text (map places_of v)))
    (take_all c.loop-set.set-index c.args.sets.now (omega arith)) c.loop-set.invariant
