use Rattle.std.proofs.Common.{arith, subst}
use Rattle.std.proofs.KnownBytes.{Appends-nil}
use Rattle.std.proofs.lemmas.List.{take_all}
use Rattle.std.specs.Io.KnownBytes.{Appends}
use Rattle.cs_every.specs.Texts.{others_text}
use Rattle.cs_every.proofs.Written.{others_more}
use Rattle.cs_every.proofs.printed.write_places.Goals as goal

pub loop-place-init : goal.loop-place-init
loop-place-init g c = Appends-nil (g.W.Write.contents c.args.out.now)

pub loop-place-preserved : goal.loop-place-preserved
loop-place-preserved g c =
    others_more (g.W.Write.contents c.args.out.now) (g.W.Write.contents c.loop-place.out) (g.W.Write.contents c.write_other.new.out)
    c.args.places.now c.loop-place.place-index c.loop-place-test.true c.loop-place.invariant c.in_ok-write_other.ensures.text

pub returns-clause-text : goal.returns-clause-text
returns-clause-text g c =
    subst (λ v. Appends (g.W.Write.contents c.args.out.now) (g.W.Write.contents c.loop-place.out) (others_text v))
    (take_all c.loop-place.place-index c.args.places.now (omega arith)) c.loop-place.invariant
