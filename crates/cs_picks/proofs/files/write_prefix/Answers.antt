use Rattle.std.proofs.Common.{arith, subst}
use Rattle.std.proofs.KnownBytes.{Appends-nil}
use Rattle.std.proofs.lemmas.List.{take_all}
use Rattle.std.specs.Io.KnownBytes.{Appends}
use Rattle.std.specs.List.{flat_map}
use Rattle.cs_sets.specs.Orders.{needs_in}
use Rattle.cs_picks.specs.Families.{sets_without}
use Rattle.cs_every.specs.Texts.{picks_text}
use Rattle.cs_picks.proofs.Written.{files_more, written_more}
use Rattle.cs_picks.proofs.files.write_prefix.Goals as goal

pub loop-file-init : goal.loop-file-init
loop-file-init g c = Appends-nil (g.W.Write.contents c.args.out.now)

pub loop-file-preserved : goal.loop-file-preserved
loop-file-preserved g c =
    let f = sets_without (needs_in c.args.order.now) c.args.shorter.now c.args.losses.now in
    written_more (g.W.Write.contents c.args.out.now) (g.W.Write.contents c.loop-file.out) (g.W.Write.contents c.write_without.new.out) _ _ _
    c.loop-file.invariant c.in_ok-write_without.ensures.sets (files_more f c.args.files.now c.loop-file.file-index c.loop-file-test.true)

pub returns-clause-sets : goal.returns-clause-sets
returns-clause-sets g c =
    let f = sets_without (needs_in c.args.order.now) c.args.shorter.now c.args.losses.now in
    subst (λ v. Appends (g.W.Write.contents c.args.out.now) (g.W.Write.contents c.loop-file.out) (picks_text (flat_map f v)))
    (take_all c.loop-file.file-index c.args.files.now (omega arith)) c.loop-file.invariant
