use Rattle.std.proofs.Common.{sym, ◌∙◌}
use Rattle.cs_sets.specs.Places.{places_of}
use Rattle.cs_different.proofs.Alike.{none_alike}
use Rattle.cs_different.proofs.finding.is_met.Goals as goal

pub returns-then-not-contains : goal.returns-then-not-contains
returns-then-not-contains c =
    sym (none_alike c.args.scene.now c.args.kept.now (places_of c.args.set.now) c.args.left.now.digest c.requires.left.digest
    c.requires.kept
    (sym (c.requires.met c.args.left.now.digest) ∙ sym c.contains.ensures ∙ c.if-not-contains.true))
