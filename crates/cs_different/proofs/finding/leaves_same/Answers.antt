use Rattle.cs_sets.specs.Places.{places_of}
use Rattle.cs_different.proofs.Alike.{other_digest, told_same}
use Rattle.cs_different.proofs.finding.leaves_same.Goals as goal

pub returns-then-found-left : goal.returns-then-found-left
returns-then-found-left c =
    other_digest c.args.scene.now (places_of c.args.found.now.set) (places_of c.args.set.now) c.args.found.now.digest c.args.left.now.digest
    c.requires.found.digest c.requires.left.digest c.if-found-left.true

pub returns : goal.returns
returns c =
    told_same c.args.scene.now (places_of c.args.found.now.set) (places_of c.args.set.now) c.in_ok-other.other c.args.left.now
    c.in_ok-other.ensures c.requires.left c.in_ok-same.same c.in_ok-same.ensures
