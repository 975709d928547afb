use Rattle.std.proofs.Common.{refl, ap}
use Rattle.std.specs.Option.{option_map}
use Rattle.cs_run.proofs.Bounding.{lent_below}
use Rattle.cs_run.proofs.counting.version_of.Goals as goal

pub returns-in-Some-clause-least : goal.returns-in-Some-clause-least
returns-in-Some-clause-least g c =
    λ k some below. lent_below (g.T.TreeRead.tree c.args.tree.now) c.in-Some.ensures.is_tree c.args.number k c.in-Some.file.vers _ refl
    (ap (option_map (λ m. m.vers)) c.in-Some.ensures.value) below
