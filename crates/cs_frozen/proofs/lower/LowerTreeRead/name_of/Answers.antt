use Rattle.std.proofs.Common.{None, Some, ap, ◌∙◌}
use Rattle.std.specs.Option.{option_copied}
use Rattle.cs_frozen.proofs.Lookups.{name_is}
use Rattle.cs_frozen.proofs.lower.LowerTreeRead.name_of.Goals as goal

pub returns-in_err-own : goal.returns-in_err-own
returns-in_err-own g c =
    ap option_copied c.from_residual.ensures ∙ name_is (g.T.TreeRead.tree c.self.inside.tree) c.self.inside.numbers.items
    c.self.inside.places.items c.self.invariant _ c.self.view_is c.deref.result.now c.deref.ensures.value c.args.number None
    c.in_err-own.ensures

pub returns : goal.returns
returns g c =
    c.name_of.ensures ∙ name_is (g.T.TreeRead.tree c.self.inside.tree) c.self.inside.numbers.items c.self.inside.places.items
    c.self.invariant _ c.self.view_is c.deref.result.now c.deref.ensures.value c.args.number (Some c.in_ok-own.own) c.in_ok-own.ensures
