use Rattle.std.proofs.Common.{None, Some, ap, ◌∙◌, slice_get}
use Rattle.std.specs.Option.{option_and_then}
use Rattle.cs_frozen.proofs.Lookups.{parent_is}
use Rattle.cs_frozen.proofs.lower.LowerTreeRead.parent_of.Goals as goal

pub returns-in_err-own : goal.returns-in_err-own
returns-in_err-own g c =
    c.from_residual.ensures ∙ parent_is (g.T.TreeRead.tree c.self.inside.tree) c.self.inside.numbers.items c.self.inside.places.items
    c.self.invariant _ c.self.view_is c.deref.result.now c.deref.ensures.value c.args.number None c.in_err-own.ensures

pub returns-in_err-parent : goal.returns-in_err-parent
returns-in_err-parent g c =
    c.from_residual-in_err-parent.ensures ∙ ap (option_and_then (slice_get c.self.inside.places.items)) c.in_err-parent.ensures ∙ parent_is
    (g.T.TreeRead.tree c.self.inside.tree) c.self.inside.numbers.items c.self.inside.places.items c.self.invariant _ c.self.view_is
    c.deref.result.now c.deref.ensures.value c.args.number (Some c.in_ok-own.own) c.in_ok-own.ensures

pub returns : goal.returns
returns g c =
    c.translate-2.ensures ∙ ap (λ l. slice_get l c.in_ok-parent.parent) c.deref-2.ensures.value ∙ ap
    (option_and_then (slice_get c.self.inside.places.items)) c.in_ok-parent.ensures ∙ parent_is (g.T.TreeRead.tree c.self.inside.tree)
    c.self.inside.numbers.items c.self.inside.places.items c.self.invariant _ c.self.view_is c.deref.result.now c.deref.ensures.value
    c.args.number (Some c.in_ok-own.own) c.in_ok-own.ensures
