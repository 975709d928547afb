use Rattle.std.proofs.Common.{nat_eq, sym, ap, ◌∙◌}
use Rattle.std.specs.HashMap.{get}
use Rattle.std.specs.Option.{option_and_then}
use Rattle.cs_tree_model.specs.Tree.{name_numbered}
use Rattle.cs_tree.proofs.Lookups.{name_is, name_root}
use Rattle.cs_tree.proofs.plain.PlainTreeTreeRead.name_of.Goals as goal

pub returns-then-number-eq0 : goal.returns-then-number-eq0
returns-then-number-eq0 c =
    name_root (get nat_eq c.self.inside.nodes) _ c.self.invariant _ c.self.view_is ∙ ap (name_numbered c.args.self.now)
    (sym c.if-number-eq0.true)

pub returns-in-Some : goal.returns-in-Some
returns-in-Some c =
    c.as_ref.ensures.value ∙ ap (option_and_then (λ d. d.name)) c.in-Some.ensures.value ∙ name_is (get nat_eq c.self.inside.nodes) _
    c.self.invariant _ c.self.view_is c.args.number c.if-number-eq0.false

pub returns-in-None : goal.returns-in-None
returns-in-None c =
    ap (option_and_then (λ d. d.name)) c.in-None.ensures.value ∙ name_is (get nat_eq c.self.inside.nodes) _ c.self.invariant _
    c.self.view_is c.args.number c.if-number-eq0.false
