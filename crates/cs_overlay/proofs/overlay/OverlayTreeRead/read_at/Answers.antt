use Rattle.std.proofs.Common.{nat_eq, ◌≢◌, [], ◌∙◌, ap, subst, refl, take, drop}
use Rattle.std.specs.Arc.{arc_value}
use Rattle.std.specs.HashMap.{get}
use Rattle.std.specs.Option.{IsSomeAnd, option_map}
use Rattle.cs_overlay.specs.Layers.{content_at}
use Rattle.cs_overlay.proofs.Views.{bytes_all}
use Rattle.cs_overlay.proofs.overlay.OverlayTreeRead.read_at.Goals as goal

pub returns-in_err-bytes-clause-memory : goal.returns-in_err-bytes-clause-memory
returns-in_err-bytes-clause-memory g c = λ _. subst (λ o. IsSomeAnd o (λ bytes. bytes ≢ []))
    (ap (option_map (λ b. take c.args.count (drop c.args.offset b)))
    (λ i. content_at (g.L.TreeRead.tree (c.deref.ensures i)) c.args.number (c.get-entry.ensures.value i)) ∙ bytes_all
    (g.L.TreeRead.tree (arc_value c.self.inside.lower)) (get nat_eq c.self.inside.nodes) _ _ c.self.invariant _ c.self.view_is
    c.args.number c.args.offset c.args.count)
    (c.in_err-bytes.ensures.memory refl)

pub returns-clause-value : goal.returns-clause-value
returns-clause-value g c =
    c.in_ok-bytes.ensures.value ∙ ap (option_map (λ b. take c.args.count (drop c.args.offset b)))
    (λ i. content_at (g.L.TreeRead.tree (c.deref.ensures i)) c.args.number (c.get-entry.ensures.value i)) ∙ bytes_all
    (g.L.TreeRead.tree (arc_value c.self.inside.lower)) (get nat_eq c.self.inside.nodes) _ _ c.self.invariant _ c.self.view_is c.args.number
    c.args.offset c.args.count
