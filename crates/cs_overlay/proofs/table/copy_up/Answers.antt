use Rattle.std.proofs.Common.{ap, sym, ◌∙◌, subst, IfSome, IsSome, nat_eq}
use Rattle.std.proofs.lemmas.Bool.{false≢true}
use Rattle.std.specs.HashMap.{get}
use Rattle.std.specs.Map.{lookup}
use Rattle.std.specs.Option.{is_some}
use Rattle.cs_overlay.specs.Layers.{IsCopy, layer_at}
use Rattle.cs_overlay.proofs.Copies.{same_alike, same_copied}
use Rattle.cs_overlay.proofs.Owning.{absent}
use Rattle.cs_overlay.proofs.table.copy_up.Goals as goal

pub unreachable-requires : goal.unreachable-requires
unreachable-requires g c =
    let t = g.L.TreeRead.tree c.args.lower.now in
    let none = absent (get nat_eq c.args.nodes.now c.args.number) (sym c.contains_key.ensures ∙ c.if-contains_key.false) in
    let there = subst (λ o. IsSome (layer_at t c.args.number o)) none c.requires in
    false≢true (ap is_some (sym c.in_default.is) ∙ c.in_ok-node.ensures.there there)

pub returns-in_err-insert-clause-same : goal.returns-in_err-insert-clause-same
returns-in_err-insert-clause-same g c = same_alike _ _ _ (λ q. ap (λ es. lookup (nat_eq q) es) c.in_err-insert.ensures.err)

pub returns-clause-same : goal.returns-clause-same
returns-clause-same g c =
    let t = g.L.TreeRead.tree c.args.lower.now in
    same_copied t (get nat_eq c.args.nodes.now) (get nat_eq c.insert.new.self) c.args.number
    (absent (get nat_eq c.args.nodes.now c.args.number) (sym c.contains_key.ensures ∙ c.if-contains_key.false)) c.in-Some.node
    (subst (λ o. IfSome o (IsCopy t c.args.number)) c.in-Some.is c.in_ok-node.ensures.copy) c.in_ok-insert.ensures.updates.0
