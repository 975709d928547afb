use Rattle.std.proofs.Common.{◌≢◌, [], IsSomeAnd, None, Some, refl, ◌∙◌, subst}
use Rattle.cs_frozen.proofs.Lookups.{bytes_is}
use Rattle.cs_frozen.proofs.lower.LowerTreeRead.read_at.Goals as goal

pub returns-in_default-clause-value : goal.returns-in_default-clause-value
returns-in_default-clause-value g c =
    bytes_is (g.T.TreeRead.tree c.self.inside.tree) c.self.inside.numbers.items c.self.inside.places.items c.self.invariant _ c.self.view_is
    c.deref.result.now c.deref.ensures.value c.args.number c.args.offset c.args.count None c.in_default.ensures

pub returns-in_err-bytes-clause-memory : goal.returns-in_err-bytes-clause-memory
returns-in_err-bytes-clause-memory g c =
    λ _. subst (λ o. IsSomeAnd o (λ bytes. bytes ≢ []))
    (bytes_is (g.T.TreeRead.tree c.self.inside.tree) c.self.inside.numbers.items c.self.inside.places.items c.self.invariant _
    c.self.view_is c.deref.result.now c.deref.ensures.value c.args.number c.args.offset c.args.count (Some c.in-Some.own) c.in-Some.ensures)
    (c.in_err-bytes.ensures.memory refl)

pub returns-clause-value : goal.returns-clause-value
returns-clause-value g c =
    c.in_ok-bytes.ensures.value ∙ bytes_is (g.T.TreeRead.tree c.self.inside.tree) c.self.inside.numbers.items c.self.inside.places.items
    c.self.invariant _ c.self.view_is c.deref.result.now c.deref.ensures.value c.args.number c.args.offset c.args.count (Some c.in-Some.own)
    c.in-Some.ensures
