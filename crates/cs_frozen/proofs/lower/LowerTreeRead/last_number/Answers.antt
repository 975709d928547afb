use Rattle.std.proofs.Common.{◌≡◌, arith, length, ◌∙◌}
use Rattle.cs_frozen.proofs.Lookups.{next_is, not_empty}
use Rattle.cs_frozen.proofs.lower.LowerTreeRead.last_number.Goals as goal

pub overflow_sub-result : goal.overflow_sub-result
overflow_sub-result g c =
    let count : c.len.result ≡ length c.self.inside.numbers.items = c.len.ensures ∙ c.self.inside.numbers.ok.0 in
    omega (
      arith,
      not_empty (g.T.TreeRead.tree c.self.inside.tree) c.self.inside.numbers.items c.self.inside.places.items c.self.invariant _
          c.self.view_is,
      count,
    )

pub returns : goal.returns
returns g c =
    let count : c.len.result ≡ length c.self.inside.numbers.items = c.len.ensures ∙ c.self.inside.numbers.ok.0 in
    let next =
    next_is (g.T.TreeRead.tree c.self.inside.tree) c.self.inside.numbers.items c.self.inside.places.items c.self.invariant _
    c.self.view_is in
    omega (
      arith,
      not_empty (g.T.TreeRead.tree c.self.inside.tree) c.self.inside.numbers.items c.self.inside.places.items c.self.invariant _
          c.self.view_is,
      count,
      next,
    )
