use Rattle.std.proofs.Common.{◌≡◌, ◌∙◌, not, length, ap, arith, true}
use Rattle.std.specs.Prelude.{count_by, replicate}
use Rattle.cs_plan.specs.Scenes.{Scene}
use Rattle.cs_publish.proofs.Counting.{all_there}
use Rattle.cs_publish.proofs.publishing.publish_made.Goals as goal

pub returns : goal.returns
returns g c =
    let v = c.missing.invariant in
    let none : count_by not c.missing.states.published ≡ 0 = omega (arith, c.missing-in-missing.ensures.count, c.missing-test.false) in
    let each = all_there c.missing.states.published none ∙ ap (λ n. replicate n true) (v.2 ∙ ap (λ (s : Scene). length s.plan) v.0) in
    λ i. record { scene = v.0 i; users = v.1 i; published = each i; runs = v.3 i }
