use Rattle.std.proofs.Common.{◌≡◌, ◌∙◌, ap, arith, None, replicate}
use Rattle.cs_registry.proofs.states.no_states.Goals as goal

pub returns : goal.returns
returns c =
    let all : c.loop-place._place ≡ c.args.count = omega arith in
    c.loop-place.invariant ∙ ap (λ n. replicate n None) all
