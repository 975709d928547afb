use Rattle.std.proofs.Common.{◌≡◌, ◌∙◌, ap, arith, None, replicate}
use Rattle.cs_names.specs.declared.limits.TheConstants.{CONNECTIONS}
use Rattle.cs_session.specs.Sessions.{empty_session}
use Rattle.cs_world.proofs.world.empty_sessions.Goals as goal

pub returns : goal.returns
returns c =
    let all : c.loop.counter ≡ CONNECTIONS = omega arith in
    c.loop.invariant ∙ ap (λ n. replicate n (empty_session None)) all
