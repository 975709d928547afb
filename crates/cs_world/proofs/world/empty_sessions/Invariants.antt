use Rattle.std.proofs.Common.{◌≡◌, None, replicate}
use Rattle.cs_session.specs.Sessions.{empty_session}
use Rattle.cs_world.proofs.world.empty_sessions.Given as goal

abbrev pub invariant-loop : goal.invariant-loop
invariant-loop l = l.sessions.items ≡ replicate l.counter (empty_session None)
