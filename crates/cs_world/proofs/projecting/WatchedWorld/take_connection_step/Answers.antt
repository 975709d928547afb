use Rattle.std.proofs.Common.{◌≡◌, ◌∙◌, ◌<◌, true, None, rules, refl, sym, arith}
use Rattle.std.specs.Prelude.{nat_lt, slice_index_or}
use Rattle.std.proofs.lemmas.Bool.Decides.{nat_tests}
use Rattle.std.proofs.lemmas.List.{get_or_default}
use Rattle.cs_names.specs.declared.limits.TheConstants.{CONNECTIONS}
use Rattle.cs_session.specs.Sessions.{empty_session}
use Rattle.cs_world.specs.Noting.{world_in}
use Rattle.cs_world.specs.ConnectionSteps.{session_step}
use Rattle.cs_world.proofs.Noted.{notes}
use Rattle.cs_world.proofs.projecting.WatchedWorld.take_connection_step.Goals as goal

pub returns-clause-notes : goal.returns-clause-notes
returns-clause-notes c =
    let below : c.args.conn < CONNECTIONS = search rules in
    let inside : nat_lt c.args.conn CONNECTIONS ≡ true = grind (arith, nat_tests) in
    let its : slice_index_or c.args.self.now.sessions.items c.args.conn (empty_session None) ≡ c.in-Some.session.now =
    get_or_default c.args.self.now.sessions.items c.args.conn (empty_session None) c.in-Some.session.now (search rules) ∙ sym
    c.in-Some.ensures.value in
    let n = notes (world_in c.args.self.now) c.args.self.now.watched refl c.args.conn c.args.now (session_step c.args.step) inside
    c.take_session_step.result c.take_session_step.new.session c.take_session_step.new.runs c.in-Some.session.now its
    c.take_session_step.ensures in record { mark = n.mark; steps = n.steps; key = n.key; noted = n.noted }
