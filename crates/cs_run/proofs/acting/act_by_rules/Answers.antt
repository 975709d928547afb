use Rattle.std.proofs.Common.{◌≡◌, None, ap, sym, ◌∙◌, rules}
use Rattle.cs_permit.specs.Calls.{failing_rule, rules_of, rules_view}
use Rattle.cs_run.proofs.Ending.{denied, granted, short}
use Rattle.cs_run.specs.Effects.{call_result}
use Rattle.cs_run.specs.Opens.{opens_without_if}
use Rattle.cs_run.specs.declared.answer.Answer.TheVariants as a
use Rattle.cs_run.proofs.acting.act_by_rules.Goals as goal

pub grant-requires-clause-granted : goal.grant-requires-clause-granted
unfolding failing_rule
grant-requires-clause-granted g c =
    let none : c.failing_rule.result ≡ None = search rules in
    let same = sym c.failing_rule.ensures ∙ none in
    c.first_rule_that_fails.ensures.granted
    (rules_of (rules_view (g.T.TreeRead.tree c.args.tree.now) c.args.opens.now.items c.args.users.now) c.args.call.now)
    (sym (c.opens_deciding.ensures c.args.users.now) ∙ same)

pub returns-in-Some : goal.returns-in-Some
returns-in-Some g c =
    let t = g.T.TreeRead.tree c.args.tree.now in
    let closed =
    c.release_if.ensures ∙ ap (λ number. opens_without_if number c.args.turn.pass c.args.opens.now.items) c.closed_open_number.ensures
    in
    denied (rules_view t c.args.opens.now.items c.args.users.now) c.args.turn c.args.call.now _ c.in-Some.rule
    (sym (c.opens_deciding.ensures c.args.users.now) ∙ sym c.failing_rule.ensures ∙ c.in-Some.is)
    (ap (λ os. call_result t os (a.Denied c.in-Some.rule)) closed)

pub returns-in-Ok : goal.returns-in-Ok
returns-in-Ok g c =
    let none : c.failing_rule.result ≡ None = search rules in
    granted (rules_view (g.T.TreeRead.tree c.args.tree.now) c.args.opens.now.items c.args.users.now) c.args.turn c.args.call.now _
    (sym (c.opens_deciding.ensures c.args.users.now) ∙ sym c.failing_rule.ensures ∙ none) c.in-Ok.ensures.ok

pub returns-in-Err : goal.returns-in-Err
returns-in-Err g c =
    let none : c.failing_rule.result ≡ None = search rules in
    short (rules_view (g.T.TreeRead.tree c.args.tree.now) c.args.opens.now.items c.args.users.now) c.args.turn c.args.call.now _
    (sym (c.opens_deciding.ensures c.args.users.now) ∙ sym c.failing_rule.ensures ∙ none) c.in-Err.ensures.memory
    (λ i. call_result (c.in-Err.ensures.err.0 i) (c.in-Err.ensures.err.1 i) a.Short)
