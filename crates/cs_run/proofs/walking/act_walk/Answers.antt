use Rattle.std.proofs.Common.{◌≡◌, ◌∙◌, true, Err, ap, arith, refl, sym}
use Rattle.std.proofs.lemmas.Bool.Decides.{nat_tests}
use Rattle.std.specs.Prelude.{◌==◌, length, not}
use Rattle.cs_permit.specs.Calls.{failing_rule, rules_view}
use Rattle.cs_permit.specs.declared.call.Call.TheVariants.{Walk}
use Rattle.cs_run.proofs.Ending.{denied, granted, short}
use Rattle.cs_run.specs.Effects.{call_result}
use Rattle.cs_run.specs.declared.answer.Answer.TheVariants as a
use Rattle.cs_run.proofs.walking.act_walk.Goals as goal

pub returns-in-Ok : goal.returns-in-Ok
unfolding failing_rule
returns-in-Ok g c os w =
    let t = g.T.TreeRead.tree c.args.tree.now in
    granted (rules_view t os c.args.users.now) w (Walk c.args.call.now) _ c.in-Ok.ensures.ok.0
    (ap (λ way. call_result t os (a.Walked way)) c.in-Ok.ensures.ok.1)

pub returns-in-Err-Some : goal.returns-in-Err-Some
unfolding failing_rule
returns-in-Err-Some g c os w =
    let t = g.T.TreeRead.tree c.args.tree.now in
    denied (rules_view t os c.args.users.now) w (Walk c.args.call.now) _ c.in-Err-Some.rule
    (sym c.in-Err-Some.ensures.err ∙ c.in-Err-Some.field-0-is) refl

pub returns-in-Err-None : goal.returns-in-Err-None
unfolding failing_rule
returns-in-Err-None g c os w =
    let t = g.T.TreeRead.tree c.args.tree.now in
    let some = c.in-Err-None.ensures.memory (ap Err c.in-Err-None.field-0-is) in
    let takes : not (length c.args.call.now.names == 0) ≡ true = grind (arith, nat_tests, some) in
    short (rules_view t os c.args.users.now) w (Walk c.args.call.now) _ (sym c.in-Err-None.ensures.err ∙ c.in-Err-None.field-0-is) takes
    refl
