use Rattle.std.proofs.Common.{rules, sym, ◌∙◌}
use Rattle.cs_run.proofs.Stopping.{not_gone, stopped_by_rules}
use Rattle.cs_run.proofs.walking.walk_allowed.Goals as goal

pub returns-in-Some-clause-err : goal.returns-in-Some-clause-err
returns-in-Some-clause-err g c =
    let there = not_gone c.record-file.result _ c.record-file.ensures.value (search rules) in
    sym c.in-Some.is ∙ c.stopped_first.ensures ∙ stopped_by_rules (g.T.TreeRead.tree c.args.tree.now) c.args.users.now c.args.call.now
    c.in-Ok.walk there c.in-Ok.ensures.value

pub returns-in-None-clause-ok : goal.returns-in-None-clause-ok
returns-in-None-clause-ok g c =
    let there = not_gone c.record-file.result _ c.record-file.ensures.value (search rules) in (
      sym (stopped_by_rules (g.T.TreeRead.tree c.args.tree.now) c.args.users.now c.args.call.now c.in-Ok.walk there c.in-Ok.ensures.value) ∙
          sym c.stopped_first.ensures ∙ c.in-None.is,
      c.in-Ok.ensures.value,
    )
