use Rattle.std.proofs.Common.{◌+◌, ap, subst, sym}
use Rattle.cs_run.proofs.Bounding.{room_left}
use Rattle.cs_run.proofs.Ascending.{stays_below}
use Rattle.cs_run.specs.Laws.{AllVersBelow}
use Rattle.cs_run.specs.Opens.{AreBelow}
use Rattle.cs_run.specs.Outcomes.{outcome}
use Rattle.cs_run.specs.declared.turn.Turn.{Turn}
use Rattle.cs_permit.specs.Calls.{rules_view}
use Rattle.cs_run.proofs.counted.CountedRun.step.Goals as goal

pub act-requires-clause-vers : goal.act-requires-clause-vers
act-requires-clause-vers g c =
    c.versions_can_grow.ensures (c.args.self.now.count + 1) (g.T.TreeRead.tree c.args.self.now.tree) c.args.self.now.bounded
    (room_left c.args.self.now.count _ c.requires.room)

pub invariant_of-self : goal.invariant_of-self
invariant_of-self g c =
    let raised = c.calls_raise_by_one.ensures _ _ _ _ in
    let s = rules_view (g.T.TreeRead.tree c.args.self.now.tree) c.args.self.now.opens.items c.args.self.now.users in
    let turn : Turn = record { moment = c.args.moment; place = c.args.self.now.count; pass = c.args.pass } in
    record {
      bounded =
          subst (AllVersBelow (c.args.self.now.count + 1 + 1)) (sym (ap (λ l. l.tree) c.act.ensures.step.leaves_is))
          (raised.versions (c.args.self.now.count + 1) c.args.self.now.bounded);
      below = subst (AreBelow (c.args.self.now.count + 1)) (sym (ap (λ l. l.opens) c.act.ensures.step.leaves_is))
          (stays_below s turn c.args.call.now (outcome s turn c.args.call.now c.act.ensures.step.mark) c.args.self.now.below);
    }
