use Rattle.std.proofs.Common.{◌+◌, sym, subst}
use Rattle.cs_users.specs.Kept.{AreGroups}
use Rattle.cs_users.proofs.Grouping.{groups_more}
use Rattle.cs_users.proofs.groups.groups_of.Goals as goal

pub loop-place-preserved : goal.loop-place-preserved
loop-place-preserved c = subst (AreGroups c.args.rows.now (c.loop-place.place + 1)) (sym c.in_ok-push.ensures.items)
    (groups_more c.args.rows.now c.loop-place.place c.loop-place.groups.items c.in_ok-group.group c.loop-place.invariant
    c.in_ok-group.ensures)
