use Rattle.cs_permit.specs.Rules.{file_at}
use Rattle.cs_permit.proofs.Keeping.{ChangesNothing-kept, first_failing-kept}
use Rattle.cs_permit.proofs.laws.what_is_kept_needs_no_right.Goals as goal

pub returns-clause-granted : goal.returns-clause-granted
returns-clause-granted g c =
    let t = g.T.TreeRead.tree c.args.tree.now in
    first_failing-kept t c.args.users.now c.args.call.now (file_at t c.args.call.now.number) c.requires

pub returns-clause-unchanged : goal.returns-clause-unchanged
returns-clause-unchanged g c =
    let t = g.T.TreeRead.tree c.args.tree.now in
    ChangesNothing-kept t c.args.users.now c.args.call.now (file_at t c.args.call.now.number) c.requires
