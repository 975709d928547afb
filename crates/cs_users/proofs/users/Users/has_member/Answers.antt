use Rattle.std.proofs.Common.{arith, ◌∙◌}
use Rattle.cs_users.proofs.Grouping.{increasing_kept, kept_long, marked_kept, member_kept}
use Rattle.cs_users.proofs.users.Users.has_member.Goals as goal

pub index-requires : goal.index-requires
index-requires c =
    let long = kept_long c.self.inside.rows c.self.inside.groups.items c.self.invariant c.args.self.now c.self.view_is in
    omega (arith, long, c.requires.group, c.self.inside.groups.ok)

pub contains-requires-clause-ascending : goal.contains-requires-clause-ascending
contains-requires-clause-ascending c =
    increasing_kept c.self.inside.rows c.self.inside.groups.items c.self.invariant c.args.self.now c.self.view_is c.args.group
    c.index.result.now c.requires.group c.index.ensures

pub contains-requires-clause-marked : goal.contains-requires-clause-marked
contains-requires-clause-marked c =
    marked_kept c.self.inside.rows c.self.inside.groups.items c.self.invariant c.args.self.now c.self.view_is c.args.group
    c.index.result.now c.requires.group c.index.ensures c.args.user c.requires.user

pub returns : goal.returns
returns c =
    c.contains.ensures
    ∙ member_kept c.self.inside.rows c.self.inside.groups.items c.self.invariant c.args.self.now c.self.view_is c.args.group
    c.index.result.now c.requires.group c.index.ensures c.args.user c.requires.user
