use Rattle.std.proofs.Common.{sym, ◌∙◌}
use Rattle.std.proofs.lemmas.Bool.Decides.{Decides-at}
use Rattle.cs_users.specs.Members.{is_member}
use Rattle.cs_users.proofs.Belonging.{is_member-decides}
use Rattle.cs_users.proofs.Membership.{asked_at, is_member-no_group, is_member-no_user, place_seen}
use Rattle.cs_users.proofs.users.Users.is_member.Goals as goal

pub returns-in_default-clause-test : goal.returns-in_default-clause-test
returns-in_default-clause-test c =
    sym (is_member-no_user c.args.self.now c.args.user.now c.args.group.now
    (place_seen c.self.inside.rows c.args.self.now c.args.user.now _ _ c.self.view_is c.place_of_name.ensures c.in_default.is))

pub returns-in_default-clause-member : goal.returns-in_default-clause-member
returns-in_default-clause-member c =
    Decides-at _ _
    (sym (is_member-no_user c.args.self.now c.args.user.now c.args.group.now
    (place_seen c.self.inside.rows c.args.self.now c.args.user.now _ _ c.self.view_is c.place_of_name.ensures c.in_default.is)))
    (is_member-decides c.args.self.now c.args.user.now c.args.group.now)

pub returns-in-Some-place_of_name-clause-test : goal.returns-in-Some-place_of_name-clause-test
returns-in-Some-place_of_name-clause-test c =
    c.has_member.ensures
    ∙ asked_at is_member c.args.self.now c.args.user.now c.args.group.now c.in-Some.place c.in-Some-place_of_name.line
    (place_seen c.self.inside.rows c.args.self.now c.args.user.now _ _ c.self.view_is c.place_of_name.ensures c.in-Some.is)
    (place_seen c.self.inside.rows c.args.self.now c.args.group.now _ _ c.self.view_is c.place_of_name-2.ensures c.in-Some-place_of_name.is)

pub returns-in-Some-place_of_name-clause-member : goal.returns-in-Some-place_of_name-clause-member
returns-in-Some-place_of_name-clause-member c =
    Decides-at _ _
    (c.has_member.ensures
    ∙ asked_at is_member c.args.self.now c.args.user.now c.args.group.now c.in-Some.place c.in-Some-place_of_name.line
    (place_seen c.self.inside.rows c.args.self.now c.args.user.now _ _ c.self.view_is c.place_of_name.ensures c.in-Some.is)
    (place_seen c.self.inside.rows c.args.self.now c.args.group.now _ _ c.self.view_is c.place_of_name-2.ensures
    c.in-Some-place_of_name.is))
    (is_member-decides c.args.self.now c.args.user.now c.args.group.now)

pub returns-in-None-clause-test : goal.returns-in-None-clause-test
returns-in-None-clause-test c =
    sym (is_member-no_group c.args.self.now c.args.user.now c.args.group.now
    (place_seen c.self.inside.rows c.args.self.now c.args.group.now _ _ c.self.view_is c.place_of_name-2.ensures c.in-None.is))

pub returns-in-None-clause-member : goal.returns-in-None-clause-member
returns-in-None-clause-member c =
    Decides-at _ _
    (sym (is_member-no_group c.args.self.now c.args.user.now c.args.group.now
    (place_seen c.self.inside.rows c.args.self.now c.args.group.now _ _ c.self.view_is c.place_of_name-2.ensures c.in-None.is)))
    (is_member-decides c.args.self.now c.args.user.now c.args.group.now)
