use Rattle.std.proofs.Common.{sym, ◌∙◌}
use Rattle.std.proofs.lemmas.Bool.Decides.{Decides-at}
use Rattle.cs_users.specs.Members.{is_leader}
use Rattle.cs_users.proofs.Belonging.{is_leader-decides}
use Rattle.cs_users.proofs.Membership.{asked_at, is_leader-no_group, is_leader-no_user, place_seen}
use Rattle.cs_users.proofs.users.Users.is_leader.Goals as goal

pub returns-in_default-clause-test : goal.returns-in_default-clause-test
returns-in_default-clause-test c =
    sym (is_leader-no_user c.args.self.now c.args.user.now c.args.group.now
    (place_seen c.self.inside.rows c.args.self.now c.args.user.now _ _ c.self.view_is c.place_of_name.ensures c.in_default.is))

pub returns-in_default-clause-leader : goal.returns-in_default-clause-leader
returns-in_default-clause-leader c =
    Decides-at _ _
    (sym (is_leader-no_user c.args.self.now c.args.user.now c.args.group.now
    (place_seen c.self.inside.rows c.args.self.now c.args.user.now _ _ c.self.view_is c.place_of_name.ensures c.in_default.is)))
    (is_leader-decides c.args.self.now c.args.user.now c.args.group.now)

pub returns-in-Some-place_of_name-clause-test : goal.returns-in-Some-place_of_name-clause-test
returns-in-Some-place_of_name-clause-test c =
    c.has_leader.ensures
    ∙ asked_at is_leader c.args.self.now c.args.user.now c.args.group.now c.in-Some.place c.in-Some-place_of_name.line
    (place_seen c.self.inside.rows c.args.self.now c.args.user.now _ _ c.self.view_is c.place_of_name.ensures c.in-Some.is)
    (place_seen c.self.inside.rows c.args.self.now c.args.group.now _ _ c.self.view_is c.place_of_name-2.ensures c.in-Some-place_of_name.is)

pub returns-in-Some-place_of_name-clause-leader : goal.returns-in-Some-place_of_name-clause-leader
returns-in-Some-place_of_name-clause-leader c =
    Decides-at _ _
    (c.has_leader.ensures
    ∙ asked_at is_leader c.args.self.now c.args.user.now c.args.group.now c.in-Some.place c.in-Some-place_of_name.line
    (place_seen c.self.inside.rows c.args.self.now c.args.user.now _ _ c.self.view_is c.place_of_name.ensures c.in-Some.is)
    (place_seen c.self.inside.rows c.args.self.now c.args.group.now _ _ c.self.view_is c.place_of_name-2.ensures
    c.in-Some-place_of_name.is))
    (is_leader-decides c.args.self.now c.args.user.now c.args.group.now)

pub returns-in-None-clause-test : goal.returns-in-None-clause-test
returns-in-None-clause-test c =
    sym (is_leader-no_group c.args.self.now c.args.user.now c.args.group.now
    (place_seen c.self.inside.rows c.args.self.now c.args.group.now _ _ c.self.view_is c.place_of_name-2.ensures c.in-None.is))

pub returns-in-None-clause-leader : goal.returns-in-None-clause-leader
returns-in-None-clause-leader c =
    Decides-at _ _
    (sym (is_leader-no_group c.args.self.now c.args.user.now c.args.group.now
    (place_seen c.self.inside.rows c.args.self.now c.args.group.now _ _ c.self.view_is c.place_of_name-2.ensures c.in-None.is)))
    (is_leader-decides c.args.self.now c.args.user.now c.args.group.now)
