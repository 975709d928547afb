use Rattle.std.proofs.Common.{List, sym, ap, ◌∙◌}
use Rattle.std.proofs.lemmas.Bool.Decides.{Decides-at}
use Rattle.cs_users.specs.Members.{is_known}
use Rattle.cs_users.specs.Rows.{Row}
use Rattle.cs_users.proofs.Belonging.{is_known-decides}
use Rattle.cs_users.proofs.Grouping.{kept_named}
use Rattle.cs_users.proofs.Naming.{IsUserName-known}
use Rattle.cs_users.proofs.users.Users.knows.Goals as goal

pub returns-clause-known : goal.returns-clause-known
returns-clause-known c =
    Decides-at _ _ (c.knows.ensures ∙ ap (λ (rows : List Row). is_known rows c.args.name.now) c.self.view_is)
    (is_known-decides c.args.self.now c.args.name.now)

pub returns-clause-legal : goal.returns-clause-legal
returns-clause-legal c = λ known.
    IsUserName-known c.args.self.now c.args.name.now
    (kept_named c.self.inside.rows c.self.inside.groups.items c.self.invariant c.args.self.now c.self.view_is)
    (sym (c.knows.ensures ∙ ap (λ (rows : List Row). is_known rows c.args.name.now) c.self.view_is) ∙ known)
