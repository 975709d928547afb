use Rattle.std.proofs.Common.{◌∙◌}
use Rattle.cs_users.proofs.Ascending.{is_ok-searched}
use Rattle.cs_users.proofs.groups.Group.contains.Goals as goal

pub returns-in-None : goal.returns-in-None
returns-in-None c =
    c.is_ok.ensures.value ∙ is_ok-searched c.args.self.now.members.items c.args.user c.binary_search.result c.requires.ascending
    (rw (← c.deref.ensures.value) c.binary_search.ensures.position)
