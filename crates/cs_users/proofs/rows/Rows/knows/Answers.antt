use Rattle.std.proofs.Common.{ap, ◌∙◌}
use Rattle.std.specs.Option.{is_some}
use Rattle.cs_users.proofs.Places.{is_some-place_of}
use Rattle.cs_users.proofs.rows.Rows.knows.Goals as goal

pub returns : goal.returns
returns c = c.is_some.ensures ∙ ap is_some c.place_of_name.ensures ∙ is_some-place_of c.args.self.now c.args.name.now
