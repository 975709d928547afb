use Rattle.std.proofs.Common.{None, ap, ◌∙◌}
use Rattle.std.proofs.lemmas.List.{get_or_default}
use Rattle.cs_picks.specs.Changes.{is_same_file}
use Rattle.cs_picks.proofs.left.loses_at.Goals as goal

pub returns : goal.returns
returns c = c.is_same_file.ensures ∙ ap (is_same_file c.args.file) (get_or_default c.args.losses.now c.args.place _ None c.requires)
