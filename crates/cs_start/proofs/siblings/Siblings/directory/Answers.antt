use Rattle.std.proofs.Common.{ap, subst, ◌∙◌}
use Rattle.cs_tree_model.specs.Maps.Texts.{by_bytes}
use Rattle.cs_start.specs.Siblings.{AreIn, Siblings}
use Rattle.cs_start.proofs.InDirectory.{are-in}
use Rattle.cs_start.proofs.siblings.Siblings.directory.Goals as goal

pub returns : goal.returns
returns c = record {
  value = c.path.ensures ∙ ap (λ (s : Siblings). s.directory) c.self.view_is;
  all = subst AreIn c.self.view_is (are-in c.self.inside.directory (by_bytes c.self.inside.by_name.entries));
}
