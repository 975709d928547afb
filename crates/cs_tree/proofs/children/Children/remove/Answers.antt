use Rattle.std.proofs.Common.{ap, ◌∙◌}
use Rattle.std.specs.FinMap as map
use Rattle.cs_tree_model.specs.Maps.Texts.{seen_remove}
use Rattle.cs_tree.proofs.children.Children.remove.Goals as goal

pub returns : goal.returns
returns c =
    seen_remove c.self.inside.numbers c.remove.new.self c.args.name.now c.remove.ensures.updates ∙ ap (λ m. map.remove m c.args.name.now)
    c.self.view_is
