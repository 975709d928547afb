use Rattle.std.proofs.Common.{None, Some, sym, ap, ◌∙◌}
use Rattle.std.specs.FinMap as map
use Rattle.std.specs.BTreeMap.{get_by_text}
use Rattle.std.specs.Option.{option_copied, is_some}
use Rattle.std.specs.String.{string_bytes}
use Rattle.cs_tree_model.specs.Laws.Nexts.{entry_same}
use Rattle.cs_tree_model.specs.Maps.Texts.{get_seen}
use Rattle.cs_tree.proofs.children.Children.first_after.Goals as goal

pub returns-in_err-name-clause-name : goal.returns-in_err-name-clause-name
returns-in_err-name-clause-name c =
    rw c.from_residual.ensures
    (entry_same (get_by_text c.self.inside.numbers) (map.get c.args.self.now)
    (λ y. ap is_some (sym (get_seen c.self.inside.numbers y) ∙ ap (λ m. map.get m y) c.self.view_is)) (option_copied c.args.last)
    (option_copied c.args.bound) None c.in_err-name.ensures.none)

pub returns-clause-name : goal.returns-clause-name
returns-clause-name c =
    entry_same (get_by_text c.self.inside.numbers) (map.get c.args.self.now)
    (λ y. ap is_some (sym (get_seen c.self.inside.numbers y) ∙ ap (λ m. map.get m y) c.self.view_is)) (option_copied c.args.last)
    (option_copied c.args.bound) (Some (string_bytes c.in_ok-name.name.now)) c.in_ok-name.ensures.some

pub returns-clause-number : goal.returns-clause-number
returns-clause-number c =
    ap (λ m. map.get m (string_bytes c.in_ok-name.name.now)) (sym c.self.view_is) ∙ get_seen c.self.inside.numbers
    (string_bytes c.in_ok-name.name.now) ∙ c.in_ok-name.ensures.value
