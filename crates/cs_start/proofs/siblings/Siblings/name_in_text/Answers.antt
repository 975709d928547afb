use Rattle.std.proofs.Common.{◌≡◌, Some, ◌∷◌, [], ◌++◌, ap, subst}
use Rattle.std.specs.Prelude.{IfSome}
use Rattle.cs_start.specs.Names.{entry_path_of}
use Rattle.cs_start.specs.Siblings.{Siblings}
use Rattle.cs_start.proofs.siblings.Siblings.name_in_text.Goals as goal

pub returns-clause-entry : goal.returns-clause-entry
returns-clause-entry c =
    subst (λ d. IfSome c.name_in_text.result (λ name. entry_path_of c.args.text.now ≡ Some (d ++ name.now ∷ [])))
    (ap (λ (s : Siblings). s.directory) c.self.view_is) c.name_in_text.ensures.entry
