use Rattle.std.proofs.Common.{◌∷◌, [], ◌++◌, ap, sym, ◌∙◌}
use Rattle.std.specs.FinMap as map
use Rattle.cs_tree_model.specs.Maps.Texts.{by_bytes}
use Rattle.cs_start.specs.Siblings.{Siblings, in_directory}
use Rattle.cs_start.proofs.Named.{entries-whole}
use Rattle.cs_start.proofs.siblings.Siblings.first.Goals as goal

pub returns-in_ok-child-in-Some-clause-some : goal.returns-in_ok-child-in-Some-clause-some
returns-in_ok-child-in-Some-clause-some c =
    let s = c.self.inside in
    let entry = c.in-Some.field-0-1.now in
    let rest = in_directory s.directory (by_bytes c.next.new.self) in (
      entry,
      (
        rest,
        ap (λ (s : Siblings). map.entries s.entries) (sym c.self.view_is)
            ∙ entries-whole s.directory s.by_name.entries c.iter.ensures.ordered
            ∙ ap (λ es. in_directory s.directory (by_bytes es)) (sym c.iter.ensures.rest ∙ c.in-Some.ensures.steps)
            ∙ ap (λ p. (p, entry) ∷ rest)
            (ap (λ n. s.directory ++ n ∷ []) (sym c.deref.ensures) ∙ sym c.in_ok-child-in-Some.ensures),
      ),
    )
