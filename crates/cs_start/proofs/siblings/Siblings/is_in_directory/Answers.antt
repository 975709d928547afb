use Rattle.std.proofs.Common.{◌∷◌, [], ◌++◌, ap, sym, ◌∙◌}
use Rattle.std.proofs.lemmas.Bool.{false≢true}
use Rattle.std.specs.FinMap as map
use Rattle.cs_tree_model.specs.Maps.Texts.{by_bytes}
use Rattle.cs_start.specs.Siblings.{Siblings}
use Rattle.cs_start.proofs.InDirectory.{get-elsewhere}
use Rattle.cs_start.proofs.siblings.Siblings.is_in_directory.Goals as goal

pub returns-in-None : goal.returns-in-None
returns-in-None c =
    let p = c.args.path.now in
    record {
      there = λ is. absurd (false≢true is);
      elsewhere = λ _ n is. c.in-None.ensures.elsewhere n (is ∙ ap (λ (s : Siblings). s.directory ++ n ∷ []) (sym c.self.view_is));
      none = λ _.
          ap (λ (s : Siblings). map.get s.entries p) (sym c.self.view_is)
          ∙ get-elsewhere c.self.inside.directory p (by_bytes c.self.inside.by_name.entries) c.in-None.ensures.elsewhere;
    }

pub returns-in-Some : goal.returns-in-Some
returns-in-Some c = record {
  there = λ _.
      (c.in-Some.field-0.now, c.in-Some.ensures.there ∙ ap (λ (s : Siblings). s.directory ++ c.in-Some.field-0.now ∷ []) c.self.view_is);
  elsewhere = λ is. absurd (false≢true (sym is));
  none = λ is. absurd (false≢true (sym is));
}
