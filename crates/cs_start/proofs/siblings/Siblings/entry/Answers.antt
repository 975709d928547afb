use Rattle.std.proofs.Common.{ap, sym, ◌∙◌}
use Rattle.std.specs.FinMap as map
use Rattle.cs_tree_model.specs.Maps.Texts.{by_bytes}
use Rattle.cs_start.specs.Siblings.{Siblings}
use Rattle.cs_start.proofs.InDirectory.{get-at, get-elsewhere}
use Rattle.cs_start.proofs.Named.{find-text}
use Rattle.cs_start.proofs.siblings.Siblings.entry.Goals as goal

pub returns-in-None : goal.returns-in-None
returns-in-None c =
    let s = c.self.inside in
    let p = c.args.path.now in
    sym (get-elsewhere s.directory p (by_bytes s.by_name.entries) c.in-None.ensures.elsewhere)
    ∙ ap (λ (s : Siblings). map.get s.entries p) c.self.view_is

pub returns-in-Some : goal.returns-in-Some
returns-in-Some c =
    let s = c.self.inside in
    let p = c.args.path.now in
    let n = c.in-Some.name.now in
    c.get.ensures.value ∙ find-text s.by_name n
    ∙ sym (get-at s.directory p n (by_bytes s.by_name.entries) c.in-Some.ensures.there)
    ∙ ap (λ (s : Siblings). map.get s.entries p) c.self.view_is
