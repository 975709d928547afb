use Rattle.std.proofs.Common.{◌∷◌, [], ◌++◌, ap, refl, subst, sym, ◌∙◌}
use Rattle.std.specs.FinMap as map
use Rattle.std.specs.Option.{is_some}
use Rattle.std.specs.String.{string_bytes}
use Rattle.cs_names.specs.Legal.{IsLegalName}
use Rattle.cs_tree_model.specs.Maps.Texts.{by_bytes}
use Rattle.cs_start.specs.Siblings.{HaveLegalNames, Siblings}
use Rattle.cs_start.proofs.InDirectory.{get-here, whole, whole-insert}
use Rattle.cs_start.proofs.Named.{find-inserted, find-text, names-insert}
use Rattle.cs_start.proofs.siblings.Siblings.insert_named.Goals as goal

pub invariant_of-self-2 : goal.invariant_of-self-2
invariant_of-self-2 c =
    let s = c.self.inside in
    subst (λ es. HaveLegalNames (by_bytes es)) (sym c.in_ok-before.ensures.entries)
    (names-insert c.in_ok-key.key c.args.entry s.by_name.entries (subst IsLegalName (sym c.in_ok-key.ensures.ok) c.requires)
    c.self.invariant)

pub returns-clause-replaced : goal.returns-clause-replaced
returns-clause-replaced c =
    let s = c.self.inside in
    let n = string_bytes c.in_ok-key.key in
    c.is_some.ensures
    ∙ ap is_some (c.in_ok-before.ensures.old ∙ find-text s.by_name n
    ∙ sym (get-here s.directory n (by_bytes s.by_name.entries))
    ∙ ap (λ n. map.get (whole s.directory (by_bytes s.by_name.entries)) (s.directory ++ n ∷ [])) c.in_ok-key.ensures.ok
    ∙ ap (λ (s : Siblings). map.get s.entries (s.directory ++ c.args.name.now ∷ [])) c.self.view_is)

pub returns-clause-state : goal.returns-clause-state
returns-clause-state c =
    let s = c.self.inside in
    let n = string_bytes c.in_ok-key.key in
    let p = s.directory ++ n ∷ [] in
    whole-insert s.directory p n c.args.entry (by_bytes s.by_name.entries) (by_bytes c.insert.new.self.entries) refl
    (find-inserted s.by_name c.insert.new.self n c.args.entry c.in_ok-before.ensures.updates)
    ∙ ap (λ n. map.insert (whole s.directory (by_bytes s.by_name.entries)) (s.directory ++ n ∷ []) c.args.entry) c.in_ok-key.ensures.ok
    ∙ ap (λ (s : Siblings). map.insert s.entries (s.directory ++ c.args.name.now ∷ []) c.args.entry) c.self.view_is
