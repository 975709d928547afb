use Rattle.std.proofs.Common.{◌≡◌, ℕ, List, Some, ◌∷◌, [], ◌++◌, ap, sym, subst, ◌∙◌}
use Rattle.std.proofs.lemmas.Option.{same_Some}
use Rattle.std.specs.FinMap as map
use Rattle.std.specs.Option.{is_some}
use Rattle.cs_tree_model.specs.Tree.{NameBytes, Path, path_cmp}
use Rattle.cs_start.specs.Names.{entry_path_of, path_of}
use Rattle.cs_start.specs.Siblings.{AreApart, AreElsewhere, with_siblings}
use Rattle.cs_start.specs.Unions.{union}
use Rattle.cs_start.proofs.Around.{if_ok, on_ok}
use Rattle.cs_start.proofs.Spelling.{path_of-entry}
use Rattle.cs_start.proofs.Unions.{some-first, union-insert}
use Rattle.cs_start.proofs.start_map.StartMap.insert_spelled.Goals as goal

-- the path is that of the name in the siblings' directory
is_named : (text : List ℕ) (p d : Path) (n : NameBytes) → path_of text ≡ Some p → entry_path_of text ≡ Some (d ++ n ∷ [])
    → p ≡ d ++ n ∷ []
is_named text p d n is entry = same_Some p (d ++ n ∷ []) (sym is ∙ (path_of-entry text (d ++ n ∷ []) entry).0)

pub returns-in-Some-name_in_text-clause-replaced : goal.returns-in-Some-name_in_text-clause-replaced
returns-in-Some-name_in_text-clause-replaced c =
    let m = map.from_entries {R = path_cmp} c.self.inside.by_path.entries in
    let s = c.in-Some.siblings in
    let p = c.args.path.now in
    let here =
    is_named c.text.result.now p s.directory c.in-Some-name_in_text.name.now c.text.ensures c.in-Some-name_in_text.ensures.entry in
    let apart : AreElsewhere s m = subst (λ o. AreApart o m) c.in-Some.is c.self.invariant in
    if_ok c.insert_named.result
    (λ replaced is.
    is ∙ ap (λ q. is_some (map.get s.entries q)) (sym here)
    ∙ some-first s.entries m p (ap (map.get m) here ∙ apart c.in-Some-name_in_text.name.now)
    ∙ ap is_some (ap (λ o. map.get (with_siblings o m) p) (sym c.in-Some.is) ∙ ap (λ m. map.get m p) c.self.view_is))
    c.insert_named.ensures.replaced

pub returns-in-Some-name_in_text-clause-state : goal.returns-in-Some-name_in_text-clause-state
returns-in-Some-name_in_text-clause-state c =
    let m = map.from_entries {R = path_cmp} c.self.inside.by_path.entries in
    let s = c.in-Some.siblings in
    let e = c.args.entry in
    let p = c.args.path.now in
    let here =
    is_named c.text.result.now p s.directory c.in-Some-name_in_text.name.now c.text.ensures c.in-Some-name_in_text.ensures.entry in
    on_ok c.insert_named.result
    (λ is.
    ap (λ t. union t m) (is ∙ ap (λ q. map.insert s.entries q e) (sym here))
    ∙ union-insert s.entries m p e
    ∙ ap (λ l. map.insert l p e) (ap (λ o. with_siblings o m) (sym c.in-Some.is) ∙ c.self.view_is))
    c.insert_named.ensures.state
