use Rattle.std.proofs.Common.{ap, sym, subst, ◌∙◌}
use Rattle.std.specs.FinMap as map
use Rattle.std.specs.Option.{is_some}
use Rattle.cs_tree_model.specs.Tree.{path_cmp}
use Rattle.cs_start.specs.Siblings.{AreApart, AreElsewhere, with_siblings}
use Rattle.cs_start.specs.Unions.{union}
use Rattle.cs_start.proofs.Around.{either, elsewhere-insert, if_ok, on_ok}
use Rattle.cs_start.proofs.Unions.{some-first, some-second, union-insert, union-insert_second}
use Rattle.cs_start.proofs.start_map.StartMap.insert.Goals as goal

-- ---- no siblings

pub returns-in-None-clause-replaced : goal.returns-in-None-clause-replaced
returns-in-None-clause-replaced c =
    let m = map.from_entries {R = path_cmp} c.self.inside.by_path.entries in
    let p = c.args.path in
    if_ok c.insert_in_map.result
    (λ replaced is. is ∙ ap is_some (ap (λ o. map.get (with_siblings o m) p) (sym c.in-None.is) ∙ ap (λ m. map.get m p) c.self.view_is))
    c.insert_in_map.ensures.replaced

pub returns-in-None-clause-state : goal.returns-in-None-clause-state
returns-in-None-clause-state c =
    let m = map.from_entries {R = path_cmp} c.self.inside.by_path.entries in
    let k = map.from_entries {R = path_cmp} c.insert_in_map.new.by_path.entries in
    let e = c.args.entry in
    let p = c.args.path in
    on_ok c.insert_in_map.result
    (λ is.
    ap (λ o. with_siblings o k) c.in-None.is ∙ is
    ∙ ap (λ l. map.insert l p e) (ap (λ o. with_siblings o m) (sym c.in-None.is) ∙ c.self.view_is))
    c.insert_in_map.ensures.state

-- ---- one of the siblings

pub returns-then-is_in_directory-clause-replaced : goal.returns-then-is_in_directory-clause-replaced
returns-then-is_in_directory-clause-replaced c =
    let m = map.from_entries {R = path_cmp} c.self.inside.by_path.entries in
    let s = c.in-Some.siblings in
    let p = c.args.path in
    let apart : AreElsewhere s m = subst (λ o. AreApart o m) c.in-Some.is c.self.invariant in
    let here = c.is_in_directory.ensures.there c.if-is_in_directory.true in
    if_ok c.insert.result
    (λ replaced is.
    is ∙ some-first s.entries m p (ap (map.get m) here.1 ∙ apart here.0)
    ∙ ap is_some (ap (λ o. map.get (with_siblings o m) p) (sym c.in-Some.is) ∙ ap (λ m. map.get m p) c.self.view_is))
    c.insert.ensures.replaced

pub returns-then-is_in_directory-clause-state : goal.returns-then-is_in_directory-clause-state
returns-then-is_in_directory-clause-state c =
    let m = map.from_entries {R = path_cmp} c.self.inside.by_path.entries in
    let s = c.in-Some.siblings in
    let e = c.args.entry in
    let p = c.args.path in
    on_ok c.insert.result
    (λ is.
    ap (λ t. union t m) is
    ∙ union-insert s.entries m p e
    ∙ ap (λ l. map.insert l p e) (ap (λ o. with_siblings o m) (sym c.in-Some.is) ∙ c.self.view_is))
    c.insert.ensures.state

-- ---- another entry, next to siblings

pub invariant_of-self-else-is_in_directory : goal.invariant_of-self-else-is_in_directory
invariant_of-self-else-is_in_directory c =
    let m = map.from_entries {R = path_cmp} c.self.inside.by_path.entries in
    let k = map.from_entries {R = path_cmp} c.insert_in_map-else-is_in_directory.new.by_path.entries in
    let s = c.in-Some.siblings in
    let apart : AreElsewhere s m = subst (λ o. AreApart o m) c.in-Some.is c.self.invariant in
    either (AreElsewhere s k) c.insert_in_map-else-is_in_directory.result
    c.insert_in_map-else-is_in_directory.ensures.state c.insert_in_map-else-is_in_directory.ensures.err
    (λ is. elsewhere-insert s m k c.args.path c.args.entry is (c.is_in_directory.ensures.elsewhere c.if-is_in_directory.false) apart)
    (λ is. subst (λ es. AreElsewhere s (map.from_entries {R = path_cmp} es)) (sym is) apart)

pub returns-else-is_in_directory-clause-replaced : goal.returns-else-is_in_directory-clause-replaced
returns-else-is_in_directory-clause-replaced c =
    let m = map.from_entries {R = path_cmp} c.self.inside.by_path.entries in
    let s = c.in-Some.siblings in
    let p = c.args.path in
    if_ok c.insert_in_map-else-is_in_directory.result
    (λ replaced is.
    is ∙ some-second s.entries m p (c.is_in_directory.ensures.none c.if-is_in_directory.false)
    ∙ ap is_some (ap (λ o. map.get (with_siblings o m) p) (sym c.in-Some.is) ∙ ap (λ m. map.get m p) c.self.view_is))
    c.insert_in_map-else-is_in_directory.ensures.replaced

pub returns-else-is_in_directory-clause-state : goal.returns-else-is_in_directory-clause-state
returns-else-is_in_directory-clause-state c =
    let m = map.from_entries {R = path_cmp} c.self.inside.by_path.entries in
    let s = c.in-Some.siblings in
    let e = c.args.entry in
    let p = c.args.path in
    on_ok c.insert_in_map-else-is_in_directory.result
    (λ is.
    ap (union s.entries) is
    ∙ union-insert_second s.entries m p e (c.is_in_directory.ensures.none c.if-is_in_directory.false)
    ∙ ap (λ l. map.insert l p e) (ap (λ o. with_siblings o m) (sym c.in-Some.is) ∙ c.self.view_is))
    c.insert_in_map-else-is_in_directory.ensures.state
