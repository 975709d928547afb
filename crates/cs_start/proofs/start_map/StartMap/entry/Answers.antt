use Rattle.std.proofs.Common.{ap, subst, sym, ◌∙◌}
use Rattle.std.specs.FinMap as map
use Rattle.std.specs.Option.{option_or}
use Rattle.cs_tree_model.specs.Tree.{path_cmp}
use Rattle.cs_start.specs.Siblings.{AreApart, AreElsewhere, with_siblings}
use Rattle.cs_start.proofs.Unions.{get-union, or_nothing}
use Rattle.cs_start.proofs.Views.{get-keyed}
use Rattle.cs_start.proofs.start_map.StartMap.entry.Goals as goal

pub returns-in-None : goal.returns-in-None
returns-in-None c =
    let es = c.self.inside.by_path.entries in
    let p = c.args.path.now in
    c.get.ensures.value ∙ get-keyed es p
    ∙ ap (λ o. map.get (with_siblings o (map.from_entries es)) p) (sym c.in-None.is)
    ∙ ap (λ m. map.get m p) c.self.view_is

pub returns-then-is_in_directory : goal.returns-then-is_in_directory
returns-then-is_in_directory c =
    let m = map.from_entries {R = path_cmp} c.self.inside.by_path.entries in
    let s = c.in-Some.siblings in
    let p = c.args.path.now in
    let apart : AreElsewhere s m = subst (λ o. AreApart o m) c.in-Some.is c.self.invariant in
    let here = c.is_in_directory.ensures.there c.if-is_in_directory.true in
    c.entry.ensures
    ∙ sym (or_nothing (map.get s.entries p))
    ∙ ap (option_or (map.get s.entries p)) (sym (ap (map.get m) here.1 ∙ apart here.0))
    ∙ sym (get-union s.entries m p)
    ∙ ap (λ o. map.get (with_siblings o m) p) (sym c.in-Some.is)
    ∙ ap (λ m. map.get m p) c.self.view_is

pub returns-else-is_in_directory : goal.returns-else-is_in_directory
returns-else-is_in_directory c =
    let es = c.self.inside.by_path.entries in
    let m = map.from_entries {R = path_cmp} es in
    let s = c.in-Some.siblings in
    let p = c.args.path.now in
    c.get-else-is_in_directory.ensures.value ∙ get-keyed es p
    ∙ ap (λ o. option_or o (map.get m p)) (sym (c.is_in_directory.ensures.none c.if-is_in_directory.false))
    ∙ sym (get-union s.entries m p)
    ∙ ap (λ o. map.get (with_siblings o m) p) (sym c.in-Some.is)
    ∙ ap (λ m. map.get m p) c.self.view_is
