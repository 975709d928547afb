use Rattle.std.proofs.Common.{◌++◌, ap, sym, ◌∙◌}
use Rattle.std.specs.FinMap as map
use Rattle.cs_tree_model.specs.Tree.{path_cmp}
use Rattle.cs_start.specs.Siblings.{with_all, with_siblings}
use Rattle.cs_start.proofs.Around.{with_all-entries}
use Rattle.cs_start.proofs.by_path.put_back.Goals as goal

pub returns-in_ok-insert_all-in-Some : goal.returns-in_ok-insert_all-in-Some
returns-in_ok-insert_all-in-Some c =
    let m = map.from_entries {R = path_cmp} c.args.by_path.now.entries in
    let s = c.in-Some.siblings in
    c.in_ok-insert_all-in-Some.ensures
    ∙ ap (with_all m) (c.in_ok-push_to-in-Some.ensures ∙ ap (λ es. es ++ map.entries s.entries) c.new-list.ensures.items)
    ∙ with_all-entries m s.entries
    ∙ ap (λ o. with_siblings o m) (sym c.in-Some.is)
