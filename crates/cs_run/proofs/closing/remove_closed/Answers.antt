use Rattle.std.proofs.Common.{◌≡◌, Some, true, rules}
use Rattle.cs_run.proofs.Trees.{file_is_not_root, no_names_in_file, removed_has_bytes}
use Rattle.cs_run.specs.Effects.{removes_file}
use Rattle.cs_run.proofs.closing.remove_closed.Goals as goal

pub remove-requires-clause-not_root : goal.remove-requires-clause-not_root
remove-requires-clause-not_root g c =
    let t = g.T.TreeRead.tree c.args.tree.now in
    let says : removes_file t (Some c.in-Some.opened) ≡ true = search rules in
    file_is_not_root t c.removes_file.ensures.is_tree c.in-Some.opened.file (removed_has_bytes t c.in-Some.opened says)

pub remove-requires-clause-empty : goal.remove-requires-clause-empty
remove-requires-clause-empty g c =
    let t = g.T.TreeRead.tree c.args.tree.now in
    let says : removes_file t (Some c.in-Some.opened) ≡ true = search rules in
    no_names_in_file t c.removes_file.ensures.is_tree c.in-Some.opened.file (removed_has_bytes t c.in-Some.opened says)
