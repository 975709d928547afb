use Rattle.std.proofs.Common.{sym, ap, ◌∙◌}
use Rattle.std.specs.Option.{is_some, option_copied, option_map}
use Rattle.cs_tree_model.specs.Laws.Nexts.{entry_is, entry_same, numbers_same}
use Rattle.cs_tree_model.specs.Nexts.{entry_below, entry_name, next_name}
use Rattle.cs_tree_model.specs.Tree.{Tree, number_in}
use Rattle.cs_state.specs.States.{number_shown, tree_in}
use Rattle.cs_state.proofs.Answering.{find_is, no_next_in}
use Rattle.cs_state.proofs.state_tree.StateTreeTreeRead.entry_after.Goals as goal

pub returns-in_err-directory-clause-name : goal.returns-in_err-directory-clause-name
returns-in_err-directory-clause-name c =
    let bound = option_copied c.args.bound in
    let last = option_copied c.args.last in
    ap (option_map entry_name) c.from_residual.ensures
    ∙ sym (no_next_in c.self.inside.state c.self.invariant c.args.directory c.in_err-directory.ensures.none last bound)
    ∙ ap (λ (t : Tree). entry_below bound (next_name t c.args.directory last)) c.self.view_is

pub returns-clause-name : goal.returns-clause-name
returns-clause-name c =
    let s = c.self.inside.state in
    let n = c.args.directory in
    let d = c.in_ok-directory.directory in
    let bound = option_copied c.args.bound in
    let last = option_copied c.args.last in
    let o = option_map entry_name c.entry_after_in.result in
    let w = c.in_ok-directory.ensures.there in
    let same = find_is s c.self.invariant w.0 n w.1.1 d w.1.0 in
    entry_is (tree_in s) n last bound o
    (entry_same (number_shown s d) (number_in (tree_in s) n) (λ y. ap is_some (sym (same y))) last bound o
    c.entry_after_in.ensures.name)
    ∙ ap (λ (t : Tree). entry_below bound (next_name t n last)) c.self.view_is

pub returns-clause-number : goal.returns-clause-number
returns-clause-number c =
    let s = c.self.inside.state in
    let n = c.args.directory in
    let d = c.in_ok-directory.directory in
    let w = c.in_ok-directory.ensures.there in
    let same = find_is s c.self.invariant w.0 n w.1.1 d w.1.0 in
    numbers_same (number_shown s d) (number_in c.args.self.now n)
    (λ y. sym (same y) ∙ ap (λ (t : Tree). number_in t n y) c.self.view_is) c.entry_after_in.result c.entry_after_in.ensures.number
