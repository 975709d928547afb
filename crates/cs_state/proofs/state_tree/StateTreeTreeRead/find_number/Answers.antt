use Rattle.std.proofs.Common.{sym, ap, ◌∙◌}
use Rattle.cs_tree_model.specs.Tree.{Tree, number_in}
use Rattle.cs_state.proofs.Answering.{find_is, none_in}
use Rattle.cs_state.proofs.state_tree.StateTreeTreeRead.find_number.Goals as goal

pub returns-in_err-directory : goal.returns-in_err-directory
returns-in_err-directory c =
    c.from_residual.ensures
    ∙ sym (none_in c.self.inside.state c.self.invariant c.args.directory c.in_err-directory.ensures.none c.args.name.now)
    ∙ ap (λ (t : Tree). number_in t c.args.directory c.args.name.now) c.self.view_is

pub returns : goal.returns
returns c =
    let w = c.in_ok-directory.ensures.there in
    c.number_of_name.ensures
    ∙ sym (find_is c.self.inside.state c.self.invariant w.0 c.args.directory w.1.1 c.in_ok-directory.directory w.1.0 c.args.name.now)
    ∙ ap (λ (t : Tree). number_in t c.args.directory c.args.name.now) c.self.view_is
