use Rattle.std.proofs.Common.{sym, ap, ◌∙◌}
use Rattle.std.specs.Option.{option_copied, option_map}
use Rattle.cs_entries.specs.declared.entry.Entry.{Entry}
use Rattle.cs_tree_model.specs.Tree.{Tree, name_numbered}
use Rattle.cs_state.proofs.Answering.{name_is, no_name}
use Rattle.cs_state.proofs.state_tree.StateTreeTreeRead.name_of.Goals as goal

pub returns-in_err-found : goal.returns-in_err-found
returns-in_err-found c =
    ap option_copied c.from_residual.ensures
    ∙ sym (no_name c.self.inside.state c.self.invariant c.args.number c.in_err-found.ensures.none)
    ∙ ap (λ (t : Tree). name_numbered t c.args.number) c.self.view_is

pub returns-in_err-entry : goal.returns-in_err-entry
returns-in_err-entry c =
    ap option_copied c.from_residual-in_err-entry.ensures
    ∙ ap (option_map (λ (e : Entry). e.name)) c.in_err-entry.ensures
    ∙ sym (name_is c.self.inside.state c.self.invariant c.in_ok-found.found.id c.args.number c.in_ok-found.ensures.number)
    ∙ ap (λ (t : Tree). name_numbered t c.args.number) c.self.view_is

pub returns : goal.returns
returns c =
    ap (option_map (λ (e : Entry). e.name)) c.in_ok-entry.ensures
    ∙ sym (name_is c.self.inside.state c.self.invariant c.in_ok-found.found.id c.args.number c.in_ok-found.ensures.number)
    ∙ ap (λ (t : Tree). name_numbered t c.args.number) c.self.view_is
