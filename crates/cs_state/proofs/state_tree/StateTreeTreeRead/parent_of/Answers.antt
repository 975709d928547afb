use Rattle.std.proofs.Common.{Some, sym, ap, ◌∙◌}
use Rattle.std.specs.Option.{option_map_or}
use Rattle.cs_entries.specs.declared.entry.Entry.{Entry}
use Rattle.cs_tree_model.specs.Tree.{Tree, parent_numbered}
use Rattle.cs_state.specs.States.{number_of_directory}
use Rattle.cs_state.proofs.Answering.{entry_known, no_parent, parent_is, some_entry}
use Rattle.cs_state.proofs.state_tree.StateTreeTreeRead.parent_of.Goals as goal

pub number_of_directory-requires-clause-known : goal.number_of_directory-requires-clause-known
number_of_directory-requires-clause-known c =
    entry_known c.self.inside.state c.self.invariant c.in_ok-found.found.id c.args.number c.in_ok-found.ensures.number _
    (sym c.in-Some.ensures)

pub number_of_directory-requires-clause-some : goal.number_of_directory-requires-clause-some
number_of_directory-requires-clause-some c =
    some_entry c.self.inside.state c.self.invariant c.in_ok-found.found.id c.args.number c.in_ok-found.ensures.number _
    (sym c.in-Some.ensures)

pub returns-in_err-found : goal.returns-in_err-found
returns-in_err-found c =
    c.from_residual.ensures
    ∙ sym (no_parent c.self.inside.state c.self.invariant c.args.number c.in_err-found.ensures.none)
    ∙ ap (λ (t : Tree). parent_numbered t c.args.number) c.self.view_is

pub returns-in-None : goal.returns-in-None
returns-in-None c =
    ap (λ o. option_map_or (λ (e : Entry). number_of_directory c.self.inside.state e.directory) o (Some 0)) c.in-None.ensures
    ∙ sym (parent_is c.self.inside.state c.self.invariant c.in_ok-found.found.id c.args.number c.in_ok-found.ensures.number)
    ∙ ap (λ (t : Tree). parent_numbered t c.args.number) c.self.view_is

pub returns-in-Some : goal.returns-in-Some
returns-in-Some c =
    c.number_of_directory.ensures
    ∙ ap (λ o. option_map_or (λ (e : Entry). number_of_directory c.self.inside.state e.directory) o (Some 0)) c.in-Some.ensures
    ∙ sym (parent_is c.self.inside.state c.self.invariant c.in_ok-found.found.id c.args.number c.in_ok-found.ensures.number)
    ∙ ap (λ (t : Tree). parent_numbered t c.args.number) c.self.view_is
