use Rattle.std.proofs.Common.{None, Some, sym, ap, ◌∙◌, slice_get}
use Rattle.std.specs.Option.{option_copied, option_map, option_and_then}
use Rattle.cs_tree_model.specs.Nexts.{entry_name}
use Rattle.cs_frozen.proofs.Lookups.{find_is, entry_is, name_there}
use Rattle.cs_frozen.proofs.lower.LowerTreeRead.entry_after.Goals as goal

pub returns-in_err-own-clause-name : goal.returns-in_err-own-clause-name
returns-in_err-own-clause-name g c =
    ap (option_map entry_name) c.from_residual.ensures ∙ entry_is (g.T.TreeRead.tree c.self.inside.tree) c.self.inside.numbers.items
    c.self.inside.places.items c.self.invariant _ c.self.view_is c.deref.result.now c.deref.ensures.value c.args.directory
    (option_copied c.args.last) (option_copied c.args.bound) None c.in_err-own.ensures

pub returns-in_err-entry-clause-name : goal.returns-in_err-entry-clause-name
returns-in_err-entry-clause-name g c =
    ap (option_map entry_name) c.from_residual-in_err-entry.ensures ∙ c.in_err-entry.ensures.name ∙ entry_is
    (g.T.TreeRead.tree c.self.inside.tree) c.self.inside.numbers.items c.self.inside.places.items c.self.invariant _ c.self.view_is
    c.deref.result.now c.deref.ensures.value c.args.directory (option_copied c.args.last) (option_copied c.args.bound)
    (Some c.in_ok-own.own) c.in_ok-own.ensures

pub returns-in_err-number-clause-name : goal.returns-in_err-number-clause-name
returns-in_err-number-clause-name g c =
    absurd (name_there c.args.self.now c.args.directory (option_copied c.args.last) (option_copied c.args.bound)
    (entry_name c.in_ok-entry.entry)
    (c.in_ok-entry.ensures.name ∙ entry_is (g.T.TreeRead.tree c.self.inside.tree) c.self.inside.numbers.items c.self.inside.places.items
    c.self.invariant _ c.self.view_is c.deref.result.now c.deref.ensures.value c.args.directory (option_copied c.args.last)
    (option_copied c.args.bound) (Some c.in_ok-own.own) c.in_ok-own.ensures)
    (sym (find_is (g.T.TreeRead.tree c.self.inside.tree) c.self.inside.numbers.items c.self.inside.places.items c.self.invariant _
    c.self.view_is c.deref.result.now c.deref.ensures.value c.args.directory (entry_name c.in_ok-entry.entry) (Some c.in_ok-own.own)
    c.in_ok-own.ensures) ∙ ap (option_and_then (slice_get c.self.inside.places.items)) c.in_ok-entry.ensures.number ∙ ap
    (λ l. slice_get l c.in_ok-entry.entry.number) (sym c.deref-2.ensures.value) ∙ sym c.in_err-number.ensures))

pub returns-clause-name : goal.returns-clause-name
returns-clause-name g c =
    c.in_ok-entry.ensures.name ∙ entry_is (g.T.TreeRead.tree c.self.inside.tree) c.self.inside.numbers.items c.self.inside.places.items
    c.self.invariant _ c.self.view_is c.deref.result.now c.deref.ensures.value c.args.directory (option_copied c.args.last)
    (option_copied c.args.bound) (Some c.in_ok-own.own) c.in_ok-own.ensures

pub returns-clause-number : goal.returns-clause-number
returns-clause-number g c =
    sym (find_is (g.T.TreeRead.tree c.self.inside.tree) c.self.inside.numbers.items c.self.inside.places.items c.self.invariant _
    c.self.view_is c.deref.result.now c.deref.ensures.value c.args.directory (entry_name c.in_ok-entry.entry) (Some c.in_ok-own.own)
    c.in_ok-own.ensures) ∙ ap (option_and_then (slice_get c.self.inside.places.items)) c.in_ok-entry.ensures.number ∙ ap
    (λ l. slice_get l c.in_ok-entry.entry.number) (sym c.deref-2.ensures.value) ∙ sym c.in_ok-number.ensures
