use Rattle.std.proofs.Common.{Some, IsSome, sym, ap, ◌∙◌, subst}
use Rattle.std.specs.FinMap.{get, get-entries, entries}
use Rattle.std.specs.Option.{option_copied, option_map, is_some}
use Rattle.cs_tree_model.specs.Laws.Nexts.{entry_holds}
use Rattle.cs_tree_model.specs.Nexts.{entry_name, IsEntryBelow}
use Rattle.cs_tree_model.specs.Tree.{number_in}
use Rattle.cs_overlay.proofs.Merging.{rest_low, rest_numbers, low_first, low_number, own_first, passed, left_falls}
use Rattle.cs_overlay.proofs.listing.next_of_both.Goals as goal

pub returns-in_default-clause-name : goal.returns-in_default-clause-name
returns-in_default-clause-name g c =
    c.loop-name.invariant (option_map entry_name c.entry_after.result)
    (rest_low (get c.args.answers.now) (number_in (g.L.TreeRead.tree c.args.lower.now) c.args.directory) (option_copied c.loop-name.from)
    (option_copied c.args.bound) c.in_default.ensures.none (option_map entry_name c.entry_after.result)
    (subst (IsEntryBelow (λ y. IsSome (number_in (g.L.TreeRead.tree c.args.lower.now) c.args.directory y)) (option_copied c.loop-name.from)
    (option_copied c.args.bound)) (sym c.entry_after.ensures.name)
    (entry_holds (g.L.TreeRead.tree c.args.lower.now) c.args.directory (option_copied c.loop-name.from) (option_copied c.args.bound))))

pub returns-in_default-clause-number : goal.returns-in_default-clause-number
returns-in_default-clause-number g c =
    rest_numbers (get c.args.answers.now) (number_in (g.L.TreeRead.tree c.args.lower.now) c.args.directory) (option_copied c.loop-name.from)
    (option_copied c.args.bound) c.in_default.ensures.none c.entry_after.result
    (subst (IsEntryBelow (λ y. IsSome (number_in (g.L.TreeRead.tree c.args.lower.now) c.args.directory y)) (option_copied c.loop-name.from)
    (option_copied c.args.bound)) (sym c.entry_after.ensures.name)
    (entry_holds (g.L.TreeRead.tree c.args.lower.now) c.args.directory (option_copied c.loop-name.from) (option_copied c.args.bound)))
    c.entry_after.ensures.number

pub returns-in-Some-entry_after-clause-name : goal.returns-in-Some-entry_after-clause-name
returns-in-Some-entry_after-clause-name g c =
    c.loop-name.invariant (Some (entry_name c.in-Some-entry_after.entry))
    (low_first (get c.args.answers.now) (number_in (g.L.TreeRead.tree c.args.lower.now) c.args.directory) (option_copied c.loop-name.from)
    (option_copied c.args.bound) c.in-Some.name.now c.in-Some.ensures.some (entry_name c.in-Some-entry_after.entry)
    (subst (IsEntryBelow (λ y. IsSome (number_in (g.L.TreeRead.tree c.args.lower.now) c.args.directory y)) (option_copied c.loop-name.from)
    (Some c.in-Some.name.now)) (sym c.in-Some-entry_after.ensures.name)
    (entry_holds (g.L.TreeRead.tree c.args.lower.now) c.args.directory (option_copied c.loop-name.from) (Some c.in-Some.name.now))))

pub returns-in-Some-entry_after-clause-number : goal.returns-in-Some-entry_after-clause-number
returns-in-Some-entry_after-clause-number g c =
    low_number (get c.args.answers.now) (number_in (g.L.TreeRead.tree c.args.lower.now) c.args.directory) (option_copied c.loop-name.from)
    (option_copied c.args.bound) c.in-Some.name.now c.in-Some.ensures.some (entry_name c.in-Some-entry_after.entry)
    c.in-Some-entry_after.entry.number
    (subst (IsEntryBelow (λ y. IsSome (number_in (g.L.TreeRead.tree c.args.lower.now) c.args.directory y)) (option_copied c.loop-name.from)
    (Some c.in-Some.name.now)) (sym c.in-Some-entry_after.ensures.name)
    (entry_holds (g.L.TreeRead.tree c.args.lower.now) c.args.directory (option_copied c.loop-name.from) (Some c.in-Some.name.now)))
    c.in-Some-entry_after.ensures.number

pub returns-in-Some-number-clause-name : goal.returns-in-Some-number-clause-name
returns-in-Some-number-clause-name g c =
    c.loop-name.invariant (Some c.in-Some.name.now)
    (own_first (get c.args.answers.now) (number_in (g.L.TreeRead.tree c.args.lower.now) c.args.directory) (option_copied c.loop-name.from)
    (option_copied c.args.bound) c.in-Some.name.now c.in-Some.ensures.some
    (subst (IsEntryBelow (λ y. IsSome (number_in (g.L.TreeRead.tree c.args.lower.now) c.args.directory y)) (option_copied c.loop-name.from)
    (Some c.in-Some.name.now)) (sym c.in_default-entry_after.ensures.name)
    (entry_holds (g.L.TreeRead.tree c.args.lower.now) c.args.directory (option_copied c.loop-name.from) (Some c.in-Some.name.now)))
    c.in-Some-number.number (c.in-Some.ensures.value ∙ ap Some c.in-Some-number.is))

pub loop-name-smaller : goal.loop-name-smaller
loop-name-smaller g c =
    left_falls (option_copied c.loop-name.from) c.in-Some.name.now c.in-Some.ensures.some.after (entries c.args.answers.now)
    (sym (ap is_some (get-entries c.args.answers.now c.in-Some.name.now)) ∙ c.in-Some.ensures.some.there.0)

pub loop-name-preserved : goal.loop-name-preserved
loop-name-preserved g c =
    λ o a. c.loop-name.invariant o
    (passed (get c.args.answers.now) (number_in (g.L.TreeRead.tree c.args.lower.now) c.args.directory) (option_copied c.loop-name.from)
    (option_copied c.args.bound) c.in-Some.name.now c.in-Some.ensures.some
    (subst (IsEntryBelow (λ y. IsSome (number_in (g.L.TreeRead.tree c.args.lower.now) c.args.directory y)) (option_copied c.loop-name.from)
    (Some c.in-Some.name.now)) (sym c.in_default-entry_after.ensures.name)
    (entry_holds (g.L.TreeRead.tree c.args.lower.now) c.args.directory (option_copied c.loop-name.from) (Some c.in-Some.name.now)))
    (c.in-Some.ensures.value ∙ ap Some c.in_default-number.is) o a)
