use Rattle.std.proofs.Common.{◌≡◌, ◌≤◌, List, Some, IsSome, sym, ap, ◌∙◌, subst, arith, length, get_or}
use Rattle.std.proofs.lemmas.Bool.{false≢true}
use Rattle.std.proofs.lemmas.List.{get_or_default}
use Rattle.std.specs.Option.{option_copied}
use Rattle.cs_entries.specs.DirEntries.{root_home}
use Rattle.cs_entries.specs.declared.entry.Entry.{Entry}
use Rattle.cs_tree_model.specs.Nexts.{IsEntryBelow}
use Rattle.cs_tree_model.specs.Tree.{NameBytes}
use Rattle.cs_apm.specs.Slots.{entry_at}
use Rattle.cs_state.specs.Named.{AreAfterName, IsBeforeBound}
use Rattle.cs_state.specs.States.{entries_in, number_of_place, number_shown}
use Rattle.cs_state.proofs.Calling.{atlas}
use Rattle.cs_state.proofs.Passing.{found_next, none_left, past_bound, shown_here}
use Rattle.cs_state.proofs.state_tree.entry_after_in.Goals as goal

pub returns-then-not-is_before-clause-name : goal.returns-then-not-is_before-clause-name
returns-then-not-is_before-clause-name c =
    let s = c.args.state.now in
    let es = entries_in s in
    let d = c.args.directory in
    let last = option_copied c.args.last in
    let bound = option_copied c.args.bound in
    let first = c.range_after-first.result.0 in
    let end = c.range_after-first.result.1 in
    let place = c.loop-place.place in
    let range = subst (λ (all : List Entry). AreAfterName all d last first end) c.entries-entries.ensures c.range_after-first.ensures.names
    in
    let within = subst (λ (all : List Entry). end ≤ length all) c.entries-entries.ensures c.range_after-first.ensures.within in
    let below = c.loop-place-test.true in
    let named : (entry_at es place).name ≡ (get_or c.entries-entries.result.now place c.index-entries-place.result).name =
    ap (λ (e : Entry). e.name) (get_or_default es place root_home c.index-entries-place.result (omega (arith, below, within))
    ∙ ap (λ (all : List Entry). get_or all place c.index-entries-place.result) (sym c.entries-entries.ensures)) in
    past_bound es (atlas s c.requires).ascending (number_of_place s) d last bound first end range within place c.loop-place.invariant
    c.loop-place.auto.place below
    (λ before. false≢true (sym c.if-not-is_before.true ∙ c.is_before.ensures.1 (subst (IsBeforeBound bound) named before)))

pub returns-in-Some-clause-name : goal.returns-in-Some-clause-name
returns-in-Some-clause-name c =
    let s = c.args.state.now in
    let es = entries_in s in
    let d = c.args.directory in
    let last = option_copied c.args.last in
    let bound = option_copied c.args.bound in
    let first = c.range_after-first.result.0 in
    let end = c.range_after-first.result.1 in
    let place = c.loop-place.place in
    let range = subst (λ (all : List Entry). AreAfterName all d last first end) c.entries-entries.ensures c.range_after-first.ensures.names
    in
    let within = subst (λ (all : List Entry). end ≤ length all) c.entries-entries.ensures c.range_after-first.ensures.within in
    let below = c.loop-place-test.true in
    let named : (entry_at es place).name ≡ (get_or c.entries-entries.result.now place c.index-entries-place.result).name =
    ap (λ (e : Entry). e.name) (get_or_default es place root_home c.index-entries-place.result (omega (arith, below, within))
    ∙ ap (λ (all : List Entry). get_or all place c.index-entries-place.result) (sym c.entries-entries.ensures)) in
    let is = sym c.number_of_place.ensures ∙ c.in-Some.is in
    subst (λ (x : NameBytes). IsEntryBelow (λ y. IsSome (number_shown s d y)) last bound (Some x)) named
    (found_next es (atlas s c.requires).ascending (number_of_place s) d last bound first end range within place c.loop-place.invariant
    c.loop-place.auto.place below c.in-Some.number is
    (subst (IsBeforeBound bound) (sym named) (c.is_before.ensures.0 c.if-not-is_before.false)))

pub returns-in-Some-clause-number : goal.returns-in-Some-clause-number
returns-in-Some-clause-number c =
    let s = c.args.state.now in
    let es = entries_in s in
    let d = c.args.directory in
    let last = option_copied c.args.last in
    let bound = option_copied c.args.bound in
    let first = c.range_after-first.result.0 in
    let end = c.range_after-first.result.1 in
    let place = c.loop-place.place in
    let range = subst (λ (all : List Entry). AreAfterName all d last first end) c.entries-entries.ensures c.range_after-first.ensures.names
    in
    let within = subst (λ (all : List Entry). end ≤ length all) c.entries-entries.ensures c.range_after-first.ensures.within in
    let below = c.loop-place-test.true in
    let named : (entry_at es place).name ≡ (get_or c.entries-entries.result.now place c.index-entries-place.result).name =
    ap (λ (e : Entry). e.name) (get_or_default es place root_home c.index-entries-place.result (omega (arith, below, within))
    ∙ ap (λ (all : List Entry). get_or all place c.index-entries-place.result) (sym c.entries-entries.ensures)) in
    let is = sym c.number_of_place.ensures ∙ c.in-Some.is in
    ap (number_shown s d) (sym named)
    ∙ shown_here es (atlas s c.requires).ascending (number_of_place s) d last bound first end range within place c.loop-place.invariant
    c.loop-place.auto.place below c.in-Some.number is

pub returns-clause-name : goal.returns-clause-name
returns-clause-name c =
    let s = c.args.state.now in
    let es = entries_in s in
    let d = c.args.directory in
    let last = option_copied c.args.last in
    let bound = option_copied c.args.bound in
    let first = c.range_after-first.result.0 in
    let end = c.range_after-first.result.1 in
    let range = subst (λ (all : List Entry). AreAfterName all d last first end) c.entries-entries.ensures c.range_after-first.ensures.names
    in
    let within = subst (λ (all : List Entry). end ≤ length all) c.entries-entries.ensures c.range_after-first.ensures.within in
    none_left es (atlas s c.requires).ascending (number_of_place s) d last bound first end range within c.loop-place.place
    c.loop-place.invariant c.loop-place-test.false
