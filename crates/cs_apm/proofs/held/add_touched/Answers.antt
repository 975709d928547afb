use Rattle.std.proofs.Common.{◌≡◌, true, false, None, ap, sym, ◌∙◌, subst, arith}
use Rattle.std.specs.FinMap.{from_entries, insert, len}
use Rattle.std.specs.Option.{is_some}
use Rattle.cs_entries.specs.Laws.Records.{entry_exact, entry_total}
use Rattle.cs_apm.specs.Held.{Held, has, held_of, slot_in}
use Rattle.cs_apm.proofs.Holding.{touched_few, touched_others, touched_same, touched_there}
use Rattle.cs_apm.proofs.Views.{get-keyed, insert-keyed}
use Rattle.cs_apm.proofs.held.add_touched.Goals as goal

pub returns-then-contains_key-clause-there : goal.returns-then-contains_key-clause-there
returns-then-contains_key-clause-there c =
    let old = c.args.held.now in
    let entry = c.in_ok-entry.entry in
    subst (λ e. has (held_of old) e ≡ true) c.in_ok-entry.ensures
    (ap is_some (sym (get-keyed entry_total entry_exact old.entries entry)) ∙ sym c.contains_key.ensures ∙ c.if-contains_key.true)

pub returns-clause-there : goal.returns-clause-there
returns-clause-there c =
    let old = c.args.held.now in
    let entry = c.in_ok-entry.entry in
    let absent : has (held_of old) entry ≡ false =
    ap is_some (sym (get-keyed entry_total entry_exact old.entries entry)) ∙ sym c.contains_key.ensures ∙ c.if-contains_key.false in
    let is = ap from_entries c.in_ok-insert.ensures.entries ∙ insert-keyed entry_total entry_exact old.entries entry None in
    subst (λ e. has (held_of c.insert.new.self) e ≡ true) c.in_ok-entry.ensures
    (ap (λ (h : Held). has h entry) is ∙ touched_there (held_of old) entry absent)

pub returns-clause-others : goal.returns-clause-others
returns-clause-others c e there =
    let old = c.args.held.now in
    let entry = c.in_ok-entry.entry in
    let absent : has (held_of old) entry ≡ false =
    ap is_some (sym (get-keyed entry_total entry_exact old.entries entry)) ∙ sym c.contains_key.ensures ∙ c.if-contains_key.false in
    let is = ap from_entries c.in_ok-insert.ensures.entries ∙ insert-keyed entry_total entry_exact old.entries entry None in
    ap (λ (h : Held). has h e) is ∙ touched_others (held_of old) entry absent e there

pub returns-clause-same : goal.returns-clause-same
returns-clause-same c e =
    let old = c.args.held.now in
    let entry = c.in_ok-entry.entry in
    let absent : has (held_of old) entry ≡ false =
    ap is_some (sym (get-keyed entry_total entry_exact old.entries entry)) ∙ sym c.contains_key.ensures ∙ c.if-contains_key.false in
    let is = ap from_entries c.in_ok-insert.ensures.entries ∙ insert-keyed entry_total entry_exact old.entries entry None in
    ap (λ (h : Held). slot_in h e) is ∙ touched_same (held_of old) entry absent e

pub returns-clause-few : goal.returns-clause-few
returns-clause-few c =
    let old = c.args.held.now in
    let entry = c.in_ok-entry.entry in
    let absent : has (held_of old) entry ≡ false =
    ap is_some (sym (get-keyed entry_total entry_exact old.entries entry)) ∙ sym c.contains_key.ensures ∙ c.if-contains_key.false in
    let is = ap from_entries c.in_ok-insert.ensures.entries ∙ insert-keyed entry_total entry_exact old.entries entry None in
    let more = touched_few (held_of old) entry absent in
    let same = ap (λ (h : Held). len h) is in
    omega (arith, more, same)
