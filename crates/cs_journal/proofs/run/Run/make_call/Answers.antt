use Rattle.std.proofs.Common.{◌≡◌, ◌∙◌, ⊎_elim, ◌+◌, ◌-◌, [], ◌∷◌, ◌++◌, arith, length, refl, subst, sym}
use Rattle.std.specs.Arc.{arc_value}
use Rattle.cs_journal.proofs.Audits.{ascending_push}
use Rattle.cs_journal.proofs.Ends.{ends_none_if, ends_small}
use Rattle.cs_journal.proofs.Steps.{begun, held_after, known, made_step, next_grows, numbers_below, own_few, own_room, own_room_after}
use Rattle.cs_journal.proofs.Steps.{places_few, places_more, room_after, short_left, some_room, versions_grow}
use Rattle.cs_journal.specs.Journals.{EntryOf}
use Rattle.cs_journal.specs.Runs.{IsAscending, PassOf, RunOf, receipt_of}
use Rattle.cs_journal.proofs.run.Run.make_call.Given.{Over}
use Rattle.cs_journal.proofs.run.Run.make_call.Goals as goal

pub act-outcome-requires-clause-vers : goal.act-outcome-requires-clause-vers
act-outcome-requires-clause-vers g c =
    versions_grow
    (begun c.self.invariant.0 c.args.self.now _ c.args.pass.now c.args.call.now c.args.charged c.self.view_is c.pass.view_is c.requires.fits
    c.requires.room c.requires.charge)

pub act-outcome-requires-clause-next : goal.act-outcome-requires-clause-next
act-outcome-requires-clause-next g c =
    next_grows
    (begun c.self.invariant.0 c.args.self.now _ c.args.pass.now c.args.call.now c.args.charged c.self.view_is c.pass.view_is c.requires.fits
    c.requires.room c.requires.charge)

pub act-outcome-requires-clause-above : goal.act-outcome-requires-clause-above
act-outcome-requires-clause-above g c =
    numbers_below
    (begun c.self.invariant.0 c.args.self.now _ c.args.pass.now c.args.call.now c.args.charged c.self.view_is c.pass.view_is c.requires.fits
    c.requires.room c.requires.charge) c.len.result c.len.ensures

pub reserve_and_keep-requires-clause-some : goal.reserve_and_keep-requires-clause-some
reserve_and_keep-requires-clause-some g c =
    own_room (begun c.self.invariant.0 c.args.self.now _ c.args.pass.now c.args.call.now c.args.charged c.self.view_is c.pass.view_is
    c.requires.fits c.requires.room c.requires.charge)

pub reserve_and_keep-requires-clause-few : goal.reserve_and_keep-requires-clause-few
reserve_and_keep-requires-clause-few g c =
    own_few (begun c.self.invariant.0 c.args.self.now _ c.args.pass.now c.args.call.now c.args.charged c.self.view_is c.pass.view_is
    c.requires.fits c.requires.room c.requires.charge)

pub enter-requires-clause-pass : goal.enter-requires-clause-pass
enter-requires-clause-pass g c =
    known (begun c.self.invariant.0 c.args.self.now _ c.args.pass.now c.args.call.now c.args.charged c.self.view_is c.pass.view_is
    c.requires.fits c.requires.room c.requires.charge)

pub enter-requires-clause-lies : goal.enter-requires-clause-lies
enter-requires-clause-lies g c = c.in-Some.ensures.kept.lies

pub enter-requires-clause-entry_room : goal.enter-requires-clause-entry_room
enter-requires-clause-entry_room g c =
    let b = begun c.self.invariant.0 c.args.self.now _ c.args.pass.now c.args.call.now c.args.charged c.self.view_is c.pass.view_is
    c.requires.fits c.requires.room c.requires.charge in
    omega (arith, c.in-Some.ensures.journal_room.1 refl, some_room b, c.len-before.ensures)

pub enter-requires-clause-receipt_room : goal.enter-requires-clause-receipt_room
enter-requires-clause-receipt_room g c =
    let b = begun c.self.invariant.0 c.args.self.now _ c.args.pass.now c.args.call.now c.args.charged c.self.view_is c.pass.view_is
    c.requires.fits c.requires.room c.requires.charge in
    omega (arith, c.in-Some.ensures.receipts_room.1 refl, own_room b)

pub overflow_add-pass : goal.overflow_add-pass
overflow_add-pass g c =
    let b = begun c.self.invariant.0 c.args.self.now _ c.args.pass.now c.args.call.now c.args.charged c.self.view_is c.pass.view_is
    c.requires.fits c.requires.room c.requires.charge in
    omega (arith, places_few b c.deref.ensures c.len.ensures c.act-outcome.ensures.step, c.len-2.ensures)

pub overflow_sub-pass : goal.overflow_sub-pass
overflow_sub-pass g c =
    let b = begun c.self.invariant.0 c.args.self.now _ c.args.pass.now c.args.call.now c.args.charged c.self.view_is c.pass.view_is
    c.requires.fits c.requires.room c.requires.charge in
    omega (arith, places_more b c.deref.ensures c.len.ensures c.act-outcome.ensures.step, c.len-2.ensures, c.len-before.ensures)

-- ---- the entry and the receipt that were added

abbrev entry_is : (g : Over) (c : goal.After-self-1 g) → EntryOf
entry_is g c = record { pass = c.pass.inside.number; moment = c.args.now; call = c.args.call.now; outcome = c.act-outcome.result.0 }

journal_is : (g : Over) (c : goal.After-self-1 g) → c.enter.new.journal.items ≡ c.self.inside.journal.items ++ entry_is g c ∷ []
journal_is g c = c.enter.ensures.journal ∙ (λ i. c.in-Some.ensures.journal i ++ record {
  pass = c.pass.inside.number;
  moment = c.args.now;
  call = c.in-Some.ensures.kept.entry i;
  outcome = c.act-outcome.result.0;
} ∷ [])

receipts_are : (g : Over) (c : goal.After-self-1 g)
    → c.enter.new.receipts.items ≡ c.pass.inside.receipts.items ++ receipt_of (length c.self.inside.journal.items) (entry_is g c) ∷ []
receipts_are g c = c.enter.ensures.receipts ∙ (λ i. c.in-Some.ensures.receipts.0 i ++ record {
  place = c.len.ensures i;
  call = c.in-Some.ensures.kept.receipt i;
  outcome = c.act-outcome.result.0;
} ∷ [])

many_is : (g : Over) (c : goal.After-self-1 g) → c.len-3.result ≡ length c.pass.inside.receipts.items + 1
many_is g c = omega (arith, c.len-3.ensures, c.enter.ensures.receipts_len, c.in-Some.ensures.receipts.1, c.pass.inside.receipts.ok)

places_are : (g : Over) (c : goal.After-self-1 g)
    → c.pass.inside.reserved + c.len-2.result - c.len-before.result
    ≡ c.pass.inside.reserved + length c.act-outcome.new.opens.items - length c.self.inside.opens.items
places_are g c = λ i. c.pass.inside.reserved + c.len-2.ensures i - c.len-before.ensures i

pub invariant_of-self-2 : goal.invariant_of-self-2
invariant_of-self-2 g c =
    let b = begun c.self.invariant.0 c.args.self.now _ c.args.pass.now c.args.call.now c.args.charged c.self.view_is c.pass.view_is
    c.requires.fits c.requires.room c.requires.charge in (
      held_after b c.deref.ensures c.len.ensures c.act-outcome.ensures.step (many_is g c) (places_are g c) c.enter.new.journal.items
          (journal_is g c),
      omega (
        arith,
        c.enter.ensures.journal_len,
        c.enter.ensures.journal_capacity,
        c.in-Some.ensures.journal_room.1 refl,
        room_after b
            c.deref.ensures c.len.ensures c.act-outcome.ensures.step,
        c.len-before.ensures,
      ),
    )

pub invariant_of-pass-2 : goal.invariant_of-pass-2
invariant_of-pass-2 g c =
    let b = begun c.self.invariant.0 c.args.self.now _ c.args.pass.now c.args.call.now c.args.charged c.self.view_is c.pass.view_is
    c.requires.fits c.requires.room c.requires.charge in
    let more = own_room_after b c.deref.ensures c.len.ensures c.act-outcome.ensures.step in (
      omega (
        arith,
        c.enter.ensures.receipts_len,
        c.enter.ensures.receipts_capacity,
        c.in-Some.ensures.receipts_room.1 refl,
        more,
        places_are g c,
      ),
      omega (arith, c.in-Some.ensures.blanks_left refl, more, places_are g c),
      subst IsAscending (sym (receipts_are g c)) (ascending_push _ _ (entry_is g c) b.own c.pass.invariant.2),
    )

pub returns : goal.returns
returns g c =
    let b = begun c.self.invariant.0 c.args.self.now _ c.args.pass.now c.args.call.now c.args.charged c.self.view_is c.pass.view_is
    c.requires.fits c.requires.room c.requires.charge in
    made_step b c.deref.ensures c.len.ensures c.act-outcome.ensures.step (many_is g c) (places_are g c) c.args.self.now c.args.pass.now
    c.enter.new.journal.items c.enter.new.receipts.items c.self.view_is c.pass.view_is (journal_is g c) (receipts_are g c)
    c.act-outcome.ensures.fits

pub returns-in_default : goal.returns-in_default
returns-in_default g c =
    let i = c.self.inside in
    let n = c.pass.inside.number in
    let b = begun c.self.invariant.0 c.args.self.now _ c.args.pass.now c.args.call.now c.args.charged c.self.view_is c.pass.view_is
    c.requires.fits c.requires.room c.requires.charge in
    let same_run : ◌≡◌ {A = RunOf} (record {
      fresh = g.L.TreeRead.tree (arc_value i.lower);
      users = arc_value i.users;
      journal = c.reserve_and_keep.new.journal.items;
      passes = length i.passes.items;
    }) c.args.self.now = (λ j. record {
      fresh = g.L.TreeRead.tree (arc_value i.lower);
      users = arc_value i.users;
      journal = c.in_default.ensures.journal j;
      passes = length i.passes.items;
    }) ∙ c.self.view_is in
    let same_pass : ◌≡◌ {A = PassOf} (record {
      number = n;
      receipts = c.reserve_and_keep.new.receipts.items;
      reserved = c.pass.inside.reserved;
    }) c.args.pass.now = (λ j. record {
      number = n;
      receipts = c.in_default.ensures.receipts.0 j;
      reserved = c.pass.inside.reserved;
    }) ∙ c.pass.view_is in
    short_left b c.args.self.now _ c.args.pass.now _ c.args.now c.self.view_is c.pass.view_is same_run same_pass
    (⊎_elim (ends_small i.opens.items n c.args.call.now) (λ full. ends_none_if i.opens.items n c.args.call.now (λ none.
    ⊎_elim (λ entries. omega (arith, entries, none, b.charged_is, c.self.invariant.1, c.len-before.ensures))
    (λ rest. ⊎_elim (λ receipts. omega (arith, receipts, none, b.charged_is, c.pass.invariant.0))
    (λ blanks. omega (arith, blanks, none, b.charged_is, c.pass.invariant.1)) rest) full)) (c.in_default.ensures.refused refl))
