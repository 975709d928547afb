use Rattle.std.proofs.Common.{◌≡◌, ◌≢◌, ◌+◌, ◌<◌, ◌≤◌, true, false, arith, length}
use Rattle.std.proofs.lemmas.Bool.Decides.{nat_tests}
use Rattle.std.specs.Prelude.{nat_lt}
use Rattle.cs_names.specs.declared.limits.TheConstants.{JOURNAL_ENTRIES}
use Rattle.cs_journal.proofs.Steps.{at_state, plain_room}
use Rattle.cs_journal.specs.Calls.{charge, closes_plainly, is_full}
use Rattle.cs_journal.proofs.run.Run.charge_if_room.Goals as goal

pub returns-then-entries-gt-JOURNAL_ENTRIES-clause-full : goal.returns-then-entries-gt-JOURNAL_ENTRIES-clause-full
returns-then-entries-gt-JOURNAL_ENTRIES-clause-full g c none =
    let i = c.self.inside in
    let above : JOURNAL_ENTRIES < length i.journal.items + length i.opens.items + charge i.opens.items c.pass.inside.number
    c.args.call.now =
    omega (arith, c.charge_of-charge.ensures.value, c.len.ensures, c.len-2.ensures, c.if-entries-gt-JOURNAL_ENTRIES.true) in
    let full : nat_lt JOURNAL_ENTRIES
    (length i.journal.items + length i.opens.items + charge i.opens.items c.pass.inside.number c.args.call.now) ≡ true =
    grind (arith, nat_tests) in
    at_state c.self.invariant.0 (λ s n. is_full s n c.args.call.now ≡ true) c.args.self.now _ c.args.pass.now c.self.view_is c.pass.view_is
    full

pub returns-then-entries-gt-JOURNAL_ENTRIES-clause-plain : goal.returns-then-entries-gt-JOURNAL_ENTRIES-clause-plain
returns-then-entries-gt-JOURNAL_ENTRIES-clause-plain g c none =
    let above : JOURNAL_ENTRIES < length c.self.inside.journal.items + length c.self.inside.opens.items + charge c.self.inside.opens.items
    c.pass.inside.number c.args.call.now =
    omega (arith, c.charge_of-charge.ensures.value, c.len.ensures, c.len-2.ensures, c.if-entries-gt-JOURNAL_ENTRIES.true) in
    at_state c.self.invariant.0 (λ s n. closes_plainly s n c.args.call.now ≢ true) c.args.self.now _ c.args.pass.now c.self.view_is
    c.pass.view_is (plain_room c.self.invariant.0 c.pass.inside.number c.args.call.now above)

pub returns-clause-room : goal.returns-clause-room
returns-clause-room g c some =
    let i = c.self.inside in
    let within : length i.journal.items + length i.opens.items + charge i.opens.items c.pass.inside.number c.args.call.now
    ≤ JOURNAL_ENTRIES =
    omega (arith, c.charge_of-charge.ensures.value, c.len.ensures, c.len-2.ensures, c.if-entries-gt-JOURNAL_ENTRIES.false) in
    let room : nat_lt JOURNAL_ENTRIES
    (length i.journal.items + length i.opens.items + charge i.opens.items c.pass.inside.number c.args.call.now) ≡ false =
    grind (arith, nat_tests) in
    at_state c.self.invariant.0 (λ s n. is_full s n c.args.call.now ≡ false) c.args.self.now _ c.args.pass.now c.self.view_is c.pass.view_is
    room

pub returns-clause-charge : goal.returns-clause-charge
returns-clause-charge g c =
    at_state c.self.invariant.0 (λ s n. c.charge_of-charge.result ≡ charge s.opens n c.args.call.now) c.args.self.now _ c.args.pass.now
    c.self.view_is c.pass.view_is c.charge_of-charge.ensures.value
