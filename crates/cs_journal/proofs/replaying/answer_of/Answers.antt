use Rattle.std.proofs.Common.{◌≡◌, ◌<◌, arith, length, Some}
use Rattle.std.specs.Arc.{arc_value}
use Rattle.std.specs.Prelude.{slice_get}
use Rattle.cs_journal.proofs.Replays.{above_at, answer_next, next_at, state_at, state_next, versions_at}
use Rattle.cs_journal.proofs.replaying.answer_of.Goals as goal

pub redo_entry-requires-clause-vers : goal.redo_entry-requires-clause-vers
redo_entry-requires-clause-vers g c =
    versions_at (g.L.TreeRead.tree (arc_value c.args.lower.now)) c.args.users.now c.args.journal.now.items c.requires.grows c.requires.few
    c.loop-k.k (omega (arith, c.if-place-len.false, c.len.ensures, c.loop-k-test.true)) c.loop-k.tree c.loop-k.opens.items
    c.loop-k.invariant

pub redo_entry-requires-clause-next : goal.redo_entry-requires-clause-next
redo_entry-requires-clause-next g c =
    next_at (g.L.TreeRead.tree (arc_value c.args.lower.now)) c.args.users.now c.args.journal.now.items c.requires.grows c.requires.few
    c.loop-k.k (omega (arith, c.if-place-len.false, c.len.ensures, c.loop-k-test.true)) c.loop-k.tree c.loop-k.opens.items
    c.loop-k.invariant

pub redo_entry-requires-clause-above : goal.redo_entry-requires-clause-above
redo_entry-requires-clause-above g c =
    above_at (g.L.TreeRead.tree (arc_value c.args.lower.now)) c.args.users.now c.args.journal.now.items c.requires.grows c.requires.few
    c.loop-k.k (omega (arith, c.if-place-len.false, c.len.ensures, c.loop-k-test.true)) c.loop-k.tree c.loop-k.opens.items
    c.loop-k.invariant

pub loop-k-preserved : goal.loop-k-preserved
loop-k-preserved g c =
    let within : c.loop-k.k < length c.args.journal.now.items = omega (arith, c.if-place-len.false, c.len.ensures, c.loop-k-test.true) in
    let e = c.entry-entry.result in
    let there : slice_get c.args.journal.now.items c.loop-k.k ≡ Some e = c.entry-entry.ensures in
    state_next (g.L.TreeRead.tree (arc_value c.args.lower.now)) c.args.users.now c.args.journal.now.items c.requires.grows c.requires.few
    c.loop-k.k within c.loop-k.tree c.loop-k.opens.items c.loop-k.invariant e there c.redo_entry.new.tree c.redo_entry.new.opens.items _
    c.in_ok-redo_entry.ensures

pub redo_entry-requires-2-clause-vers : goal.redo_entry-requires-2-clause-vers
redo_entry-requires-2-clause-vers g c =
    versions_at (g.L.TreeRead.tree (arc_value c.args.lower.now)) c.args.users.now c.args.journal.now.items c.requires.grows c.requires.few
    c.args.place (omega (arith, c.if-place-len.false, c.len.ensures)) c.loop-k.tree c.loop-k.opens.items
    (state_at _ c.args.journal.now.items c.loop-k.tree c.loop-k.opens.items c.args.users.now c.loop-k.k c.args.place
    (omega (arith, c.loop-k-test.false, c.loop-k.auto.k-end)) c.loop-k.invariant)

pub redo_entry-requires-2-clause-next : goal.redo_entry-requires-2-clause-next
redo_entry-requires-2-clause-next g c =
    next_at (g.L.TreeRead.tree (arc_value c.args.lower.now)) c.args.users.now c.args.journal.now.items c.requires.grows c.requires.few
    c.args.place (omega (arith, c.if-place-len.false, c.len.ensures)) c.loop-k.tree c.loop-k.opens.items
    (state_at _ c.args.journal.now.items c.loop-k.tree c.loop-k.opens.items c.args.users.now c.loop-k.k c.args.place
    (omega (arith, c.loop-k-test.false, c.loop-k.auto.k-end)) c.loop-k.invariant)

pub redo_entry-requires-2-clause-above : goal.redo_entry-requires-2-clause-above
redo_entry-requires-2-clause-above g c =
    above_at (g.L.TreeRead.tree (arc_value c.args.lower.now)) c.args.users.now c.args.journal.now.items c.requires.grows c.requires.few
    c.args.place (omega (arith, c.if-place-len.false, c.len.ensures)) c.loop-k.tree c.loop-k.opens.items
    (state_at _ c.args.journal.now.items c.loop-k.tree c.loop-k.opens.items c.args.users.now c.loop-k.k c.args.place
    (omega (arith, c.loop-k-test.false, c.loop-k.auto.k-end)) c.loop-k.invariant)

pub returns : goal.returns
returns g c =
    let e = c.entry-entry-2.result in
    let there : slice_get c.args.journal.now.items c.args.place ≡ Some e = c.entry-entry-2.ensures in
    answer_next (g.L.TreeRead.tree (arc_value c.args.lower.now)) c.args.users.now c.args.journal.now.items c.requires.grows c.requires.few
    c.args.place (omega (arith, c.if-place-len.false, c.len.ensures)) c.loop-k.tree c.loop-k.opens.items
    (state_at _ c.args.journal.now.items c.loop-k.tree c.loop-k.opens.items c.args.users.now c.loop-k.k c.args.place
    (omega (arith, c.loop-k-test.false, c.loop-k.auto.k-end)) c.loop-k.invariant) e there c.redo_entry-2.new.tree
    c.redo_entry-2.new.opens.items _ c.in_ok-answer.ensures
