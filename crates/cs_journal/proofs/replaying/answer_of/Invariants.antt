use Rattle.std.proofs.Common.{◌≡◌, take}
use Rattle.std.specs.Arc.{arc_value}
use Rattle.cs_journal.specs.Journals.{replay, run_state, fresh_state}
use Rattle.cs_journal.proofs.replaying.answer_of.Given as goal

abbrev pub invariant-loop-k : goal.invariant-loop-k
invariant-loop-k g l =
    replay (fresh_state (g.L.TreeRead.tree (arc_value l.lower)) l.users) (take l.k l.journal.items)
    ≡ run_state l.tree l.opens.items l.users l.k
