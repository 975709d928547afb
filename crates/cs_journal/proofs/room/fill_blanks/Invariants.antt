use Rattle.std.proofs.Common.{◌-◌, ◌≤◌, vec_len}
use Rattle.cs_journal.proofs.room.fill_blanks.Given as goal

abbrev pub decreases-loop-alloc : goal.decreases-loop-alloc
decreases-loop-alloc l = l.count - vec_len l.blanks

abbrev pub invariant-loop-alloc : goal.invariant-loop-alloc
invariant-loop-alloc l = vec_len l.initial.blanks ≤ vec_len l.blanks
