use Rattle.std.proofs.Common.{◌<◌, ℕ, get_or}
use Rattle.cs_apm.specs.Rules.{op_at}
use Rattle.cs_same_states.specs.Parts.{IsAlikeBy}
use Rattle.cs_same_states.proofs.leaving.are_alike_by.Given as goal

abbrev pub invariant-loop-place : goal.invariant-loop-place
invariant-loop-place l =
    (k : ℕ) → k < l.place-index
    → IsAlikeBy l.pair l.slots.in_unchanged_slot.now l.slots.first.now l.slots.second.now (op_at l.pair.ops.now (get_or l.places k 0))
