use Rattle.std.proofs.Common.{◌≤◌, ◌+◌, ◌++◌, List, vec_capacity, vec_len}
use Rattle.std.specs.Vec.Iter.{into_iter_items, into_iter_len}
use Rattle.cs_world.specs.declared.reply.Reply.{Reply}
use Rattle.cs_world.specs.Lists.{IsStepList}
use Rattle.cs_world.specs.Worlds.{World}
use Rattle.cs_world.proofs.world.World.run.Given as goal

-- what is left leads from here to where all leads from the start
abbrev pub invariant-loop-step : goal.invariant-loop-step
invariant-loop-step l = record {
  more : (rest : List Reply) (w : World) → IsStepList l.self (into_iter_items l.step-iterator) rest w
      → IsStepList l.fn.self l.fn.steps.items (l.replies.items ++ rest) w;
  room : vec_len l.replies + into_iter_len l.step-iterator ≤ vec_capacity l.replies;
  can_next : (goal.iterator-loop-step).can_next l.step-iterator;
  is_finite : (goal.iterator-loop-step).is_finite l.step-iterator;
}
