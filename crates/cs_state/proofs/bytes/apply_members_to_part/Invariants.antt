use Rattle.std.proofs.Common.{◌≡◌, length, take}
use Rattle.cs_apm.specs.States.{Content}
use Rattle.cs_state.specs.Steps.{struck_by}
use Rattle.cs_state.specs.Windows.{IsPart}
use Rattle.cs_state.proofs.bytes.apply_members_to_part.Given as goal

abbrev pub invariant-loop-place : goal.invariant-loop-place
invariant-loop-place l = record {
  long : length l.part ≡ length l.initial.part;
  part : (f : Content) → IsPart l.offset f l.initial.part
      → IsPart l.offset (struck_by l.ops l.members f (take l.place-index l.places)) l.part;
}
