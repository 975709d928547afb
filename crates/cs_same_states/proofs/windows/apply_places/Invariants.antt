use Rattle.std.proofs.Common.{◌≡◌, length, take}
use Rattle.cs_apm.specs.Contents.{content_left}
use Rattle.cs_apm.specs.States.{Content}
use Rattle.cs_same_states.specs.Windows.{IsWindow}
use Rattle.cs_same_states.proofs.windows.apply_places.Given as goal

abbrev pub invariant-loop-place : goal.invariant-loop-place
invariant-loop-place l = record {
  long : length l.part ≡ length l.initial.part;
  window : (f : Content) → IsWindow l.offset f l.size l.initial.part
      → IsWindow l.offset (content_left l.file f l.ops (take l.place-index l.places)) l.left l.part;
}
