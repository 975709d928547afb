use Rattle.std.proofs.Common.{◌≡◌, ◌+◌, length, take}
use Rattle.std.specs.Prelude.{◌/◌}
use Rattle.cs_users.specs.Marks.{AreMarks}
use Rattle.cs_users.proofs.marks.Marks.of.Given as goal

abbrev pub invariant-loop-place : goal.invariant-loop-place
invariant-loop-place l = record {
  long : length l.words.items ≡ l.count / 64 + 1;
  marked : AreMarks l.count (take l.place-index l.places) l.words.items;
}
