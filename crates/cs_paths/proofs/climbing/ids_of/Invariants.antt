use Rattle.std.proofs.Common.{◌≡◌, ◌+◌, ◌<◌, ℕ, length}
use Rattle.cs_paths.specs.Marks.{kept_at}
use Rattle.cs_paths.proofs.climbing.ids_of.Given as goal

abbrev pub invariant-loop-i : goal.invariant-loop-i
invariant-loop-i l = record {
  long : length l.ids.items ≡ length l.places;
  back : (k : ℕ) → k < l.i → kept_at l.ids.items (kept_at l.places k) ≡ k + 1;
}
