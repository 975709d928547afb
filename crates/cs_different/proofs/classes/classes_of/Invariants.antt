use Rattle.std.proofs.Common.{◌≡◌, ◌≤◌, ℕ, Bool, true, length}
use Rattle.std.specs.List.{All, flat_map}
use Rattle.cs_sets.specs.Every.{every}
use Rattle.cs_sets.specs.Different.{IsLike}
use Rattle.cs_sets.specs.Rows.{bit_in, needed_in}
use Rattle.cs_different.specs.Classing.{IsClass, Leads, extensions}
use Rattle.cs_different.specs.Seen.{none_seen, same_seen, see}
use Rattle.cs_different.proofs.classes.classes_of.Given as goal

abbrev pub invariant-loop-place : goal.invariant-loop-place
invariant-loop-place l = record {
  classes : All (IsClass (see (bit_in l.wanted)) none_seen (needed_in l.needed) (length l.needed) l.place) l.level.items;
  leads : (like : (ℕ → Bool) → (ℕ → Bool) → Bool) → IsLike like
      → ((a b : ℕ → Bool) → same_seen (length l.needed) a b ≡ true → like a b ≡ true)
      → Leads like (see (bit_in l.wanted)) none_seen (needed_in l.needed) (length l.needed) l.place l.level.items;
  few : length (flat_map (extensions (needed_in l.needed) (length l.needed) l.place) l.level.items)
      ≤ length (every (needed_in l.needed) (length l.needed));
}
