use Rattle.std.proofs.Common.{◌≡◌, ℕ, ◌<◌, false, length, take}
use Rattle.cs_state.specs.Numbers.{kept_at}
use Rattle.cs_state.specs.Shares.{mark_at}
use Rattle.cs_state.specs.Steps.{members_in}
use Rattle.cs_state.proofs.members.members_of.Given as goal

abbrev pub invariant-loop-place : goal.invariant-loop-place
invariant-loop-place l = record {
  long : length l.members.items ≡ l.count;
  so_far : members_in l.members.items ≡ take l.place-index l.places;
  later : (k : ℕ) → ((j : ℕ) → j < l.place-index → kept_at l.places j < k) → mark_at l.members.items k ≡ false;
}
