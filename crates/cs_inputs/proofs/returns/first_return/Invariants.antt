use Rattle.std.proofs.Common.{◌≡◌, ◌<◌, ◌≤◌, ℕ, count_by, take}
use Rattle.cs_inputs.specs.Returns.{HasReturnAt, is_feed}
use Rattle.cs_inputs.proofs.returns.first_return.Given as goal

abbrev pub invariant-loop-place : goal.invariant-loop-place
invariant-loop-place l = record {
  counted : l.feeds ≡ count_by is_feed (take l.place l.bytes);
  small : l.feeds ≤ l.place;
  unseen : (other : ℕ) → other < l.place → HasReturnAt l.bytes other → ⊥;
}
