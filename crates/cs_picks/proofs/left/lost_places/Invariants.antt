use Rattle.std.proofs.Common.{◌≡◌, ◌<◌, length}
use Rattle.std.specs.List.{All, filter, range_with_len}
use Rattle.cs_picks.specs.Left.{loses_at}
use Rattle.cs_picks.proofs.left.lost_places.Given as goal

abbrev pub invariant-loop-place : goal.invariant-loop-place
invariant-loop-place l = record {
  so_far : l.lost.items ≡ filter (loses_at l.losses l.file) (range_with_len 0 l.place);
  inside : All (λ place. place < length l.losses) l.lost.items;
}
