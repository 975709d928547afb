use Rattle.std.proofs.Common.{◌≡◌, drop, length}
use Rattle.cs_paths.specs.PathOrders.{homes_from}
use Rattle.cs_paths.proofs.moves.note_start_homes.Given as goal

abbrev pub invariant-loop-place : goal.invariant-loop-place
invariant-loop-place l = record {
  long : length l.homes ≡ length l.fn.homes;
  rest : homes_from l.homes l.place (drop l.place l.slots) ≡ homes_from l.fn.homes 0 l.slots;
}
