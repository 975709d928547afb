use Rattle.std.proofs.Common.{◌≡◌, take}
use Rattle.cs_start.proofs.start_records.Start.is_same_start.Given as goal

abbrev pub invariant-loop-place : goal.invariant-loop-place
invariant-loop-place l = take l.place l.self ≡ take l.place l.other
