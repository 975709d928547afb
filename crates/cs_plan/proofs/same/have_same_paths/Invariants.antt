use Rattle.std.proofs.Common.{◌≡◌, take}
use Rattle.cs_plan.proofs.same.have_same_paths.Given as goal

abbrev pub invariant-loop-file : goal.invariant-loop-file
invariant-loop-file l = take l.file l.trace.files ≡ take l.file l.other.files
