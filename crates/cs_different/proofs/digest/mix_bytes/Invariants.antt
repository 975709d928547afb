use Rattle.std.proofs.Common.{◌≡◌, fold, take}
use Rattle.cs_different.specs.Digests.{with_part}
use Rattle.cs_different.proofs.digest.mix_bytes.Given as goal

abbrev pub invariant-loop-byte : goal.invariant-loop-byte
invariant-loop-byte l = l.mixed ≡ fold with_part l.digest (take l.byte-index l.bytes)
