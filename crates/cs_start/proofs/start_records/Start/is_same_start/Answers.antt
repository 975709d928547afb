use Rattle.std.proofs.Common.{◌<◌, length, refl, arith}
use Rattle.cs_start.proofs.Recorded.{take-next}
use Rattle.cs_start.proofs.start_records.Start.is_same_start.Goals as goal

pub loop-place-preserved : goal.loop-place-preserved
loop-place-preserved c =
    let k = c.loop-place.place in
    let low : k < length c.args.self.now = omega arith in
    take-next c.args.self.now c.args.other.now k low c.loop-place.invariant (c.if-not-is_same_at.ensures.0 refl)
