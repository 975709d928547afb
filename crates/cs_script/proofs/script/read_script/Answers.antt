use Rattle.std.proofs.Common.{ap, arith, length}
use Rattle.cs_names.proofs.Cutting.{length-pieces}
use Rattle.cs_names.specs.Pieces.{pieces}
use Rattle.cs_script.proofs.script.read_script.Goals as goal

pub overflow_add-before : goal.overflow_add-before
overflow_add-before c =
    let most = length-pieces 10 c.without_last_feed.result.now in
    let one_more = ap length c.in-Some.ensures.steps in
    omega (
      arith,
      most,
      one_more,
      ap length c.without_last_feed.ensures.value,
      c.without_last_feed.ensures.shorter,
      c.loop-text.invariant.bounded,
      ap (λ bytes. length (pieces 10 bytes)) c.without_last_feed.ensures.value,
    )
