use Rattle.std.proofs.Common.{◌≡◌, ℕ, ◌+◌, ◌-◌, ◌*◌, ◌/◌, ◌%◌, ◌<◌, ◌≤◌, cond, take, drop, length, ap, ◌∙◌, arith}
use Rattle.std.proofs.lemmas.List.{length-take, length-drop}
use Rattle.std.specs.BTreeMap.{get}
use Rattle.std.specs.Option.{option_map}
use Rattle.std.specs.Ordering.{nat_cmp, is_eq}
use Rattle.cs_overlay.specs.Patch.{byte_at, put_in, written_byte}
use Rattle.cs_overlay.proofs.Putting.{reach_piece, some_there, some_all, put_byte, still_reaches, written_same, more_written}
use Rattle.cs_overlay.proofs.writing.write_blocks.Goals as goal

pub write_block-requires-clause-there : goal.write_block-requires-clause-there
write_block-requires-clause-there c =
    let inv = c.loop-at.invariant in
    let at = c.loop-at.at in
    let stop = c.min-stop.result in
    let up : at < stop = omega (arith, c.min-stop.ensures, c.loop-at-test.true) in
    let hi : stop ≤ c.args.offset + length c.args.bytes.now = omega (arith, c.min-stop.ensures) in
    let in_block : stop ≤ (at / 4096 + 1) * 4096 = omega (arith, c.min-stop.ensures) in
    let r = reach_piece (get nat_cmp c.loop-at.blocks) c.args.offset (c.args.offset + length c.args.bytes.now) at stop inv.2 inv.0 up hi
    in_block in
    some_there (get nat_cmp c.loop-at.blocks (at / 4096)) r.0 r.1

pub write_block-requires-clause-reaches : goal.write_block-requires-clause-reaches
write_block-requires-clause-reaches c =
    let inv = c.loop-at.invariant in
    let at = c.loop-at.at in
    let stop = c.min-stop.result in
    let up : at < stop = omega (arith, c.min-stop.ensures, c.loop-at-test.true) in
    let hi : stop ≤ c.args.offset + length c.args.bytes.now = omega (arith, c.min-stop.ensures) in
    let in_block : stop ≤ (at / 4096 + 1) * 4096 = omega (arith, c.min-stop.ensures) in
    let r = reach_piece (get nat_cmp c.loop-at.blocks) c.args.offset (c.args.offset + length c.args.bytes.now) at stop inv.2 inv.0 up hi
    in_block in
    let piece =
    (take (c.min-stop.result - c.args.offset - (c.loop-at.at - c.args.offset)) (drop (c.loop-at.at - c.args.offset) c.args.bytes.now))
    in
    let long : length piece ≡ stop - at =
    omega (
      arith,
      length-take (stop - c.args.offset - (at - c.args.offset)) (drop (at - c.args.offset) c.args.bytes.now),
      length-drop
          (at - c.args.offset) c.args.bytes.now,
      inv.0,
      up,
      hi,
    ) in
    some_all (λ s. at % 4096 + length piece ≤ length s) (get nat_cmp c.loop-at.blocks (at / 4096)) r.0 r.1 (omega (arith, long, r.2))

pub loop-at-preserved : goal.loop-at-preserved
loop-at-preserved c =
    let inv = c.loop-at.invariant in
    let at = c.loop-at.at in
    let stop = c.min-stop.result in
    let up : at < stop = omega (arith, c.min-stop.ensures, c.loop-at-test.true) in
    let hi : stop ≤ c.args.offset + length c.args.bytes.now = omega (arith, c.min-stop.ensures) in
    let in_block : stop ≤ (at / 4096 + 1) * 4096 = omega (arith, c.min-stop.ensures) in
    let r = reach_piece (get nat_cmp c.loop-at.blocks) c.args.offset (c.args.offset + length c.args.bytes.now) at stop inv.2 inv.0 up hi
    in_block in
    let piece =
    (take (c.min-stop.result - c.args.offset - (c.loop-at.at - c.args.offset)) (drop (c.loop-at.at - c.args.offset) c.args.bytes.now))
    in
    let long : length piece ≡ stop - at =
    omega (
      arith,
      length-take (stop - c.args.offset - (at - c.args.offset)) (drop (at - c.args.offset) c.args.bytes.now),
      length-drop
          (at - c.args.offset) c.args.bytes.now,
      inv.0,
      up,
      hi,
    ) in
    let blocks = get nat_cmp c.loop-at.blocks in
    let new = get nat_cmp c.write_block.new.blocks in
    let goes =
    λ (q : ℕ). c.write_block.ensures.0 q ∙ ap (λ o. cond (is_eq (nat_cmp (at / 4096) q)) (option_map (put_in (at % 4096) piece) o)
    (blocks q))
    r.1 in
    let within : at % 4096 + length piece ≤ 4096 = omega (arith, long, in_block, up) in
    let fits : at % 4096 + length piece ≤ length r.0 = omega (arith, long, r.2) in
    let n : stop - c.args.offset - (at - c.args.offset) ≡ stop - at = omega (arith, inv.0, up) in (
      omega (arith, inv.0, up),
      hi,
      still_reaches blocks new at piece r.0 within r.1 fits goes c.args.offset (c.args.offset + length c.args.bytes.now) inv.2,
      (λ lower kept i. put_byte blocks new at piece r.0 within r.1 fits goes lower kept i
          ∙ written_same at piece (byte_at lower kept blocks)
          (written_byte c.args.offset (take (at - c.args.offset) c.args.bytes.now) (byte_at lower kept (get nat_cmp c.args.blocks.now)))
          i (inv.3 lower kept i)
          ∙ more_written c.args.offset at stop c.args.bytes.now (byte_at lower kept (get nat_cmp c.args.blocks.now)) inv.0
          (omega (arith, up)) (omega (arith, hi, inv.0, up)) piece (ap (λ k. take k (drop (at - c.args.offset) c.args.bytes.now)) n) i),
    )
