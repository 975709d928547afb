use Rattle.std.proofs.Common.{◌≡◌, ◌+◌, ◌-◌, ◌++◌, length, sym, ap, ◌∙◌, map, arith}
use Rattle.std.specs.List.{range_with_len}
use Rattle.std.specs.Option.{option_copied}
use Rattle.std.specs.Ordering.{nat_cmp}
use Rattle.std.specs.BTreeMap.{get}
use Rattle.std.proofs.lemmas.List.FromFn.{length-map-range_with_len}
use Rattle.cs_overlay.specs.Patch.{piece_byte, shown_byte}
use Rattle.cs_overlay.proofs.Pieces.{one_more}
use Rattle.cs_overlay.proofs.patched.Patched.join_pieces.Goals as goal

pub append_piece-requires-clause-fits : goal.append_piece-requires-clause-fits
append_piece-requires-clause-fits c =
    let inv = c.loop-at.invariant in
    let long : length c.loop-at.out.items ≡ c.loop-at.at - c.args.offset =
    ap length inv.2 ∙ length-map-range_with_len (shown_byte c.args.shown.now c.args.offset (get nat_cmp c.args.self.now.blocks))
    c.args.offset (c.loop-at.at - c.args.offset) in
    omega (arith, long, inv.0, inv.1, c.min-count.ensures, c.if-n.false, c.loop-at-test.true)

pub loop-at-preserved : goal.loop-at-preserved
loop-at-preserved c =
    let inv = c.loop-at.invariant in
    let at = c.loop-at.at in
    let stop = c.loop-at.at + c.min-count.result in
    let size : stop - at ≡ c.min-count.result = omega arith in (
      omega (arith, inv.0),
      omega (arith, inv.1, c.min-count.ensures),
      one_more c.args.shown.now c.args.offset (get nat_cmp c.args.self.now.blocks) (option_copied c.get-block.result) at stop
          c.get-block.ensures.value inv.0
          (omega arith) (omega (arith, c.min-count.ensures)) c.loop-at.out.items c.append_piece.new.out.items inv.2
          (c.in_ok-append_piece.ensures ∙ ap
          (λ k. c.loop-at.out.items
          ++ map (piece_byte (option_copied c.get-block.result) c.args.shown.now c.args.offset) (range_with_len at k)) (sym size)),
    )
