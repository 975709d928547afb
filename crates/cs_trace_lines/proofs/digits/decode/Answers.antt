use Rattle.std.proofs.Common.{rules, ◌≡◌, ◌+◌, ◌-◌, ◌*◌, Some, length, drop, ap, sym, ◌∙◌, arith}
use Rattle.std.proofs.lemmas.List.{take_rest}
use Rattle.cs_trace_lines.proofs.HexDigits.{all_decoded, part_refused, part_written}
use Rattle.cs_trace_lines.proofs.digits.decode.Goals as goal

pub returns-then-is_err-clause-read : goal.returns-then-is_err-clause-read
returns-then-is_err-clause-read c = λ _.
    let loop = c.loop-decoded in
    let rest_is = take_rest c.deref.result.now (2 * loop.decoded) ∙ ap (drop (2 * loop.decoded)) c.deref.ensures.value in
    part_refused 512 _ loop.decoded c.min.result c.args.digits.items loop.digits.items _ c.decode_to_slice.new.out c.decode_to_slice.result
    loop.invariant rest_is c.min.ensures (search rules) c.decode_to_slice.ensures.value (search rules)

pub loop-decoded-preserved : goal.loop-decoded-preserved
loop-decoded-preserved c =
    let loop = c.loop-decoded in
    let rest_is = take_rest c.deref.result.now (2 * loop.decoded) ∙ ap (drop (2 * loop.decoded)) c.deref.ensures.value in
    let out = c.decode_to_slice.new.out in
    let same : loop.decoded + length out - loop.decoded ≡ length out = omega arith in
    part_written 512 _ loop.decoded c.min.result c.args.digits.items loop.digits.items _ out c.decode_to_slice.result
    loop.invariant rest_is c.min.ensures (search rules) c.decode_to_slice.ensures.value loop.digits.len (search rules)
    c.decode_to_slice.auto.out (search rules) (rw (c.deref_mut.ensures.value, c.copy_from_slice.ensures.after, same))

pub returns-clause-read : goal.returns-clause-read
returns-clause-read c =
    let loop = c.loop-decoded in
    all_decoded c.args.digits.items loop.digits.items loop.decoded loop.invariant (omega arith)
    ∙ ap Some (sym c.truncate.ensures.items ∙ sym c.shrink_to_fit.ensures.items)
