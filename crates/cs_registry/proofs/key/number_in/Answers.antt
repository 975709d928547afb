use Rattle.std.proofs.Common.{◌∙◌, ◌+◌, ◌*◌, ◌-◌, sym, ap, arith, slice_index_or}
use Rattle.std.proofs.lemmas.List.Sums.{fold_more}
use Rattle.cs_registry.proofs.Digits.{digit_at, power_more, power_small}
use Rattle.cs_registry.proofs.key.number_in.Goals as goal

pub overflow_mul-number : goal.overflow_mul-number
overflow_mul-number c =
    let small = power_small c.args.digits.now c.requires c.loop-digit.digit-index (omega arith) in
    omega (arith, c.loop-digit.invariant.below)

pub overflow_add-number : goal.overflow_add-number
overflow_add-number c =
    let digit = digit_at c.args.digits.now c.requires c.loop-digit.digit-index (omega arith) in
    let small = power_small c.args.digits.now c.requires c.loop-digit.digit-index (omega arith) in
    omega (arith, c.loop-digit.invariant.below)

pub loop-digit-preserved : goal.loop-digit-preserved
loop-digit-preserved c =
    let digit = digit_at c.args.digits.now c.requires c.loop-digit.digit-index (omega arith) in
    let more = power_more c.loop-digit.digit-index in
    record {
      is = ap (λ n. 10 * n + (slice_index_or c.args.digits.now c.loop-digit.digit-index 0 - 48)) c.loop-digit.invariant.is ∙ sym
          (fold_more (λ n digit. 10 * n + (digit - 48)) 0 c.args.digits.now c.loop-digit.digit-index 0 (omega arith));
      below = omega (arith, c.loop-digit.invariant.below);
    }
