use Rattle.std.proofs.Common.{ap, sym, ◌∙◌, length, length-append, arith, take, refl}
use Rattle.std.proofs.lemmas.Bool.{false≢true}
use Rattle.cs_micro.specs.MicroOperations.{micro_operations_of, micros_of}
use Rattle.cs_micro.proofs.Counted.{micros_all, micros_more, micros_none, micros_within}
use Rattle.cs_micro.proofs.counting.has_room.Goals as goal

pub loop-operation-init : goal.loop-operation-init
loop-operation-init c = record { so_far = sym (ap length (micros_none c.args.version)); few = omega arith }

pub returns-then-count-total : goal.returns-then-count-total
returns-then-count-total c =
    let within =
    micros_within c.args.version c.args.operations.now c.loop-operation.operation-index c.operation-item.result
    c.loop-operation-test.true c.operation-item.is in (
      (λ t. absurd (false≢true t)),
      (λ few. absurd
          (omega (
            arith,
            within,
            few,
            c.loop-operation.invariant.so_far,
            c.micro_count-count.ensures,
            c.if-count-total.true,
            c.loop-operation.invariant.few,
          ))),
    )

pub loop-operation-preserved : goal.loop-operation-preserved
loop-operation-preserved c =
    let i = c.loop-operation.operation-index in
    let so_far = micro_operations_of c.args.version (take i c.args.operations.now) in
    let more =
    ap length
    (micros_more c.args.version c.args.operations.now i c.operation-item.result c.loop-operation-test.true
    c.operation-item.is) ∙ length-append so_far (micros_of c.args.version c.operation-item.result) in
    record {
      so_far = omega (arith, more, c.loop-operation.invariant.so_far, c.micro_count-count.ensures);
      few = omega arith;
    }

pub returns : goal.returns
returns c =
    let all =
    ap length
    (micros_all c.args.version c.args.operations.now c.loop-operation.operation-index c.loop-operation-test.false)
    in
    ((λ t. omega (arith, all, c.loop-operation.invariant.so_far, c.loop-operation.invariant.few)), (λ few. refl))
