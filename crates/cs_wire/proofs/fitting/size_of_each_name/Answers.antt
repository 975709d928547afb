use Rattle.std.proofs.Common.{◌+◌, drop, sym, ap, ◌∙◌, arith}
use Rattle.std.specs.String.{string_bytes}
use Rattle.cs_wire.specs.Fields.{Text, size_of, sizes_of}
use Rattle.cs_wire.specs.Messages.{names_of}
use Rattle.cs_wire.proofs.Sizes.{item_cut, adds, fails, all_added}
use Rattle.cs_wire.proofs.fitting.size_of_each_name.Goals as goal

pub loop-name-preserved : goal.loop-name-preserved
loop-name-preserved c = record {
  sizes = adds (size_of Text) string_bytes (drop c.loop-name.name-index c.args.names.now)
      (drop (c.loop-name.name-index + 1) c.args.names.now) c.loop-name.total c.in_ok-total.field-0 c.name-item.result
      (sizes_of (size_of Text) (names_of c.args.names.now))
      (item_cut c.args.names.now c.loop-name.name-index c.name-item.result c.loop-name-test.true c.name-item.is)
      (ap (size_of Text) (sym c.as_str.ensures.value) ∙ sym c.in_ok-total.ensures.size) c.loop-name.invariant.sizes;
  small = omega (arith, c.in_ok-total.ensures.small, c.loop-name.invariant.small);
}

pub returns-clause-size : goal.returns-clause-size
returns-clause-size c =
    all_added (size_of Text) string_bytes c.args.names.now c.loop-name.name-index c.loop-name.total
    (sizes_of (size_of Text) (names_of c.args.names.now)) c.loop-name-test.false c.loop-name.invariant.sizes

pub returns-in_err-total-clause-size : goal.returns-in_err-total-clause-size
returns-in_err-total-clause-size c =
    rw c.from_residual.ensures
    (fails (size_of Text) string_bytes (drop c.loop-name.name-index c.args.names.now) (drop (c.loop-name.name-index + 1) c.args.names.now)
    c.loop-name.total c.name-item.result (sizes_of (size_of Text) (names_of c.args.names.now))
    (item_cut c.args.names.now c.loop-name.name-index c.name-item.result c.loop-name-test.true c.name-item.is)
    (ap (size_of Text) (sym c.as_str.ensures.value) ∙ sym c.in_err-total.ensures.size) c.loop-name.invariant.sizes)
