use Rattle.std.proofs.Common.{◌+◌, drop, map, get_or, sym, arith}
use Rattle.cs_wire.specs.Fields.{size_of, sizes_of}
use Rattle.cs_wire.specs.Messages.{qid_of, qid_shape}
use Rattle.cs_wire.proofs.Sizes.{copy_cut, adds, all_added}
use Rattle.cs_wire.proofs.fitting.size_of_each_qid.Goals as goal

pub loop-item-preserved : goal.loop-item-preserved
loop-item-preserved c = record {
  sizes = adds (size_of qid_shape) qid_of (drop c.loop-item.item-index c.args.qids.now) (drop (c.loop-item.item-index + 1) c.args.qids.now)
      c.loop-item.total c.size_of_qid-total.result (get_or c.args.qids.now c.loop-item.item-index (record {
        kind = 0;
        vers = 0;
        path = 0;
      })) (sizes_of (size_of qid_shape) (map qid_of c.args.qids.now)) (copy_cut c.args.qids.now c.loop-item.item-index (record {
        kind = 0;
        vers = 0;
        path = 0;
      }) c.loop-item-test.true) c.size_of_qid-total.ensures.size c.loop-item.invariant.sizes;
  small = omega (arith, c.size_of_qid-total.ensures.small, c.loop-item.invariant.small);
}

pub returns-clause-size : goal.returns-clause-size
returns-clause-size c =
    sym (all_added (size_of qid_shape) qid_of c.args.qids.now c.loop-item.item-index c.loop-item.total
    (sizes_of (size_of qid_shape) (map qid_of c.args.qids.now)) c.loop-item-test.false c.loop-item.invariant.sizes)
