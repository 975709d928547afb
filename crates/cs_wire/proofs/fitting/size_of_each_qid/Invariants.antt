use Rattle.std.proofs.Common.{◌≡◌, ◌*◌, ◌≤◌, Some, drop, map}
use Rattle.cs_wire.specs.Fields.{size_of, sizes_of, sum_if_both}
use Rattle.cs_wire.specs.Messages.{qid_of, qid_shape}
use Rattle.cs_wire.proofs.fitting.size_of_each_qid.Given as goal

abbrev pub invariant-loop-item : goal.invariant-loop-item
invariant-loop-item l = record {
  sizes : sum_if_both (Some l.total) (sizes_of (size_of qid_shape) (map qid_of (drop l.item-index l.qids)))
      ≡ sizes_of (size_of qid_shape) (map qid_of l.qids);
  small : l.total ≤ 13 * l.item-index;
}
