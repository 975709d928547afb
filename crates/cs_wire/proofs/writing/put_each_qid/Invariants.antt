use Rattle.std.proofs.Common.{◌≡◌, ◌≤◌, ◌+◌, ◌++◌, length, map, vec_len, vec_capacity, drop}
use Rattle.std.specs.List.{flat_map}
use Rattle.cs_wire.specs.Fields.{bytes_of_field}
use Rattle.cs_wire.specs.Messages.{qid_of, qid_shape}
use Rattle.cs_wire.proofs.writing.put_each_qid.Given as goal

abbrev pub invariant-loop-qid : goal.invariant-loop-qid
invariant-loop-qid l = record {
  items : l.out.items ++ flat_map (bytes_of_field qid_shape) (map qid_of (drop l.qid-index l.qids)) ≡ l.fn.out.items
      ++ flat_map (bytes_of_field qid_shape) (map qid_of l.qids);
  len : vec_len l.out + length (flat_map (bytes_of_field qid_shape) (map qid_of (drop l.qid-index l.qids)))
      ≡ vec_len l.fn.out + length (flat_map (bytes_of_field qid_shape) (map qid_of l.qids));
  capacity : vec_capacity l.fn.out ≤ vec_capacity l.out;
}
