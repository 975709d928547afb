use Rattle.std.proofs.Common.{◌+◌, drop, get_or, arith}
use Rattle.cs_wire.specs.Fields.{bytes_of_field}
use Rattle.cs_wire.specs.Messages.{qid_of, qid_shape}
use Rattle.cs_wire.proofs.Sizes.{copy_cut}
use Rattle.cs_wire.proofs.Putting.{len_cut}
use Rattle.cs_wire.proofs.writing.put_each_qid.Goals as goal

pub put_qid-requires : goal.put_qid-requires
unfolding bytes_of_field
put_qid-requires c =
    let cut = copy_cut c.args.qids.now c.loop-qid.qid-index (record { kind = 0; vers = 0; path = 0 }) c.loop-qid-test.true in
    let len =
    len_cut (bytes_of_field qid_shape) qid_of (drop c.loop-qid.qid-index c.args.qids.now)
    (drop (c.loop-qid.qid-index + 1) c.args.qids.now) (get_or c.args.qids.now c.loop-qid.qid-index (record {
      kind = 0;
      vers = 0;
      path = 0;
    })) cut in
    omega (arith, len, c.loop-qid.invariant.len, c.loop-qid.invariant.capacity, c.requires.room)
