use Rattle.std.proofs.Common.{◌+◌, drop, length, ap, arith, length-append}
use Rattle.std.specs.String.{string_bytes}
use Rattle.std.specs.Int.{w16, to_le_bytes}
use Rattle.cs_wire.specs.Fields.{Text, bytes_of_field}
use Rattle.cs_wire.proofs.Sizes.{item_cut}
use Rattle.cs_wire.proofs.Putting.{len_cut}
use Rattle.cs_wire.proofs.writing.put_each_name.Goals as goal

pub put_text-requires-clause-room : goal.put_text-requires-clause-room
unfolding bytes_of_field
put_text-requires-clause-room c =
    let name = c.name-item.result in
    let cut = item_cut c.args.names.now c.loop-name.name-index name c.loop-name-test.true c.name-item.is in
    let len =
    len_cut (bytes_of_field Text) string_bytes (drop c.loop-name.name-index c.args.names.now)
    (drop (c.loop-name.name-index + 1) c.args.names.now) name cut in
    omega (
      arith,
      len,
      ap length c.as_str.ensures.value,
      length-append (to_le_bytes w16 (length (string_bytes name))) (string_bytes name),
      c.loop-name.invariant.len,
      c.loop-name.invariant.capacity,
      c.requires.room,
    )
