use Rattle.std.proofs.Common.{◌≡◌, ◌-◌, ◌++◌, ℕ, List, length, sym, ap, ◌∙◌, arith}
use Rattle.cs_wire.specs.Fields.{Two, bytes_of_field}
use Rattle.cs_wire.specs.Messages.{stat_in, stat_shape}
use Rattle.cs_wire.proofs.WhatFits.{entry_is, entry_size_is, stat_len, users_fit, entry_small}
use Rattle.cs_wire.proofs.Putting.{then_put}
use Rattle.cs_wire.proofs.writing.put_entry.Goals as goal

pub overflow_sub-entry_length : goal.overflow_sub-entry_length
overflow_sub-entry_length c = omega (arith, c.entry_length.ensures, entry_size_is (stat_in c.args.stat.now))

pub overflow_cast-entry_length : goal.overflow_cast-entry_length
overflow_cast-entry_length c = omega (arith, c.entry_length.ensures, entry_small (stat_in c.args.stat.now) c.requires.fits)

pub put_u16-requires : goal.put_u16-requires
put_u16-requires c = omega (arith, c.requires.room, entry_size_is (stat_in c.args.stat.now))

pub put_stat_fields-requires-clause-fits : goal.put_stat_fields-requires-clause-fits
put_stat_fields-requires-clause-fits c = users_fit c.args.stat.now c.requires.fits

pub put_stat_fields-requires-clause-room : goal.put_stat_fields-requires-clause-room
put_stat_fields-requires-clause-room c =
    omega (
      arith,
      c.requires.room,
      entry_size_is (stat_in c.args.stat.now),
      stat_len c.args.stat.now,
      c.put_u16.ensures.len,
      c.put_u16.ensures.capacity,
    )

pub returns-clause-items : goal.returns-clause-items
returns-clause-items c =
    let v = stat_in c.args.stat.now in
    let size : c.entry_length.result - 2 ≡ length (bytes_of_field stat_shape v) = omega (arith, c.entry_length.ensures, entry_size_is v) in
    let first : c.put_u16.new.out.items ≡ c.args.out.now.items ++ bytes_of_field Two (length (bytes_of_field stat_shape v)) =
    c.put_u16.ensures.items ∙ ap (λ (n : ℕ). c.args.out.now.items ++ bytes_of_field Two n) size in
    then_put c.args.out.now.items (bytes_of_field Two (length (bytes_of_field stat_shape v))) (bytes_of_field stat_shape v) first
    c.put_stat_fields.ensures.items ∙ ap (λ (z : List ℕ). c.args.out.now.items ++ z) (sym (entry_is v))
