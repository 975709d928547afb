use Rattle.std.proofs.Common.{◌≡◌, ◌++◌, ℕ, List, length, sym, ap, ◌∙◌, arith, length-append}
use Rattle.cs_wire.specs.Fields.{Two, bytes_of_field}
use Rattle.cs_wire.specs.Messages.{stat_in, stat_entry}
use Rattle.cs_wire.proofs.WhatFits.{boxed_is, is_entry, entry_small}
use Rattle.cs_wire.proofs.Putting.{then_put}
use Rattle.cs_wire.proofs.writing.put_stat.Goals as goal

pub entry_length-requires : goal.entry_length-requires
entry_length-requires c = is_entry (stat_in c.args.stat.now) c.requires.fits

pub overflow_cast-entry_length : goal.overflow_cast-entry_length
overflow_cast-entry_length c =
    omega (arith, c.entry_length.ensures, entry_small (stat_in c.args.stat.now) (is_entry (stat_in c.args.stat.now) c.requires.fits))

pub put_u16-requires : goal.put_u16-requires
unfolding bytes_of_field
put_u16-requires c =
    let v = stat_in c.args.stat.now in
    omega (arith, c.requires.room, ap length (boxed_is v), length-append (bytes_of_field Two (length (stat_entry v))) (stat_entry v))

pub put_entry-requires-clause-fits : goal.put_entry-requires-clause-fits
put_entry-requires-clause-fits c = is_entry (stat_in c.args.stat.now) c.requires.fits

pub put_entry-requires-clause-room : goal.put_entry-requires-clause-room
unfolding bytes_of_field
put_entry-requires-clause-room c =
    let v = stat_in c.args.stat.now in
    omega (
      arith,
      c.requires.room,
      ap length (boxed_is v),
      length-append (bytes_of_field Two (length (stat_entry v))) (stat_entry v),
      c.put_u16.ensures.len,
      c.put_u16.ensures.capacity,
    )

pub returns-clause-items : goal.returns-clause-items
returns-clause-items c =
    let v = stat_in c.args.stat.now in
    let first : c.put_u16.new.out.items ≡ c.args.out.now.items ++ bytes_of_field Two (length (stat_entry v)) =
    c.put_u16.ensures.items ∙ ap (λ (n : ℕ). c.args.out.now.items ++ bytes_of_field Two n) c.entry_length.ensures in
    then_put c.args.out.now.items (bytes_of_field Two (length (stat_entry v))) (stat_entry v) first c.put_entry.ensures.items ∙ ap
    (λ (z : List ℕ). c.args.out.now.items ++ z) (sym (boxed_is v))
