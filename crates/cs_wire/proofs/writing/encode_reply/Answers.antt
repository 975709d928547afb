use Rattle.std.proofs.Common.{◌+◌, ◌++◌, ℕ, length, ap, ◌∙◌, arith}
use Rattle.cs_wire.specs.Fields.{One, Two, Four, bytes_of_field}
use Rattle.cs_wire.specs.Messages.{r_view, spelling}
use Rattle.cs_wire.specs.Bodies.{reply_bytes, reply_number}
use Rattle.cs_wire.proofs.WhatFits.{r_parts, r_fit, parts_len, written}
use Rattle.cs_wire.proofs.writing.encode_reply.Goals as goal

pub put_header-requires : goal.put_header-requires
put_header-requires c =
    let m = c.args.message.now in
    let len =
    parts_len (spelling (r_view m)) (reply_bytes m.body) (reply_number m.body) m.tag (length (reply_bytes m.body) + 7) (r_parts m) in
    omega (arith, len, c.spelled_length-size.ensures, c.in_ok-reserve.ensures.ok)

pub put_reply-requires-clause-fits : goal.put_reply-requires-clause-fits
put_reply-requires-clause-fits c = r_fit c.args.message.now c.requires

pub put_reply-requires-clause-room : goal.put_reply-requires-clause-room
put_reply-requires-clause-room c =
    let m = c.args.message.now in
    let len =
    parts_len (spelling (r_view m)) (reply_bytes m.body) (reply_number m.body) m.tag (length (reply_bytes m.body) + 7) (r_parts m) in
    omega (arith, len, c.spelled_length-size.ensures, c.in_ok-reserve.ensures.ok, c.put_header.ensures.len, c.put_header.ensures.capacity)

pub returns-clause-ok : goal.returns-clause-ok
returns-clause-ok c =
    let m = c.args.message.now in
    let size = c.spelled_length-size.result in
    let header =
    c.put_header.ensures.items ∙ ap
    (λ (kind : ℕ). c.reserve.new.self.items ++ (bytes_of_field Four size ++ (bytes_of_field One kind ++ bytes_of_field Two m.tag)))
    c.reply_type.ensures in
    written c.reserve.new.self.items (reply_bytes m.body) (spelling (r_view m)) c.put_header.new.out.items c.put_reply.new.out.items size
    (reply_number m.body) m.tag (r_parts m) c.spelled_length-size.ensures header c.put_reply.ensures.items ∙ ap
    (λ z. z ++ spelling (r_view m)) c.in_ok-reserve.ensures.items
