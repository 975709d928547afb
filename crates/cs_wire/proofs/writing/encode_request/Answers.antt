use Rattle.std.proofs.Common.{◌+◌, ◌++◌, ℕ, length, ap, ◌∙◌, arith}
use Rattle.cs_wire.specs.Fields.{One, Two, Four, bytes_of_field}
use Rattle.cs_wire.specs.Messages.{t_view, spelling}
use Rattle.cs_wire.specs.Bodies.{request_bytes, request_number}
use Rattle.cs_wire.proofs.WhatFits.{t_parts, t_fit, parts_len, written}
use Rattle.cs_wire.proofs.writing.encode_request.Goals as goal

pub put_header-requires : goal.put_header-requires
put_header-requires c =
    let m = c.args.message.now in
    let len =
    parts_len (spelling (t_view m)) (request_bytes m.body) (request_number m.body) m.tag (length (request_bytes m.body) + 7) (t_parts m)
    in
    omega (arith, len, c.spelled_length-size.ensures, c.in_ok-reserve.ensures.ok)

pub put_request-requires-clause-fits : goal.put_request-requires-clause-fits
put_request-requires-clause-fits c = t_fit c.args.message.now c.requires

pub put_request-requires-clause-room : goal.put_request-requires-clause-room
put_request-requires-clause-room c =
    let m = c.args.message.now in
    let len =
    parts_len (spelling (t_view m)) (request_bytes m.body) (request_number m.body) m.tag (length (request_bytes m.body) + 7) (t_parts m)
    in
    omega (arith, len, c.spelled_length-size.ensures, c.in_ok-reserve.ensures.ok, c.put_header.ensures.len, c.put_header.ensures.capacity)

pub returns-clause-ok : goal.returns-clause-ok
returns-clause-ok c =
    let m = c.args.message.now in
    let size = c.spelled_length-size.result in
    let header =
    c.put_header.ensures.items ∙ ap
    (λ (kind : ℕ). c.reserve.new.self.items ++ (bytes_of_field Four size ++ (bytes_of_field One kind ++ bytes_of_field Two m.tag)))
    c.request_type.ensures in
    written c.reserve.new.self.items (request_bytes m.body) (spelling (t_view m)) c.put_header.new.out.items c.put_request.new.out.items
    size (request_number m.body) m.tag (t_parts m) c.spelled_length-size.ensures header c.put_request.ensures.items ∙ ap
    (λ z. z ++ spelling (t_view m)) c.in_ok-reserve.ensures.items
