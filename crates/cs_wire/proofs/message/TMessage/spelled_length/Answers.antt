use Rattle.std.proofs.Common.{◌≡◌, Some, length, refl, sym, ap, subst, ◌∙◌}
use Rattle.std.specs.Prelude.{IsSome}
use Rattle.cs_wire.specs.Fields.{sum_if_both}
use Rattle.cs_wire.specs.Messages.{t_view, spelling}
use Rattle.cs_wire.proofs.WhatFits.{header_size, fits_some, t_size_is}
use Rattle.cs_wire.proofs.message.TMessage.spelled_length.Goals as goal

pub unwrap-requires : goal.unwrap-requires
unwrap-requires c =
    let is : c.size_with_header.result ≡ Some (length (spelling (t_view c.args.self.now))) =
    sym (sym (t_size_is c.args.self.now) ∙ ap (sum_if_both (header_size c.args.self.now.tag)) (sym c.size_of_request_fields.ensures.size)
    ∙ sym c.size_with_header.ensures.size) ∙ fits_some (t_view c.args.self.now) c.requires in
    subst (λ r. IsSome r) (sym is) refl

pub returns : goal.returns
returns c =
    let is : c.size_with_header.result ≡ Some (length (spelling (t_view c.args.self.now))) =
    sym (sym (t_size_is c.args.self.now) ∙ ap (sum_if_both (header_size c.args.self.now.tag)) (sym c.size_of_request_fields.ensures.size)
    ∙ sym c.size_with_header.ensures.size) ∙ fits_some (t_view c.args.self.now) c.requires in
    let same : Some c.unwrap.result ≡ Some (length (spelling (t_view c.args.self.now))) = sym c.unwrap.ensures ∙ is in
    cc
