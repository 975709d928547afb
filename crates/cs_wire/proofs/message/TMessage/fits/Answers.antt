use Rattle.std.proofs.Common.{sym, ap, ◌∙◌}
use Rattle.cs_wire.specs.Fields.{sum_if_both}
use Rattle.cs_wire.specs.Messages.{t_view}
use Rattle.cs_wire.proofs.WhatFits.{header_size, fits_when, fits_never, t_size_is}
use Rattle.cs_wire.proofs.message.TMessage.fits.Goals as goal

pub returns-in-Some : goal.returns-in-Some
returns-in-Some c =
    fits_when (t_view c.args.self.now) c.in-Some.length
    (sym (t_size_is c.args.self.now) ∙ ap (sum_if_both (header_size c.args.self.now.tag)) (sym c.size_of_request_fields.ensures.size) ∙ sym
    c.size_with_header.ensures.size ∙ c.in-Some.is)

pub returns-in-None : goal.returns-in-None
returns-in-None c =
    fits_never (t_view c.args.self.now)
    (sym (t_size_is c.args.self.now) ∙ ap (sum_if_both (header_size c.args.self.now.tag)) (sym c.size_of_request_fields.ensures.size) ∙ sym
    c.size_with_header.ensures.size ∙ c.in-None.is)
