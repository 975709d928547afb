use Rattle.std.proofs.Common.{sym, ◌∙◌}
use Rattle.cs_wire.proofs.Framing.{whole_front}
use Rattle.cs_wire.proofs.framer.whole_in_front.Goals as goal

pub returns-else-bytes-size : goal.returns-else-bytes-size
returns-else-bytes-size c =
    let front =
    whole_front _ _ (sym c.size_in_front.ensures ∙ c.in-Some.is) c.if-size-lt-HEADER_BYTES.false c.if-size.false c.if-bytes-size.false
    in
    (c.if-bytes-size.false, front.0, front.1)
