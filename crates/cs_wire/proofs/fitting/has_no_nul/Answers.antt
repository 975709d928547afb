use Rattle.std.proofs.Common.{sym, ap, ◌∙◌}
use Rattle.std.specs.List.{list_any}
use Rattle.std.specs.Prelude.{◌==◌}
use Rattle.cs_wire.proofs.Texts.{text_is}
use Rattle.cs_wire.proofs.fitting.has_no_nul.Goals as goal

pub returns : goal.returns
returns c =
    sym (text_is c.args.text.now c.has_nul.result c.utf8.text (c.has_nul.ensures ∙ ap (list_any (λ b. b == 0)) c.as_bytes.ensures.value))
