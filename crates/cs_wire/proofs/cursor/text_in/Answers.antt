use Rattle.std.proofs.Common.{ap, ◌∙◌, not}
use Rattle.cs_wire.proofs.Texts.{not_text, text_is}
use Rattle.cs_wire.proofs.cursor.text_in.Goals as goal

pub returns-then-has_nul-clause-none : goal.returns-then-has_nul-clause-none
returns-then-has_nul-clause-none c = text_is _ _ c.in-Ok.ensures.cases.1 c.has_nul.ensures ∙ ap not c.if-has_nul.true

pub returns-else-has_nul-clause-some : goal.returns-else-has_nul-clause-some
returns-else-has_nul-clause-some c =
    (c.in-Ok.ensures.cases.0, text_is _ _ c.in-Ok.ensures.cases.1 c.has_nul.ensures ∙ ap not c.if-has_nul.false)

pub returns-in-Err-clause-none : goal.returns-in-Err-clause-none
returns-in-Err-clause-none c = not_text _ c.in-Err.ensures.cases.0
