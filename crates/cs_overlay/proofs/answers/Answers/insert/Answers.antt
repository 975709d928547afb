use Rattle.std.proofs.Common.{sym, ◌∙◌}
use Rattle.std.specs.FinMap as map
use Rattle.std.specs.String.{string_bytes}
use Rattle.cs_overlay.proofs.ByText.{named_insert, numbers_insert}
use Rattle.cs_overlay.proofs.answers.Answers.insert.Goals as goal

pub invariant_of-self-2 : goal.invariant_of-self-2
invariant_of-self-2 c =
    named_insert c.self.inside.entries c.insert.new.self (string_bytes c.in_ok-key.key) _ c.in_ok-insert.ensures.updates
    (sym (c.in_ok-key.ensures.cases ∙ c.as_string.ensures)) c.self.invariant

pub returns-clause-ok : goal.returns-clause-ok
returns-clause-ok c = numbers_insert c.self.inside.entries c.insert.new.self (string_bytes c.in_ok-key.key) _ c.in_ok-insert.ensures.updates
    ∙ (λ i. map.insert (c.self.view_is i) ((c.in_ok-key.ensures.cases ∙ c.as_string.ensures) i) c.args.number)
