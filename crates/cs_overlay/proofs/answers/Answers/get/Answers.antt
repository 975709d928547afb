use Rattle.std.proofs.Common.{sym, ap, ◌∙◌}
use Rattle.std.specs.FinMap as map
use Rattle.std.specs.Option.{option_map}
use Rattle.cs_overlay.specs.declared.answers.Answer.{Answer}
use Rattle.cs_overlay.proofs.ByText.{get_number}
use Rattle.cs_overlay.proofs.answers.Answers.get.Goals as goal

pub returns-in-Some : goal.returns-in-Some
returns-in-Some c =
    ap (option_map (λ (s : Answer). s.number)) c.in-Some.ensures.value ∙ sym (get_number c.self.inside.entries c.args.name.now) ∙ ap
    (λ m. map.get m c.args.name.now) c.self.view_is

pub returns-in-None : goal.returns-in-None
returns-in-None c =
    ap (option_map (λ (s : Answer). s.number)) c.in-None.ensures.value ∙ sym (get_number c.self.inside.entries c.args.name.now) ∙ ap
    (λ m. map.get m c.args.name.now) c.self.view_is
