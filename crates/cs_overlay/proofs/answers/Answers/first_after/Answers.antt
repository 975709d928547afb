use Rattle.std.proofs.Common.{None, Some, IsSome, sym, ap, ◌∙◌, subst}
use Rattle.std.specs.FinMap as map
use Rattle.std.specs.BTreeMap.{get_by_text}
use Rattle.std.specs.Option.{option_copied, option_map, is_some}
use Rattle.std.specs.String.{string_bytes}
use Rattle.cs_tree_model.specs.Laws.Nexts.{entry_same}
use Rattle.cs_tree_model.specs.Nexts.{IsEntryBelow}
use Rattle.cs_overlay.specs.declared.answers.Answer.{Answer}
use Rattle.cs_overlay.proofs.ByText.{get_number, same_names}
use Rattle.cs_overlay.proofs.answers.Answers.first_after.Goals as goal

pub returns-in_err-_key-clause-none : goal.returns-in_err-_key-clause-none
returns-in_err-_key-clause-none c =
    rw c.from_residual.ensures
    (entry_same (get_by_text c.self.inside.entries) (map.get c.args.self.now)
    (λ y. same_names c.self.inside.entries y ∙ ap (λ m. is_some (map.get m y)) c.self.view_is) (option_copied c.args.last)
    (option_copied c.args.bound) None c.in_err-_key.ensures.none)

pub returns-clause-some : goal.returns-clause-some
returns-clause-some c =
    subst (λ x. IsEntryBelow (λ y. IsSome (map.get c.args.self.now y)) (option_copied c.args.last) (option_copied c.args.bound) (Some x))
    (sym (c.self.invariant (string_bytes c.in_ok-_key._key.now) c.in_ok-_key.answer.now c.in_ok-_key.ensures.value))
    (entry_same (get_by_text c.self.inside.entries) (map.get c.args.self.now)
    (λ y. same_names c.self.inside.entries y ∙ ap (λ m. is_some (map.get m y)) c.self.view_is) (option_copied c.args.last)
    (option_copied c.args.bound) (Some (string_bytes c.in_ok-_key._key.now)) c.in_ok-_key.ensures.some)

pub returns-clause-value : goal.returns-clause-value
returns-clause-value c =
    ap (λ m. map.get m c.in_ok-_key.answer.now.name) (sym c.self.view_is) ∙ get_number c.self.inside.entries c.in_ok-_key.answer.now.name
    ∙ ap (option_map (λ (s : Answer). s.number))
    (ap (get_by_text c.self.inside.entries)
    (c.self.invariant (string_bytes c.in_ok-_key._key.now) c.in_ok-_key.answer.now c.in_ok-_key.ensures.value) ∙
    c.in_ok-_key.ensures.value)
