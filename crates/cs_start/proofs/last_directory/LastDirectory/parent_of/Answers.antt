use Rattle.std.proofs.Common.{◌≡◌, ◌≤◌, rules, arith, ap, sym, subst, ◌∙◌, length}
use Rattle.std.specs.String.{string_bytes}
use Rattle.cs_tree_model.specs.Tree.{parent_path}
use Rattle.cs_start.specs.Names.{IsFront}
use Rattle.cs_start.proofs.Spelling.{front_of}
use Rattle.cs_start.proofs.last_directory.LastDirectory.parent_of.Goals as goal

pub invariant_of-result : goal.invariant_of-result
invariant_of-result c =
    let bytes = string_bytes c.in_ok-from_str-in-Some.field-0 in
    let spelled = c.in-Some.spelled in
    let same : spelled ≡ c.in_ok-above.above =
    c.in-Some.ensures.above c.args.text.now c.text.ensures ∙ ap parent_path c.requires
    ∙ sym (c.in_ok-above.ensures ∙ c.parent.ensures ∙ ap parent_path c.names.ensures) in
    let few : c.len.result ≤ 65 = grind (arith, rules) in
    let front : IsFront bytes spelled =
    subst (λ t. IsFront t spelled) (sym c.in_ok-from_str-in-Some.ensures.ok)
    (front_of c.text-in-Some.result.now spelled c.text-in-Some.ensures c.in-Some.ensures.some) in
    (subst (λ p. IsFront bytes p) same front, c.len.ensures ∙ ap length same, few)
