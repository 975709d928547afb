use Rattle.std.proofs.Common.{◌≡◌, ◌+◌, ◌/◌, ◌%◌, [], ◌∷◌, ◌++◌, decimal, length, ap, sym, ◌∙◌, arith, append_assoc, length-append}
use Rattle.std.proofs.lemmas.Fmt.{decimal_step}
use Rattle.cs_every.proofs.Kept.{digits_of_rest}
use Rattle.cs_every.proofs.line.+push_digits.Goals as goal

pub push_digits-requires : goal.push_digits-requires
push_digits-requires t c =
    let n = c.args.number in
    let fewer : length (decimal n) ≡ length (decimal (n / 10)) + 1 = digits_of_rest n (omega arith) (omega arith) in
    (omega arith, omega (arith, fewer))

pub push-requires-2 : goal.push-requires-2
push-requires-2 t c =
    let n = c.args.number in
    let fewer : length (decimal n) ≡ length (decimal (n / 10)) + 1 = digits_of_rest n (omega arith) (omega arith) in
    let long : length c.push_digits.new.text.items ≡ length c.args.text.now.items + length (decimal (n / 10)) =
    ap length c.push_digits.ensures ∙ length-append c.args.text.now.items (decimal (n / 10)) in
    (omega arith, omega (arith, fewer, long))

pub returns : goal.returns
returns t c =
    let n = c.args.number in
    let text = c.args.text.now.items in
    let last = (48 + n % 10) ∷ [] in
    c.push-2.ensures.items ∙ ap (λ v. v ++ last) c.push_digits.ensures ∙ append_assoc text (decimal (n / 10)) last
    ∙ ap (λ v. text ++ v) (sym (decimal_step n (omega arith) (omega arith)))
