use Rattle.std.proofs.Common.{◌≡◌, sym, subst, ◌∙◌, true}
use Rattle.std.proofs.lemmas.Str.{IsUtf8-from_ascii}
use Rattle.cs_script.specs.Scripts.{is_decimal, number_in}
use Rattle.cs_script.proofs.Numbers.{decimal_is_ascii, parsed}
use Rattle.cs_script.proofs.script.read_number.Goals as goal

pub returns-in-Ok : goal.returns-in-Ok
returns-in-Ok c =
    let same = c.in-Ok.ensures.cases.0 in
    let alone : is_decimal c.in-Ok.text.now ≡ true = rw same (sym c.if-not-is_decimal.ensures) in
    subst (λ text. c.ok.result ≡ number_in text) same
    (c.ok.ensures.value ∙ parsed c.in-Ok.text.now c.parse.result alone c.parse.ensures.value.0)

pub returns-in-Err : goal.returns-in-Err
returns-in-Err c =
    absurd (c.in-Err.ensures.cases.0 (IsUtf8-from_ascii _ (decimal_is_ascii _ (sym c.if-not-is_decimal.ensures))))
