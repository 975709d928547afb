use Rattle.std.proofs.Common.{◌≡◌, ap, ◌∙◌, Bool, true, false, sym}
use Rattle.std.proofs.lemmas.Result.{IfOk-weaker}
use Rattle.std.specs.Prelude.{codes, if◌then◌else◌, string_bytes}
use Rattle.std.specs.Str.{is_utf8}
use Rattle.cs_list.specs.Json.{quoted, quoted_text}
use Rattle.cs_list.proofs.json.quoted_text.Goals as goal

pub returns-in-Some : goal.returns-in-Some
returns-in-Some c =
    let bytes = c.args.bytes.now in
    let text = c.in-Some.text.now in
    let valid : is_utf8 bytes ≡ true = c.in-Some.ensures.text in
    let chosen : quoted_text bytes ≡ quoted bytes = ap (λ (b : Bool). if b then quoted bytes else codes "null") valid in
    let same : text ≡ bytes = c.in-Some.ensures.some in
    IfOk-weaker c.quoted_name.result (λ t. string_bytes t ≡ quoted text) (λ t. string_bytes t ≡ quoted_text bytes)
    (λ t e. e ∙ ap quoted same ∙ sym chosen) c.quoted_name.ensures

pub returns-in-None : goal.returns-in-None
returns-in-None c =
    let bytes = c.args.bytes.now in
    let none : is_utf8 bytes ≡ false = c.in-None.ensures.none in
    let chosen : quoted_text bytes ≡ codes "null" = ap (λ (b : Bool). if b then quoted bytes else codes "null") none in
    IfOk-weaker c.from_str.result (λ t. string_bytes t ≡ codes "null") (λ t. string_bytes t ≡ quoted_text bytes) (λ t e. e ∙ sym chosen)
    c.from_str.ensures.ok
