-- A text that std takes for UTF-8, or not, as a test.
use Rattle.std.proofs.Common.{◌≡◌, ℕ, Bool, false, ◌&&◌, List, not, sym, ap, ◌∙◌}
use Rattle.std.specs.Prelude.{◌==◌}
use Rattle.std.specs.List.{list_any}
use Rattle.std.specs.Str.{IsUtf8}
use Rattle.std.proofs.lemmas.Str.{is_utf8-from_IsUtf8}
use Rattle.cs_names.proofs.Utf8.{is_utf8-invalid}
use Rattle.cs_wire.specs.Fields.{is_text}

pub not_text : (bs : List ℕ) → (IsUtf8 bs → ⊥) → is_text bs ≡ false
unfolding is_text
not_text bs never = ap (λ (b : Bool). b && not (list_any (λ x. x == 0) bs)) (is_utf8-invalid bs never)

pub text_is : (bs : List ℕ) (b : Bool) → IsUtf8 bs → b ≡ list_any (λ x. x == 0) bs → is_text bs ≡ not b
unfolding is_text
text_is bs b valid e = ap (λ (u : Bool). u && not (list_any (λ x. x == 0) bs)) (is_utf8-from_IsUtf8 bs valid) ∙ ap not (sym e)
