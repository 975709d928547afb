use Rattle.std.proofs.Common.{◌≡◌, ℕ, ◌+◌, ◌==◌, ◌&&◌, false, not, Bool, List, [], ◌∷◌, length, filter, map, is_some, Option, Some, None}
use Rattle.std.proofs.Common.{option_map, sym, ap, ◌∙◌, rules, arith}
use Rattle.std.specs.Int.{from_bool}
use Rattle.cs_trace_lines.specs.Reading.{field_value}
use Rattle.cs_trace_lines.specs.declared.fields.Field.{Field}
use Rattle.cs_trace_lines.proofs.fields.Fields.has_keys.Goals as goal

-- n, and one more for each field that is there, from the left as the program adds them
abbrev sum_from : ℕ → List (Option Field) → ℕ
sum_from n [] = n
sum_from n (f ∷ fields) = sum_from (n + from_bool (is_some f)) fields

abbrev saying : List (Option Field) → ℕ
saying fields = length (filter is_some (map (option_map field_value) fields))

-- as many are there as say something
present : (n : ℕ) (fields : List (Option Field)) → sum_from n fields ≡ n + saying fields
present n [] = omega arith
present n (None ∷ fields) = present (n + 0) fields ∙ omega arith
present n (Some f ∷ fields) = present (n + 1) fields ∙ omega arith

all_present : (f : Option Field) (fields : List (Option Field)) → sum_from (from_bool (is_some f)) fields ≡ saying (f ∷ fields)
all_present None fields = present 0 fields ∙ omega arith
all_present (Some f) fields = present 1 fields ∙ omega arith

one : {r : ℕ} {b a : Bool} → r ≡ from_bool b → b ≡ a → r ≡ from_bool a
one gives is = gives ∙ ap from_bool is

pub returns-then-not-self : goal.returns-then-not-self
returns-then-not-self c =
    let s = c.args.self.now in
    let fields : List (Option Field) =
    s.profile ∷ s.block ∷ s.start ∷ s.op ∷ s.path ∷ s.from ∷ s.to ∷ s.owner ∷ s.group ∷ s.mode ∷ s.bytes ∷ s.offset ∷ s.length
    ∷ s.text ∷ s.target ∷ s.parts ∷ s.at ∷ [] in
    let summed : _ ≡ sum_from (from_bool (is_some s.trace)) fields =
    λ i. one c.from.ensures c.is_some.ensures i + one c.from-2.ensures c.is_some-2.ensures i
    + one c.from-3.ensures c.is_some-3.ensures i + one c.from-4.ensures c.is_some-4.ensures i
    + one c.from-5.ensures c.is_some-5.ensures i + one c.from-6.ensures c.is_some-6.ensures i
    + one c.from-7.ensures c.is_some-7.ensures i + one c.from-8.ensures c.is_some-8.ensures i
    + one c.from-9.ensures c.is_some-9.ensures i + one c.from-10.ensures c.is_some-10.ensures i
    + one c.from-11.ensures c.is_some-11.ensures i + one c.from-12.ensures c.is_some-12.ensures i
    + one c.from-13.ensures c.is_some-13.ensures i + one c.from-14.ensures c.is_some-14.ensures i
    + one c.from-15.ensures c.is_some-15.ensures i + one c.from-16.ensures c.is_some-16.ensures i
    + one c.from-17.ensures c.is_some-17.ensures i + one c.from-18.ensures c.is_some-18.ensures i in
    let known : s.has_others ≡ false = search rules in
    ap (λ n. n == c.args.count) (summed ∙ all_present s.trace fields) ∙ ap
    (λ b. not b && (saying (s.trace ∷ fields) == c.args.count)) (sym known)
