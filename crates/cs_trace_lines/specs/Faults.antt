-- What is read of a line, or why it isn't.
use Rattle.std.specs.Prelude.{◌≡◌, MatchResult, Option, None, Some, Result}
use Rattle.cs_trace_lines.specs.declared.fault.LineFault.{LineFault}
use Rattle.cs_trace_lines.specs.declared.fault.LineFault.TheVariants.{Syntax}

-- the result is what the line says, or Syntax if it says nothing; or out of memory in any case
abbrev pub IsRead : {A B : Type 0} → (A → B) → Option B → Result A LineFault → Type 0
IsRead said line result =
    MatchResult result (λ a. line ≡ Some (said a)) (λ fault. fault ≡ Syntax → line ≡ None)
