-- The lines of a script that are read one after another.
use Rattle.std.proofs.Common.{◌≡◌, ℕ, List, [], ◌∷◌, ◌++◌, Option, None, Some, sym, ap, ◌∙◌, append_assoc, refl}
use Rattle.std.specs.Option.{option_map}
use Rattle.std.specs.Prelude.{Result, Ok, Err}
use Rattle.cs_inputs.specs.declared.fault.ProgramFault.{ProgramFault}
use Rattle.cs_inputs.specs.declared.fault.ProgramFault.TheVariants.{Script}
use Rattle.cs_script.specs.declared.script.ScriptLine.{ScriptLine}
use Rattle.cs_script.specs.Scripts.{with_lines_first, with_line}

behind_more : (lines more : List ScriptLine) (later : Result (List ScriptLine) ProgramFault)
    → with_lines_first (lines ++ more) later ≡ with_lines_first lines (with_lines_first more later)
behind_more lines more (Ok others) = ap Ok (append_assoc lines more others)
behind_more lines more (Err fault) = refl

-- a line that is kept
pub line_kept : (lines now : List ScriptLine) (number : ℕ) (at : Option ScriptLine) (later : Result (List ScriptLine) ProgramFault)
    → option_map (λ line. lines ++ line ∷ []) at ≡ Some now
    → with_lines_first now later ≡ with_lines_first lines (with_line number at later)
line_kept lines now number None later e = absurd (cc)
line_kept lines now number (Some line) later e =
    (let same : lines ++ line ∷ [] ≡ now = cc in ap (λ ls. with_lines_first ls later) (sym same) ∙ behind_more lines (line ∷ []) later)

-- a line that is none
pub line_refused : (lines : List ScriptLine) (number : ℕ) (at : Option ScriptLine) (later : Result (List ScriptLine) ProgramFault)
    → at ≡ None → with_lines_first lines (with_line number at later) ≡ Err (Script number)
line_refused lines number at later e = ap (λ o. with_lines_first lines (with_line number o later)) e
