-- The message for a text that is no trace.
use Rattle.std.specs.Prelude.{ℕ, List, ◌++◌, codes, decimal}
use Rattle.cs_trace.specs.declared.fault.TraceFaultKind.{TraceFaultKind}
use Rattle.cs_trace.specs.declared.fault.TraceFaultKind.TheVariants.{Syntax, UnknownOp, BadName}
use Rattle.cs_trace.specs.declared.fault.TraceFaultKind.TheVariants.{NoParent, NotDir, Exists}
use Rattle.cs_trace.specs.declared.fault.TraceFaultKind.TheVariants.{Missing, NotFile, NotEmpty}
use Rattle.cs_trace.specs.declared.fault.TraceFaultKind.TheVariants.{TooLarge, Memory}

abbrev pub kind_text : TraceFaultKind → List ℕ
kind_text Syntax = codes "Syntax"
kind_text UnknownOp = codes "UnknownOp"
kind_text BadName = codes "BadName"
kind_text NoParent = codes "NoParent"
kind_text NotDir = codes "NotDir"
kind_text Exists = codes "Exists"
kind_text Missing = codes "Missing"
kind_text NotFile = codes "NotFile"
kind_text NotEmpty = codes "NotEmpty"
kind_text TooLarge = codes "TooLarge"
kind_text Memory = codes "out of memory"

-- the line's number, and what is wrong there
abbrev pub line_text : ℕ → List ℕ → List ℕ
line_text line kind = codes "trace line " ++ (decimal line ++ (codes ": " ++ kind))

-- out of memory names no line
abbrev pub fault_text : ℕ → TraceFaultKind → List ℕ
fault_text line Memory = kind_text Memory
fault_text line kind = line_text line (kind_text kind)
