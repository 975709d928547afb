-- A fault of the users file as the program prints it.
use Rattle.std.specs.Prelude.{ℕ, List, ◌++◌, codes, decimal}
use Rattle.cs_users.specs.declared.fault.UsersFault.{UsersFault}
use Rattle.cs_users.specs.declared.fault.UsersFault.TheVariants.{NotText, FieldCount, EmptyName}
use Rattle.cs_users.specs.declared.fault.UsersFault.TheVariants.{LongName, Twice, Memory}

-- the line's number, and what is wrong there
abbrev pub line_text : ℕ → List ℕ → List ℕ
line_text line kind = codes "users line " ++ (decimal line ++ (codes ": " ++ kind))

-- the whole text
abbrev pub fault_text : UsersFault → List ℕ
fault_text NotText = codes "users: NotText"
fault_text (FieldCount line) = line_text line (codes "FieldCount")
fault_text (EmptyName line) = line_text line (codes "EmptyName")
fault_text (LongName line) = line_text line (codes "LongName")
fault_text (Twice line) = line_text line (codes "Twice")
fault_text Memory = codes "out of memory"
