-- The error of Linux for each rule, and the text by which its client knows an error.
use Rattle.std.specs.Prelude.{ℕ, List, codes}
use Rattle.cs_names.specs.declared.rule_id.RuleId.{RuleId}
use Rattle.cs_names.specs.declared.rule_id.RuleId.TheVariants.{S1, S2, S3, S4, S5, L1, A1, A2, A3}
use Rattle.cs_names.specs.declared.rule_id.RuleId.TheVariants.{A4, A5, A6, K1, K2, K3, K4, K5, K6}
use Rattle.cs_names.specs.declared.rule_id.RuleId.TheVariants.{K7, K8, O1, O2, O3, O4, O5, O6, O7}
use Rattle.cs_names.specs.declared.rule_id.RuleId.TheVariants.{O8, O9, O10, C1, C2, C3, C4, C5, C6}
use Rattle.cs_names.specs.declared.rule_id.RuleId.TheVariants.{C7, C8, C9, C10, G1, G2, G3, G4, G5}
use Rattle.cs_names.specs.declared.rule_id.RuleId.TheVariants.{E1, E2, E3, E4, M1, M2, M3, M4, M5}
use Rattle.cs_names.specs.declared.rule_id.RuleId.TheVariants.{N1, H1, H2, Q1, Q2, Q3, Q4, Q5, Q6}
use Rattle.cs_names.specs.declared.rule_id.RuleId.TheVariants.{Q7, Q8, Q9, Q10, Q11, Q12, Q13, Q14}
use Rattle.cs_linux.specs.declared.errno.Errno.{Errno}
use Rattle.cs_linux.specs.declared.errno.Errno.TheVariants.{NotPermitted, NoEntry, InputOutput}
use Rattle.cs_linux.specs.declared.errno.Errno.TheVariants.{NoMemory, NoAccess, Exists}
use Rattle.cs_linux.specs.declared.errno.Errno.TheVariants.{NotADirectory, IsADirectory, Invalid}
use Rattle.cs_linux.specs.declared.errno.Errno.TheVariants.{Busy, TooLarge, NoSpace, NotEmpty}

-- the error for a rule
abbrev pub errno_of : RuleId → Errno
errno_of K8 = NoEntry
errno_of A4 = NoEntry
errno_of K7 = NoAccess
errno_of O6 = NoAccess
errno_of O7 = NoAccess
errno_of O8 = NoAccess
errno_of O9 = NoAccess
errno_of C8 = NoAccess
errno_of M4 = NoAccess
errno_of Q6 = NoAccess
errno_of Q9 = NoAccess
errno_of C9 = Exists
errno_of Q7 = Exists
errno_of M5 = NotEmpty
errno_of K6 = NotADirectory
errno_of C7 = NotADirectory
errno_of O5 = IsADirectory
errno_of E4 = TooLarge
errno_of Q10 = TooLarge
errno_of C10 = NoSpace
errno_of A5 = NoSpace
errno_of L1 = NoSpace
errno_of O10 = Busy
errno_of A6 = NotPermitted
errno_of M3 = NotPermitted
errno_of Q3 = NotPermitted
errno_of Q4 = NotPermitted
errno_of Q12 = NotPermitted
errno_of Q13 = NotPermitted
errno_of Q14 = NotPermitted
errno_of A3 = Invalid
errno_of O3 = Invalid
errno_of C3 = Invalid
errno_of C4 = Invalid
errno_of C5 = Invalid
errno_of G4 = Invalid
errno_of G5 = Invalid
errno_of Q5 = Invalid
errno_of Q8 = Invalid
errno_of Q11 = Invalid
errno_of S1 = InputOutput
errno_of S2 = InputOutput
errno_of S3 = InputOutput
errno_of S4 = InputOutput
errno_of S5 = InputOutput
errno_of A1 = InputOutput
errno_of A2 = InputOutput
errno_of K1 = InputOutput
errno_of O1 = InputOutput
errno_of C1 = InputOutput
errno_of G1 = InputOutput
errno_of E1 = InputOutput
errno_of M1 = InputOutput
errno_of N1 = InputOutput
errno_of H1 = InputOutput
errno_of Q1 = InputOutput
errno_of K2 = InputOutput
errno_of K3 = InputOutput
errno_of K4 = InputOutput
errno_of O2 = InputOutput
errno_of C2 = InputOutput
errno_of G2 = InputOutput
errno_of E2 = InputOutput
errno_of K5 = InputOutput
errno_of O4 = InputOutput
errno_of C6 = InputOutput
errno_of G3 = InputOutput
errno_of E3 = InputOutput
errno_of M2 = InputOutput
errno_of H2 = InputOutput
errno_of Q2 = InputOutput

-- the text by which Linux's client knows an error
abbrev pub text_of : Errno → List ℕ
text_of NotPermitted = codes "Operation not permitted"
text_of NoEntry = codes "No such file or directory"
text_of InputOutput = codes "Input/output error"
text_of NoMemory = codes "Cannot allocate memory"
text_of NoAccess = codes "Permission denied"
text_of Exists = codes "File exists"
text_of NotADirectory = codes "Not a directory"
text_of IsADirectory = codes "Is a directory"
text_of Invalid = codes "Invalid argument"
text_of Busy = codes "Text file busy"
text_of TooLarge = codes "File too large"
text_of NoSpace = codes "No space left on device"
text_of NotEmpty = codes "Directory not empty"
