-- What is printed of the runs at the end: a line for each, with its audit.
use Rattle.std.specs.Prelude.{◌≡◌, ℕ, All, List, ◌++◌, codes, decimal, length, map}
use Rattle.std.specs.Prelude.{Option, None, Some, Result, Ok, Err}
use Rattle.std.specs.List.{flat_map}
use Rattle.std.specs.List.Sorted.{IsPermutation, IsSorted}
use Rattle.cs_journal.specs.Audit.{Audits}
use Rattle.cs_journal.specs.Runs.{PassOf, RunOf}
use Rattle.cs_journal.specs.declared.auditing.AuditFault.{AuditFault}
use Rattle.cs_journal.specs.declared.auditing.AuditFault.TheVariants.{Count, Missing, Changed}
use Rattle.cs_registry.specs.Keys.{Key}
use Rattle.cs_connection.specs.Given.{Given, passes_of}
use Rattle.cs_shared_runs.specs.Answers.{IsLookOf}
use Rattle.cs_shared_runs.specs.Naming.{key_cmp}
use Rattle.cs_shared_runs.specs.Serving.{HasRuns}
use Rattle.cs_serve.specs.declared.summary.RunReport.{RunReport}

-- an audit's result in words
abbrev pub verdict_text : Result (Unit {0}) AuditFault → List ℕ
verdict_text (Ok x) = codes "ok"
verdict_text (Err Count) = codes "count"
verdict_text (Err (Missing place)) = codes "missing " ++ decimal place
verdict_text (Err (Changed place)) = codes "changed " ++ decimal place

-- how many entries the journal of a run has, and its audit; foreign if the run was of another
-- number
abbrev pub finding_text : Option (ℕ × Result (Unit {0}) AuditFault) → List ℕ
finding_text None = codes "foreign"
finding_text (Some finding) =
    codes "entries " ++ (decimal finding.0 ++ (codes " audit " ++ verdict_text finding.1))

-- the line of a run: the number of its state, its name, and what is printed of it
abbrev pub run_line : RunReport → List ℕ
run_line report =
    codes "run " ++ (decimal report.key.number ++ (codes "/" ++ (report.key.name
    ++ (codes " " ++ (finding_text report.finding ++ codes "\n")))))

-- the run has so many entries, and the audit of its journal by these passes has this result
abbrev pub IsAudit : List PassOf → RunOf → ℕ × Result (Unit {0}) AuditFault → Type 0
IsAudit passes run finding = (finding.0 ≡ length run.journal) × Audits passes run.journal finding.1

-- what is printed is of a run that the server has under the number of the key, audited by the
-- passes that were kept for that key
abbrev pub IsReport : HasRuns → Given → RunReport → Type 0
IsReport serves given report =
    IsLookOf serves report.key.number (IsAudit (passes_of given report.key)) report.finding

-- The text has the line of each key's run, in the order of the keys.
pub record AreReported (serves : HasRuns) (given : Given) (keys : List Key) (text : List ℕ)
    : Type 0 where
  pub reports : List RunReport
  pub of_keys : map (λ report. report.key) reports ≡ keys
  pub each : All (IsReport serves given) reports
  pub text_is : text ≡ flat_map run_line reports

-- the keys of all these runs, in their order, with their lines
pub record IsSummary (serves : HasRuns) (given : Given) (runs : List Key) (text : List ℕ)
    : Type 0 where
  pub keys : List Key
  pub all : IsPermutation runs keys
  pub sorted : IsSorted key_cmp keys
  pub reported : AreReported serves given keys text
