-- How many entries of a journal a call takes.
use Rattle.std.specs.Prelude.{ℕ, ◌+◌, ◌&&◌, not, nat_lt, Bool, true, false, List, Option, is_some}
use Rattle.std.specs.Prelude.{option_and_then, length, if◌then◌else◌}
use Rattle.cs_names.specs.declared.limits.TheConstants.{JOURNAL_ENTRIES}
use Rattle.cs_permit.specs.declared.call.Call.{Call}
use Rattle.cs_permit.specs.declared.call.Call.TheVariants.{Close}
use Rattle.cs_permit.specs.declared.call.OpenFile.{OpenFile}
use Rattle.cs_run.specs.Effects.{removes_file}
use Rattle.cs_run.specs.Laws.{opens_one}
use Rattle.cs_run.specs.Opens.{open_numbered}
use Rattle.cs_run.specs.Outcomes.{closed_open_number}
use Rattle.cs_journal.specs.Journals.{RunState}

-- the open that a call ends, if it is there under the pass: the entry of that call is reserved
abbrev pub open_that_ends : List OpenFile → ℕ → Call → Option OpenFile
open_that_ends opens pass call =
    option_and_then (λ number. open_numbered number pass opens) (closed_open_number call)

-- how many entries a call takes that are not reserved: its own, and for an open or a create that
-- of the close
abbrev pub charge : List OpenFile → ℕ → Call → ℕ
charge opens pass call =
    if is_some (open_that_ends opens pass call) then 0 else if opens_one call then 2 else 1

-- there is no room for what a call takes
abbrev pub is_full : RunState → ℕ → Call → Bool
is_full state pass call =
    nat_lt JOURNAL_ENTRIES (state.entries + length state.opens + charge state.opens pass call)

-- it is a close
abbrev pub is_close : Call → Bool
is_close (Close c) = true
is_close other = false

-- a close whose open is there, and that removes nothing
abbrev pub closes_plainly : RunState → ℕ → Call → Bool
closes_plainly state pass call =
    is_close call && (is_some (open_that_ends state.opens pass call)
    && not (removes_file state.tree (open_that_ends state.opens pass call)))
