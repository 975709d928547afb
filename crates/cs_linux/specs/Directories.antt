-- The fids that may be on directories.
use Rattle.std.specs.Prelude.{ℕ, ◌==◌, ◌&&◌, Bool, true, Option, Some, None, List, length}
use Rattle.std.specs.Prelude.{if◌then◌else◌, slice_get, ◌-◌}
use Rattle.cs_wire.specs.declared.message.Qid.{Qid}
use Rattle.cs_wire.specs.declared.message.RBody.{RBody}
use Rattle.cs_wire.specs.declared.message.RBody.TheVariants as r
use Rattle.cs_wire.specs.declared.message.TBody.{TBody}
use Rattle.cs_wire.specs.declared.message.TBody.TheVariants as t
use Rattle.cs_linux.specs.Requests.{is_directory}

-- the last file of a walk is a directory, as far as is known: a walk of no name ends at the file
-- from which it began
abbrev pub may_be_directory : Option Qid → Bool
may_be_directory None = true
may_be_directory (Some qid) = is_directory qid

-- a walk of so many names came to its end
abbrev pub came_by : ℕ → ℕ → List Qid → Option ℕ
came_by newfid names files =
    if (length files == names) && may_be_directory (slice_get files (length files - 1))
    then Some newfid else None

-- the fid that an answered request made, and that may be on a directory
abbrev pub came_to_directory : TBody → RBody → Option ℕ
came_to_directory (t.Walk fid newfid wname) (r.Walk wqid) =
    came_by newfid (length wname.items) wqid.items
came_to_directory (t.Walk fid newfid wname) other = None
came_to_directory other reply = None
