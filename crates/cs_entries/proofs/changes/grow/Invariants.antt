use Rattle.std.proofs.Common.{◌≡◌, suc, ◌-◌, vec_len}
use Rattle.cs_entries.specs.Directories.{entries_in}
use Rattle.cs_entries.specs.Entries.{Entry}
use Rattle.cs_entries.proofs.changes.grow.Given as goal

-- the maps that were added hold nothing
abbrev pub invariant-maps : goal.invariant-maps
invariant-maps l = (e : Entry) → entries_in l.directories.items e ≡ entries_in l.fn.directories.items e

abbrev pub decreases-maps : goal.decreases-maps
decreases-maps l = suc l.directory - vec_len l.directories
