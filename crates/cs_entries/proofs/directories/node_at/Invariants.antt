use Rattle.std.proofs.Common.{◌≡◌, Some}
use Rattle.cs_entries.specs.Directories.{entries_in}
use Rattle.cs_entries.specs.Paths.{at_path, down}
use Rattle.cs_entries.proofs.directories.node_at.Given as goal

-- the rest of the names leads from here to where all of them lead
abbrev pub invariant-loop-name : goal.invariant-loop-name
invariant-loop-name l =
    at_path (entries_in l.directories) l.fn.names
    ≡ down (entries_in l.directories) (Some l.node) l.name-iterator
