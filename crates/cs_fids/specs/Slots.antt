-- The slot of a fid in a table, with its entry.
use Rattle.std.specs.Prelude.{[], Option, None, Some}
use Rattle.cs_fids.specs.Fids.{walked_fid}
use Rattle.cs_fids.specs.declared.entry.FidEntry.{FidEntry}
use Rattle.cs_fids.specs.declared.entry.FidEntry.TheVariants.{Walked}

-- the entry; any entry for a place without one, which no call leaves
abbrev pub entry_in : Option FidEntry → FidEntry
entry_in (Some entry) = entry
entry_in None = Walked (walked_fid 0 0 0 [])
