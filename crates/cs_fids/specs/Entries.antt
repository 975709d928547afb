-- What an entry of a table has in each of its states.
use Rattle.std.specs.Prelude.{ℕ, Bool, true, false, List, Option, None, Some}
use Rattle.cs_fids.specs.FidOf.{FidOf}
use Rattle.cs_fids.specs.declared.entry.FidEntry.{FidEntry}
use Rattle.cs_fids.specs.declared.entry.FidEntry.TheVariants as entry
use Rattle.cs_fids.specs.declared.fid.Walked.{Walked}
use Rattle.cs_fids.specs.declared.fid.Opened.{Opened}

-- the place of its run at the port
abbrev pub run_of : FidEntry → ℕ
run_of (entry.Walked fid) = fid.run
run_of (entry.Opened fid) = fid.run

-- the place of its pass at the port
abbrev pub pass_of : FidEntry → ℕ
pass_of (entry.Walked fid) = fid.pass
pass_of (entry.Opened fid) = fid.pass

-- the number of its file
abbrev pub number_of : FidEntry → ℕ
number_of (entry.Walked fid) = fid.number
number_of (entry.Opened fid) = fid.number

-- the bytes of its user's name
abbrev pub user_of : FidEntry → List ℕ
user_of (entry.Walked fid) = fid.user
user_of (entry.Opened fid) = fid.user

-- the fid, if it isn't open
abbrev pub as_walked : FidEntry → Option (FidOf Walked)
as_walked (entry.Walked fid) = Some fid
as_walked (entry.Opened fid) = None

-- the fid, if it is open
abbrev pub as_opened : FidEntry → Option (FidOf Opened)
as_opened (entry.Walked fid) = None
as_opened (entry.Opened fid) = Some fid

-- whether it is open
abbrev pub is_open : FidEntry → Bool
is_open (entry.Walked fid) = false
is_open (entry.Opened fid) = true
