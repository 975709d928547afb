-- A table of fids: a finite map from numbers, and how many fids more it can take without memory.
use Rattle.std.specs.Prelude.{◌≡◌, ℕ, ◌-◌, ◌≤◌, min, List, Option, Some, None, Result, Ok, Err}
use Rattle.std.specs.Prelude.{IsOk, IsErrOf, length, nat_eq, refl}
use Rattle.std.specs.Coded.{Coded, code_by, coded×, coded_ℕ}
use Rattle.std.specs.FinMap.{FinMap, code, entries, from_entries, get}
use Rattle.std.specs.List.{IsDistinct, find}
use Rattle.std.specs.Map.{keys_of, lookup}
use Rattle.std.specs.Option.{option_map}
use Rattle.std.specs.Ordering.{nat_cmp}
use Rattle.cs_names.specs.declared.limits.TheConstants.{FIDS}
use Rattle.cs_fids.specs.Entries.{is_open}
use Rattle.cs_fids.specs.FidOf.{FidOf}
use Rattle.cs_fids.specs.contracts.entry.FidEntry as row
use Rattle.cs_fids.specs.declared.entry.FidEntry.{FidEntry}
use Rattle.cs_fids.specs.declared.entry.FidEntry.TheVariants as entry
use Rattle.cs_fids.specs.declared.fault.FidFault.{FidFault}
use Rattle.cs_fids.specs.declared.fault.FidFault.TheVariants.{Unknown, AlreadyOpen, NotOpen}
use Rattle.cs_fids.specs.declared.fid.TheConstants.{NOFID}
use Rattle.cs_fids.specs.declared.fid.Walked.{Walked}
use Rattle.cs_fids.specs.declared.fid.Opened.{Opened}

-- the entries by the numbers of their fids
abbrev pub FidMap : Type 0
FidMap = FinMap nat_cmp FidEntry

-- the entries, and how many fids more there is room for
pub record Fids : Type 0 where
  pub fids : FidMap
  pub room : ℕ

abbrev pub fids_code : Coded Fids
fids_code =
    code_by (FidMap × ℕ) (coded× (code coded_ℕ row.the_row.coded) coded_ℕ)
    (λ table. (table.fids, table.room)) (λ parts. record {
      fids = parts.0;
      room = parts.1;
    }) (λ _. refl)

-- the entry of the number, if the table has one
abbrev pub fid_at : Fids → ℕ → Option FidEntry
fid_at table fid = get table.fids fid

-- the fid that is there and isn't open, or why there is none
abbrev pub walked_in : Option FidEntry → Result (FidOf Walked) FidFault
walked_in None = Err Unknown
walked_in (Some (entry.Walked fid)) = Ok fid
walked_in (Some (entry.Opened fid)) = Err AlreadyOpen

-- the fid that is there and is open, or why there is none
abbrev pub opened_in : Option FidEntry → Result (FidOf Opened) FidFault
opened_in None = Err Unknown
opened_in (Some (entry.Walked fid)) = Err NotOpen
opened_in (Some (entry.Opened fid)) = Ok fid

-- the result is Ok if that search found its fid, and else has its fault
abbrev pub FailsAs : {A F : Type 0} → Result A FidFault → Result F FidFault → Type 0
FailsAs result (Ok fid) = IsOk result
FailsAs result (Err fault) = IsErrOf result fault

-- the number of an entry's fid
abbrev pub fid_of : ℕ × FidEntry → ℕ
fid_of e = e.0

-- the number of the first open fid among these
abbrev pub first_open : List (ℕ × FidEntry) → Option ℕ
first_open list = option_map fid_of (find (λ e. is_open e.1) list)

-- the least number of an open fid, since a map's entries ascend
abbrev pub least_open : FidMap → Option ℕ
least_open fids = first_open (entries fids)

-- the map of entries in any order, each number of which occurs once
abbrev pub map_of : List (ℕ × FidEntry) → FidMap
map_of list = from_entries list

-- these can be a table's entries: at most FIDS, none under NOFID, and each number occurs once
pub record AreFids (list : List (ℕ × FidEntry)) : Type 0 where
  pub few : length list ≤ FIDS
  pub nofid : lookup (nat_eq NOFID) list ≡ None
  pub distinct : IsDistinct nat_eq (keys_of list)

-- the room for more entries than these, if there is memory for so many more
abbrev pub room_beside : List (ℕ × FidEntry) → ℕ → ℕ
room_beside list spare = min spare (FIDS - length list)
