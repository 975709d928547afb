-- A connection whose runs have other places.
use Rattle.std.specs.Prelude.{ℕ, option_map}
use Rattle.cs_fids.specs.declared.entry.FidEntry.{FidEntry}
use Rattle.cs_fids.specs.declared.entry.FidEntry.TheVariants as entry
use Rattle.cs_fids.specs.FidOf.{FidOf}
use Rattle.cs_fids.specs.Tables.{FidMap}
use Rattle.cs_session.specs.Sessions.{Awaited, SessionState}
use Rattle.cs_tree_model.specs.Maps.Values.{map_values}

-- the run of a fid has another place
abbrev pub fid_with_places : {S : Type 0} → (ℕ → ℕ) → FidOf S → FidOf S
fid_with_places place fid = record fid { run = place fid.run }

abbrev pub entry_with_places : (ℕ → ℕ) → FidEntry → FidEntry
entry_with_places place (entry.Walked fid) = entry.Walked (fid_with_places place fid)
entry_with_places place (entry.Opened fid) = entry.Opened (fid_with_places place fid)

abbrev pub fids_with_places : (ℕ → ℕ) → FidMap → FidMap
fids_with_places place fids = map_values (entry_with_places place) fids

abbrev pub awaited_with_places : (ℕ → ℕ) → Awaited → Awaited
awaited_with_places place awaited = record awaited { run = place awaited.run }

-- each run of the connection has another place, and nothing else is different
abbrev pub with_places : (ℕ → ℕ) → SessionState → SessionState
with_places place session = record {
  msize = session.msize;
  awaited = option_map (awaited_with_places place) session.awaited;
  fids = fids_with_places place session.fids;
}
