-- What is true of every connection.
use Rattle.std.specs.Prelude.{◌≡◌, ◌≢◌, ℕ, ◌<◌, ◌≤◌, Option, None, Some}
use Rattle.std.specs.Option.{ForSome}
use Rattle.cs_fids.specs.declared.fid.TheConstants.{NOFID}
use Rattle.cs_fids.specs.Tables.{Fids, fid_at}
use Rattle.cs_names.specs.declared.limits.TheConstants.{LEAST_MESSAGE_SIZE, MESSAGE_BYTES}
use Rattle.cs_session.specs.Sessions.{Awaited}

-- a size that a session can have
pub record IsAgreed (size : ℕ) : Type 0 where
  pub least : LEAST_MESSAGE_SIZE ≤ size
  pub most : size ≤ MESSAGE_BYTES

-- the table has room for the fid of the run that awaits its attach, so that it takes no memory
abbrev pub HasPlace : Option Awaited → Fids → Type 0
HasPlace None table = Unit {0}
HasPlace (Some awaited) table =
    (0 < table.room) × (awaited.fid ≢ NOFID) × (fid_at table awaited.fid ≡ None)

pub record IsReady (msize : Option ℕ) (awaited : Option Awaited) (table : Fids) : Type 0 where
  pub agreed : ForSome msize IsAgreed
  pub place : HasPlace awaited table
