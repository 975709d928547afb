-- The fid that a call of a connection is made for.
use Rattle.std.specs.Prelude.{◌≡◌, ℕ, IfSome, List, Option, None, Some, option_map}
use Rattle.cs_fids.specs.Entries.{as_opened, number_of, pass_of, run_of, user_of}
use Rattle.cs_fids.specs.declared.entry.FidEntry.{FidEntry}
use Rattle.cs_permit.specs.declared.call.Call.{Call}
use Rattle.cs_permit.specs.declared.call.Call.TheVariants as c
use Rattle.cs_session.specs.Sessions.{SessionState, entry_at}

-- the user that a call names: a read and a stat name none, since they need no right of a user, and
-- an attach names one that isn't known yet
abbrev pub user_named : Call → Option (List ℕ)
user_named (c.Walk call) = Some call.user
user_named (c.Open call) = Some call.user
user_named (c.Create call) = Some call.user
user_named (c.Write call) = Some call.user
user_named (c.Close call) = Some call.user
user_named (c.Remove call) = Some call.user
user_named (c.Wstat call) = Some call.user
user_named _ = None

-- the number of the file that a call names: a close names an open, and an attach the root
abbrev pub file_named : Call → Option ℕ
file_named (c.Walk call) = Some call.number
file_named (c.Open call) = Some call.number
file_named (c.Create call) = Some call.number
file_named (c.Read call) = Some call.number
file_named (c.Write call) = Some call.number
file_named (c.Remove call) = Some call.number
file_named (c.Stat call) = Some call.number
file_named (c.Wstat call) = Some call.number
file_named _ = None

-- the number of the open that a call names
abbrev pub open_named : Call → Option ℕ
open_named (c.Close call) = Some call.open_number
open_named (c.Remove call) = call.open_number
open_named _ = None

-- the number of an entry's open, if it is open
abbrev pub open_of : FidEntry → Option ℕ
open_of e = option_map (λ f. f.state.open_number) (as_opened e)

-- The call is made for a fid of the connection: at this moment, on the fid's run, under its pass,
-- on its file, for its user, and on its open if the call names one.
pub record IsForFid (session : SessionState) (now moment place pass : ℕ)
    (call : Call) : Type 0 where
  pub fid : ℕ
  pub entry : FidEntry
  pub there : entry_at session fid ≡ Some entry
  pub moment_is : moment ≡ now
  pub run_is : place ≡ run_of entry
  pub pass_is : pass ≡ pass_of entry
  pub file_is : IfSome (file_named call) (λ number. number ≡ number_of entry)
  pub user_is : IfSome (user_named call) (λ user. user ≡ user_of entry)
  pub open_is : IfSome (open_named call) (λ number. open_of entry ≡ Some number)
