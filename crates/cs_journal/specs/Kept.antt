-- What an entry and a receipt keep in memory of a call: all of it, shared by both; of a write its
-- bytes' piece, and the rest shared; or a small call.
use Rattle.std.specs.Arc.{arc_value}
use Rattle.std.specs.Prelude.{◌<◌, ℕ, List, Option, None, Some}
use Rattle.cs_fids.specs.Fids.{first_place}
use Rattle.cs_names.specs.declared.limits.TheConstants.{RUN_ATTACHES}
use Rattle.cs_permit.specs.declared.call.Call.{Call}
use Rattle.cs_permit.specs.declared.call.Call.TheVariants as call
use Rattle.cs_journal.specs.declared.entry.Entry.{Entry}
use Rattle.cs_journal.specs.declared.kept_call.CallAgain.{CallAgain}
use Rattle.cs_journal.specs.declared.kept_call.CallAgain.TheVariants as a
use Rattle.cs_journal.specs.declared.kept_call.KeptCall.{KeptCall}
use Rattle.cs_journal.specs.declared.kept_call.KeptCall.TheVariants as k
use Rattle.cs_journal.specs.declared.kept_call.WriteHead.{WriteHead}
use Rattle.cs_journal.specs.Journals.{EntryOf}
use Rattle.cs_journal.specs.Written.{IsWithin, bytes_at}

-- a close, a remove, a read whose place is the start, and a write
abbrev pub close_call : ℕ → List ℕ → Call
close_call open_number user = call.Close (record { open_number = open_number; user = user })

abbrev pub remove_call : ℕ → List ℕ → Option ℕ → Call
remove_call number user open_number =
    call.Remove (record { number = number; user = user; open_number = open_number })

abbrev pub read_call : ℕ → ℕ → ℕ → Call
read_call number offset count =
    call.Read (record { number = number; offset = offset; count = count; place = first_place })

abbrev pub write_call : WriteHead → List ℕ → Call
write_call head bytes =
    call.Write (record {
      number = head.number;
      user = head.user;
      offset = head.offset;
      bytes = bytes;
    })

-- a call that is done again
abbrev pub again_call : CallAgain → Call
again_call (a.Own c) = c
again_call (a.Shared c) = c.now

-- the call, if the bytes that it writes are in these blocks
abbrev pub call_of : List (List ℕ) → KeptCall → Call
call_of blocks (k.Shared shared) = arc_value shared
call_of blocks (k.Write piece head) = write_call (arc_value head) (bytes_at blocks piece)
call_of blocks (k.Close open_number user) = close_call open_number user.value
call_of blocks (k.Remove number user) = remove_call number user.value None
call_of blocks (k.RemoveOpen open_number number user) =
    remove_call number user.value (Some open_number)
call_of blocks (k.Read count number offset) = read_call number offset count
call_of blocks (k.Stat number) = call.Stat (record { number = number })

-- the bytes that the kept call writes are in these blocks
abbrev pub LiesIn : List (List ℕ) → KeptCall → Type 0
LiesIn blocks (k.Write piece head) = IsWithin blocks piece
LiesIn blocks other = Unit {0}

-- an entry whose call's bytes are in these blocks
abbrev pub entry_in : List (List ℕ) → Entry → EntryOf
entry_in blocks e = record {
  pass = e.pass;
  moment = e.moment;
  call = call_of blocks e.kept;
  outcome = e.outcome;
}

-- the bytes of the entry's call are in these blocks, and its pass is one that a run may give
pub record IsEntryIn (blocks : List (List ℕ)) (e : Entry) : Type 0 where
  pub few : e.pass < RUN_ATTACHES
  pub within : LiesIn blocks e.kept
