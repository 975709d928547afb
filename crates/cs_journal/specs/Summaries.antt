-- Calls without the bytes that they write.
use Rattle.std.specs.Prelude.{[], map, option_map, string_bytes}
use Rattle.cs_permit.specs.declared.call.Call.{Call}
use Rattle.cs_permit.specs.declared.call.Call.TheVariants as call
use Rattle.cs_permit.specs.Sent.{sent_of}
use Rattle.cs_journal.specs.declared.summary.CallSummary.{CallSummary}
use Rattle.cs_journal.specs.declared.summary.CallSummary.TheVariants as s

-- the call without the bytes that it writes
abbrev pub without_bytes : Call → Call
without_bytes (call.Write c) =
    call.Write (record { number = c.number; user = c.user; offset = c.offset; bytes = [] })
without_bytes other = other

-- the call in a summary
abbrev pub call_in : CallSummary → Call
call_in (s.Attach user) = call.Attach (record { user = user.now })
call_in (s.Walk number user names) =
    call.Walk (record { number = number; user = user.now; names = map string_bytes names.now })
call_in (s.Open number user mode) =
    call.Open (record { number = number; user = user.now; mode = mode })
call_in (s.Create number user name perm mode) =
    call.Create (record {
      number = number;
      user = user.now;
      name = name.now;
      perm = perm;
      mode = mode;
    })
call_in (s.Read number offset count end last) = call.Read (record {
  number = number;
  offset = offset;
  count = count;
  place = record { end = end; last = option_map (λ name. name.now) last };
})
call_in (s.Write number user offset) =
    call.Write (record { number = number; user = user.now; offset = offset; bytes = [] })
call_in (s.Close open_number user) =
    call.Close (record { open_number = open_number; user = user.now })
call_in (s.Remove number user open_number) =
    call.Remove (record { number = number; user = user.now; open_number = open_number })
call_in (s.Stat number) = call.Stat (record { number = number })
call_in (s.Wstat number user stat) =
    call.Wstat (record { number = number; user = user.now; stat = sent_of stat.now })
