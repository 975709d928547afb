-- A read and a write (read(5)).
use Rattle.std.specs.Prelude.{ℕ, ◌-◌, min, Bool, false, Option, None, Some, is_some, unwrap_or}
use Rattle.std.specs.Prelude.{option_map}
use Rattle.std.specs.FinMap.{insert}
use Rattle.std.specs.Option.{option_map_or}
use Rattle.cs_fids.specs.declared.entry.FidEntry.TheVariants as entry
use Rattle.cs_fids.specs.declared.fid.Opened.{Opened}
use Rattle.cs_fids.specs.declared.place.Place.{Place}
use Rattle.cs_fids.specs.FidOf.{FidOf}
use Rattle.cs_fids.specs.Fids.{with_place}
use Rattle.cs_fids.specs.Tables.{FidMap}
use Rattle.cs_permit.specs.declared.call.Call.TheVariants as c
use Rattle.cs_run.specs.declared.answer.Answer.{Answer}
use Rattle.cs_run.specs.declared.answer.Answer.TheVariants as a
use Rattle.cs_session.specs.declared.message.ReadMessage.{ReadMessage}
use Rattle.cs_session.specs.declared.message.WriteMessage.{WriteMessage}
use Rattle.cs_session.specs.declared.reading.TheConstants.{READ_OVERHEAD}
use Rattle.cs_session.specs.declared.reply.Reply.{Reply}
use Rattle.cs_session.specs.declared.reply.Reply.TheVariants as r
use Rattle.cs_session.specs.Decisions.{opened_at, refusal}
use Rattle.cs_session.specs.Questions.{Question, CallOn}

-- ---- read: its count is cut to what a reply of the session holds

-- at most as many bytes as an Rread of that message size holds
abbrev pub read_count : Option ℕ → ℕ → ℕ
read_count msize count = min count (unwrap_or msize 0 - READ_OVERHEAD)

abbrev pub read_question : ℕ → Option ℕ → FidMap → ReadMessage → Option Question
read_question now msize fids message =
    option_map (λ f. CallOn now f.run f.pass
    (c.Read (record {
      number = f.number;
      offset = message.offset;
      count = read_count msize message.count;
      place = f.state.place;
    }))) (opened_at fids message.fid)

-- the place of the fid has a name, whose copy takes memory
abbrev pub copies_name : FidMap → ℕ → Bool
copies_name fids fid = option_map_or (λ f. is_some f.state.place.last) (opened_at fids fid) false

-- the fid's next read of a directory continues at that place; None if the place stays the same
abbrev pub read_left : FidMap → ℕ → Option (FidOf Opened) → Option Place → FidMap
read_left fids fid None place = fids
read_left fids fid (Some f) None = fids
read_left fids fid (Some f) (Some place) = insert fids fid (entry.Opened (with_place f place))

abbrev pub read_after : FidMap → ℕ → Answer → Reply × FidMap
read_after fids fid (a.Data d) = (r.Read d.bytes, read_left fids fid (opened_at fids fid) d.place)
read_after fids fid answer = (refusal answer, fids)

-- ---- write

abbrev pub write_question : ℕ → FidMap → WriteMessage → Option Question
write_question now fids message =
    option_map (λ f. CallOn now f.run f.pass
    (c.Write (record {
      number = f.number;
      user = f.user;
      offset = message.offset;
      bytes = message.bytes;
    }))) (opened_at fids message.fid)

abbrev pub write_reply : Answer → Reply
write_reply (a.Written count) = r.Write count
write_reply answer = refusal answer
