-- An open and a create: the fid is open then (open(5)).
use Rattle.std.specs.Prelude.{ℕ, List, Option, None, Some, option_and_then, option_map}
use Rattle.std.specs.FinMap.{insert}
use Rattle.cs_fids.specs.declared.entry.FidEntry.TheVariants as entry
use Rattle.cs_fids.specs.declared.fid.Walked.{Walked}
use Rattle.cs_fids.specs.FidOf.{FidOf}
use Rattle.cs_fids.specs.Fids.{moved_to, opened_fid}
use Rattle.cs_fids.specs.Tables.{FidMap}
use Rattle.cs_permit.specs.declared.call.Call.TheVariants as c
use Rattle.cs_run.specs.declared.answer.Answer.{Answer}
use Rattle.cs_run.specs.declared.answer.Answer.TheVariants as a
use Rattle.cs_session.specs.declared.message.CreateMessage.{CreateMessage}
use Rattle.cs_session.specs.declared.message.OpenMessage.{OpenMessage}
use Rattle.cs_session.specs.declared.reply.Reply.{Reply}
use Rattle.cs_session.specs.declared.reply.Reply.TheVariants as r
use Rattle.cs_session.specs.Names.{file_in}
use Rattle.cs_session.specs.Decisions.{refusal, walked_at}
use Rattle.cs_session.specs.Questions.{Question, CallOn}

abbrev pub open_question : ℕ → FidMap → OpenMessage → Option Question
open_question now fids message =
    option_map (λ f. CallOn now f.run f.pass
    (c.Open (record { number = f.number; user = f.user; mode = message.mode })))
    (walked_at fids message.fid)

-- the fid is that of the file that was opened, or made, and is open
abbrev pub open_left : FidMap → ℕ → Option (FidOf Walked) → ℕ → ℕ → ℕ → FidMap
open_left fids fid None mode open_number number = fids
open_left fids fid (Some f) mode open_number number =
    insert fids fid (entry.Opened (opened_fid (moved_to f number) mode open_number))

abbrev pub open_after : FidMap → ℕ → ℕ → Answer → Reply × FidMap
open_after fids fid mode (a.Opened qid open_number number) =
    (r.Open qid, open_left fids fid (walked_at fids fid) mode open_number number)
open_after fids fid mode answer = (refusal answer, fids)

-- ---- create

-- the question of a create, once its name is known to be a file's
abbrev pub create_named : ℕ → FidMap → CreateMessage → List ℕ → Option Question
create_named now fids message name =
    option_map (λ f. CallOn now f.run f.pass
    (c.Create (record {
      number = f.number;
      user = f.user;
      name = name;
      perm = message.perm;
      mode = message.mode;
    }))) (walked_at fids message.fid)

abbrev pub create_question : ℕ → FidMap → CreateMessage → Option Question
create_question now fids message =
    option_and_then (create_named now fids message) (file_in message.name)

abbrev pub create_after : FidMap → ℕ → ℕ → Answer → Reply × FidMap
create_after fids fid mode (a.Opened qid open_number number) =
    (r.Create qid, open_left fids fid (walked_at fids fid) mode open_number number)
create_after fids fid mode answer = (refusal answer, fids)
