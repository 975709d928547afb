-- A walk: from a fid that isn't open to a new one, or to itself (walk(5)).
use Rattle.std.specs.Prelude.{ℕ, Option, None, Some, is_some, if◌then◌else◌, option_map}
use Rattle.std.specs.FinMap.{insert}
use Rattle.cs_fids.specs.declared.entry.FidEntry.TheVariants as entry
use Rattle.cs_fids.specs.declared.fid.Walked.{Walked}
use Rattle.cs_fids.specs.FidOf.{FidOf}
use Rattle.cs_fids.specs.Fids.{moved_to}
use Rattle.cs_fids.specs.Tables.{FidMap}
use Rattle.cs_permit.specs.declared.call.Call.TheVariants as c
use Rattle.cs_run.specs.declared.answer.Answer.{Answer}
use Rattle.cs_run.specs.declared.answer.Answer.TheVariants as a
use Rattle.cs_run.specs.Walks.{WalkResult}
use Rattle.cs_session.specs.declared.message.WalkMessage.{WalkMessage}
use Rattle.cs_session.specs.declared.reply.Reply.{Reply}
use Rattle.cs_session.specs.declared.reply.Reply.TheVariants as r
use Rattle.cs_session.specs.Decisions.{refusal, walked_at}
use Rattle.cs_session.specs.Questions.{Question, CallOn}

abbrev pub walk_question : ℕ → FidMap → WalkMessage → Option Question
walk_question now fids message =
    option_map (λ f. CallOn now f.run f.pass
    (c.Walk (record { number = f.number; user = f.user; names = message.names })))
    (walked_at fids message.fid)

-- the new fid is that of the last file; a walk that a rule stopped makes and moves no fid
abbrev pub walk_left : FidMap → ℕ → Option (FidOf Walked) → WalkResult → FidMap
walk_left fids newfid None way = fids
walk_left fids newfid (Some f) way =
    if is_some way.stopped then fids else insert fids newfid (entry.Walked (moved_to f way.last))

abbrev pub walk_after : FidMap → ℕ → ℕ → Answer → Reply × FidMap
walk_after fids fid newfid (a.Walked way) =
    (r.Walk way, walk_left fids newfid (walked_at fids fid) way)
walk_after fids fid newfid answer = (refusal answer, fids)
