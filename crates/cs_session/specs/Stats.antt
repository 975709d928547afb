-- A stat and a wstat (stat(5)).
use Rattle.std.specs.Prelude.{ℕ, Option, option_map}
use Rattle.std.specs.FinMap.{get}
use Rattle.cs_fids.specs.Entries.{number_of, pass_of, run_of, user_of}
use Rattle.cs_fids.specs.Tables.{FidMap}
use Rattle.cs_permit.specs.declared.call.Call.TheVariants as c
use Rattle.cs_run.specs.declared.answer.Answer.{Answer}
use Rattle.cs_run.specs.declared.answer.Answer.TheVariants as a
use Rattle.cs_session.specs.declared.message.WstatMessage.{WstatMessage}
use Rattle.cs_session.specs.declared.reply.Reply.{Reply}
use Rattle.cs_session.specs.declared.reply.Reply.TheVariants as r
use Rattle.cs_session.specs.Decisions.{refusal}
use Rattle.cs_session.specs.Questions.{Question, CallOn}

-- ---- stat: it names no user, and copies nothing

abbrev pub stat_question : ℕ → FidMap → ℕ → Option Question
stat_question now fids fid =
    option_map (λ e. CallOn now (run_of e) (pass_of e) (c.Stat (record { number = number_of e })))
    (get fids fid)

abbrev pub stat_reply : Answer → Reply
stat_reply (a.Stat stat) = r.Stat stat
stat_reply answer = refusal answer

-- ---- wstat

abbrev pub wstat_question : ℕ → FidMap → WstatMessage → Option Question
wstat_question now fids message =
    option_map (λ e. CallOn now (run_of e) (pass_of e)
    (c.Wstat (record { number = number_of e; user = user_of e; stat = message.stat })))
    (get fids message.fid)

abbrev pub wstat_reply : Answer → Reply
wstat_reply a.Changed = r.Wstat
wstat_reply answer = refusal answer
