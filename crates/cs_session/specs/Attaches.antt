-- An attach: its run is found, and then attached to (attach(5)).
use Rattle.std.specs.Prelude.{ℕ, Bool, List, Option, None, Some, Result, Ok, Err, option_map}
use Rattle.std.specs.FinMap.{insert}
use Rattle.cs_names.specs.declared.rule_id.RuleId.TheVariants.{A4, A5, A6, S5}
use Rattle.cs_fids.specs.declared.entry.FidEntry.TheVariants as entry
use Rattle.cs_fids.specs.Fids.{walked_fid}
use Rattle.cs_fids.specs.Tables.{FidMap}
use Rattle.cs_permit.specs.Table.{attach_table_rules}
use Rattle.cs_permit.specs.TreeNames.{tree_name_in}
use Rattle.cs_run.specs.declared.answer.Answer.{Answer}
use Rattle.cs_run.specs.declared.answer.Answer.TheVariants as a
use Rattle.cs_wire.specs.declared.message.Qid.{Qid}
use Rattle.cs_session.specs.declared.message.AttachMessage.{AttachMessage}
use Rattle.cs_permit.specs.declared.fault.FindFault.{FindFault}
use Rattle.cs_permit.specs.declared.fault.FindFault.TheVariants as f
use Rattle.cs_permit.specs.declared.fault.PassFault.{PassFault}
use Rattle.cs_permit.specs.declared.fault.PassFault.TheVariants as p
use Rattle.cs_session.specs.declared.reply.Reply.{Reply}
use Rattle.cs_session.specs.declared.reply.Reply.TheVariants as r
use Rattle.cs_session.specs.Decisions.{request_decision, refusal}
use Rattle.cs_session.specs.Questions.{Question, FindRun, AttachTo, PortAnswer, FindAnswer}
use Rattle.cs_session.specs.Questions.{AttachAnswer}
use Rattle.cs_session.specs.Names.{user_in}
use Rattle.cs_session.specs.Sessions.{Awaited, SessionState, with_fids_left, with_awaited}

-- ---- find

abbrev pub find_question : AttachMessage → Option Question
find_question message = option_map (λ name. FindRun name.0 name.1) (tree_name_in message.aname)

abbrev pub find_decision : Bool → Option ℕ → FidMap → AttachMessage → Bool → Result Question Reply
find_decision awaits msize fids message refused =
    request_decision awaits msize (attach_table_rules fids message.fid message.afid message.aname)
    refused (find_question message)

abbrev pub find_refusal : FindFault → Reply
find_refusal f.Unpublished = r.Error A4
find_refusal f.Full = r.Error A5
find_refusal f.Memory = r.Memory

-- the run awaits its attach
abbrev pub find_after : SessionState → AttachMessage → PortAnswer → Reply × SessionState
find_after session message (FindAnswer (Ok place)) = (
  r.Found,
  with_awaited
      (Some (record { fid = message.fid; run = place; call = record { user = message.uname } }))
      session,
)
find_after session message (FindAnswer (Err fault)) = (find_refusal fault, session)
find_after session message given = (r.Memory, session)

-- ---- attach

abbrev pub attach_decision : ℕ → Option Awaited → Result Question Reply
attach_decision now None = Err (r.Error S5)
attach_decision now (Some awaited) = Ok (AttachTo now awaited.run awaited.call)

abbrev pub pass_refusal : PassFault → Reply
pass_refusal p.Room = r.Error A5
pass_refusal p.Foreign = r.Error S5
pass_refusal p.Memory = r.Memory

-- the fid is that of the root, for that user; A6 if the text is no user's name, since nobody known
-- has it
abbrev pub with_root_fid : FidMap → ℕ → ℕ → Option (List ℕ) → ℕ → Qid → Reply × FidMap
with_root_fid fids fid run None pass qid = (r.Error A6, fids)
with_root_fid fids fid run (Some user) pass qid =
    (r.Attach qid, insert fids fid (entry.Walked (walked_fid run pass 0 user)))

-- only a granted attach makes a fid
abbrev pub attach_settled : FidMap → ℕ → ℕ → Option (List ℕ) → ℕ → Answer → Reply × FidMap
attach_settled fids fid run user pass (a.Attached qid) = with_root_fid fids fid run user pass qid
attach_settled fids fid run user pass answer = (refusal answer, fids)

-- the run no longer awaits its attach
abbrev pub attach_after : SessionState → Option Awaited → PortAnswer → Reply × SessionState
attach_after session None given = (r.Memory, session)
attach_after session (Some awaited) (AttachAnswer (Ok pass)) =
    with_fids_left (with_awaited None session)
    (attach_settled session.fids awaited.fid awaited.run (user_in awaited.call.user) pass.0 pass.1)
attach_after session (Some awaited) (AttachAnswer (Err fault)) =
    (pass_refusal fault, with_awaited None session)
attach_after session (Some awaited) given = (r.Memory, with_awaited None session)
