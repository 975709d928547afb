-- The calls of a session on its fids: their rules, what each asks, and the reply and the fids after
-- the answer.
use Rattle.std.specs.Prelude.{ℕ, Bool, false, ◌&&◌, List, [], ◌∷◌, Option, Result}
use Rattle.std.specs.FinMap.{remove}
use Rattle.cs_names.specs.declared.rule_id.RuleId.TheVariants.{H1, M1, Q1}
use Rattle.cs_fids.specs.Tables.{FidMap}
use Rattle.cs_permit.specs.Refusals.{Check}
use Rattle.cs_permit.specs.Table.{create_table_rules, is_unknown, open_table_rules}
use Rattle.cs_permit.specs.Table.{read_table_rules, walk_table_rules, write_table_rules}
use Rattle.cs_run.specs.declared.answer.Answer.{Answer}
use Rattle.cs_session.specs.declared.message.CallMessage.{CallMessage}
use Rattle.cs_session.specs.declared.message.CallMessage.TheVariants.{Walk, Open, Create, Read}
use Rattle.cs_session.specs.declared.message.CallMessage.TheVariants.{Write, Remove, Stat, Wstat}
use Rattle.cs_session.specs.declared.reply.Reply.{Reply}
use Rattle.cs_session.specs.Decisions.{request_decision}
use Rattle.cs_session.specs.Opens.{create_after, create_question, open_after, open_question}
use Rattle.cs_session.specs.Questions.{Question}
use Rattle.cs_session.specs.Reads.{copies_name, read_after, read_question, write_question}
use Rattle.cs_session.specs.Reads.{write_reply}
use Rattle.cs_session.specs.Removes.{remove_question, remove_reply}
use Rattle.cs_session.specs.Stats.{stat_question, stat_reply, wstat_question, wstat_reply}
use Rattle.cs_session.specs.Walks.{walk_after, walk_question}

-- the rules of the fids
abbrev pub call_rules : FidMap → CallMessage → List Check
call_rules fids (Walk message) = walk_table_rules fids message.fid message.newfid
call_rules fids (Open message) = open_table_rules fids message.fid message.mode
call_rules fids (Create message) =
    create_table_rules fids message.fid message.name message.perm message.mode
call_rules fids (Read message) = read_table_rules fids message.fid
call_rules fids (Write message) = write_table_rules fids message.fid
call_rules fids (Remove fid) = (M1, is_unknown fids fid) ∷ []
call_rules fids (Stat fid) = (H1, is_unknown fids fid) ∷ []
call_rules fids (Wstat message) = (Q1, is_unknown fids message.fid) ∷ []

-- whether refused memory matters to the call: a remove and a stat take none, and a read only to
-- copy a name
abbrev pub wants_memory : FidMap → CallMessage → Bool → Bool
wants_memory fids (Read message) refused = refused && copies_name fids message.fid
wants_memory fids (Remove fid) refused = false
wants_memory fids (Stat fid) refused = false
wants_memory fids message refused = refused

abbrev pub call_question : ℕ → Option ℕ → FidMap → CallMessage → Option Question
call_question now msize fids (Walk message) = walk_question now fids message
call_question now msize fids (Open message) = open_question now fids message
call_question now msize fids (Create message) = create_question now fids message
call_question now msize fids (Read message) = read_question now msize fids message
call_question now msize fids (Write message) = write_question now fids message
call_question now msize fids (Remove fid) = remove_question now fids fid
call_question now msize fids (Stat fid) = stat_question now fids fid
call_question now msize fids (Wstat message) = wstat_question now fids message

-- the Bool says whether the memory that the connection itself takes is refused
abbrev pub call_decision : ℕ → Bool → Option ℕ → FidMap → CallMessage → Bool → Result Question Reply
call_decision now awaits msize fids message refused =
    request_decision awaits msize (call_rules fids message) (wants_memory fids message refused)
    (call_question now msize fids message)

-- a remove frees the fid whatever the answer is
abbrev pub call_after : FidMap → CallMessage → Answer → Reply × FidMap
call_after fids (Walk message) answer = walk_after fids message.fid message.newfid answer
call_after fids (Open message) answer = open_after fids message.fid message.mode answer
call_after fids (Create message) answer = create_after fids message.fid message.mode answer
call_after fids (Read message) answer = read_after fids message.fid answer
call_after fids (Write message) answer = (write_reply answer, fids)
call_after fids (Remove fid) answer = (remove_reply answer, remove fids fid)
call_after fids (Stat fid) answer = (stat_reply answer, fids)
call_after fids (Wstat message) answer = (wstat_reply answer, fids)
