-- The rules by which a connection refuses a step by itself, in their order.
use Rattle.std.specs.Prelude.{ℕ, nat_lt, List, [], ◌∷◌, ◌++◌, Option, is_none, is_some}
use Rattle.cs_fids.specs.Tables.{least_open}
use Rattle.cs_names.specs.declared.limits.TheConstants.{LEAST_MESSAGE_SIZE}
use Rattle.cs_names.specs.declared.rule_id.RuleId.TheVariants.{S1, S4, S5}
use Rattle.cs_permit.specs.Refusals.{Check}
use Rattle.cs_permit.specs.Table.{attach_table_rules}
use Rattle.cs_session.specs.Attaches.{find_question}
use Rattle.cs_session.specs.Calls.{call_question, call_rules}
use Rattle.cs_session.specs.Decisions.{after_session}
use Rattle.cs_session.specs.Questions.{Question}
use Rattle.cs_session.specs.Removes.{close_question}
use Rattle.cs_session.specs.Sessions.{SessionState}
use Rattle.cs_session.specs.Steps.{Step, FindStep, AttachStep, CallStep, CloseStep, Table}
use Rattle.cs_session.specs.TableSteps.{clunk_rules}
use Rattle.cs_session.specs.declared.message.TableStep.{TableStep}
use Rattle.cs_session.specs.declared.message.TableStep.TheVariants as t

-- rules, and then S5 if there is nothing to ask
abbrev pub with_question : List Check → Option Question → List Check
with_question rules q = rules ++ (S5, is_none q) ∷ []

-- those of a step that changes the connection's own table: a clunk is of a fid that is there and
-- isn't open, a version and a hang-up come when no fid is open, and a version has a message size
-- that is large enough
abbrev pub change_rules : SessionState → TableStep → List Check
change_rules session (t.Clunk fid) =
    (S5, is_some session.awaited)
    ∷ (S1, is_none session.msize)
    ∷ clunk_rules session.fids fid
change_rules session (t.Version msize version) =
    (S5, is_some session.awaited)
    ∷ (S5, is_some (least_open session.fids))
    ∷ (S4, nat_lt msize LEAST_MESSAGE_SIZE)
    ∷ []
change_rules session t.HangUp =
    (S5, is_some session.awaited)
    ∷ (S5, is_some (least_open session.fids))
    ∷ []

-- the rules of any step
abbrev pub own_rules : ℕ → SessionState → Step → List Check
own_rules now session (FindStep message) =
    with_question (after_session (is_some session.awaited) session.msize
    (attach_table_rules session.fids message.fid message.afid message.aname))
    (find_question message)
own_rules now session AttachStep = (S5, is_none session.awaited) ∷ []
own_rules now session (CallStep message) =
    with_question (after_session (is_some session.awaited) session.msize
    (call_rules session.fids message))
    (call_question now session.msize session.fids message)
own_rules now session (CloseStep fid) =
    with_question ((S5, is_some session.awaited) ∷ []) (close_question now session.fids fid)
own_rules now session (Table change) = change_rules session change
