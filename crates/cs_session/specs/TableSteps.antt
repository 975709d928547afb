-- The steps that change only a connection's own table.
use Rattle.std.specs.Prelude.{ℕ, List, [], ◌∷◌, ◌++◌, Option, None, Some, is_none, is_some}
use Rattle.std.specs.Prelude.{if◌then◌else◌}
use Rattle.std.specs.FinMap.{remove}
use Rattle.cs_names.specs.declared.rule_id.RuleId.{RuleId}
use Rattle.cs_names.specs.declared.rule_id.RuleId.TheVariants.{S1, S5}
use Rattle.cs_fids.specs.Tables.{FidMap, least_open}
use Rattle.cs_permit.specs.declared.request.Request.TheVariants as request
use Rattle.cs_permit.specs.Refusals.{Check, first_failing}
use Rattle.cs_permit.specs.Table.{table_rules}
use Rattle.cs_session.specs.Decisions.{opened_at}
use Rattle.cs_session.specs.declared.message.TableStep.{TableStep}
use Rattle.cs_session.specs.declared.message.TableStep.TheVariants as t
use Rattle.cs_session.specs.declared.reply.Reply.{Reply}
use Rattle.cs_session.specs.declared.reply.Reply.TheVariants as r
use Rattle.cs_session.specs.Sessions.{SessionState, empty_session, with_fids}
use Rattle.cs_session.specs.Versions.{after_version}

-- the rules of a clunk: those of the table, and that the fid isn't open; an open one is closed
-- first, by another step (clunk(5))
abbrev pub clunk_rules : FidMap → ℕ → List Check
clunk_rules fids fid =
    table_rules fids (request.Clunk fid) ++ (S5, is_some (opened_at fids fid)) ∷ []

-- the first of them that fails is the error; if none does, the fid is freed
abbrev pub clunk_reply : Option RuleId → Reply
clunk_reply (Some rule) = r.Error rule
clunk_reply None = r.Clunk

abbrev pub clunk_left : FidMap → ℕ → Option RuleId → FidMap
clunk_left fids fid (Some rule) = fids
clunk_left fids fid None = remove fids fid

abbrev pub after_clunk : SessionState → ℕ → Reply × SessionState
after_clunk session fid = (
  clunk_reply (first_failing (clunk_rules session.fids fid)),
  with_fids (clunk_left session.fids fid (first_failing (clunk_rules session.fids fid))) session,
)

-- a version and a hang-up free every fid, once none is open
abbrev pub after_change : SessionState → TableStep → Reply × SessionState
after_change session (t.Clunk fid) =
    if is_none session.msize then (r.Error S1, session) else after_clunk session fid
after_change session (t.Version msize version) =
    if is_some (least_open session.fids) then (r.Error S5, session) else after_version msize version
after_change session t.HangUp =
    if is_some (least_open session.fids) then (r.Error S5, session)
    else (r.Closed, empty_session None)

-- not while a run awaits its attach
abbrev pub table_stepped : SessionState → TableStep → Reply × SessionState
table_stepped session change =
    if is_some session.awaited then (r.Error S5, session) else after_change session change
