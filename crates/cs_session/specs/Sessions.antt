-- What a connection keeps from one step to the next.
use Rattle.std.specs.Prelude.{ℕ, Option, None, refl}
use Rattle.std.specs.Coded.{Coded, code_by, coded×, coded_ℕ, coded_option}
use Rattle.std.specs.FinMap.{code, empty, get}
use Rattle.cs_fids.specs.contracts.entry.FidEntry as row
use Rattle.cs_fids.specs.declared.entry.FidEntry.{FidEntry}
use Rattle.cs_fids.specs.Tables.{FidMap}
use Rattle.cs_permit.specs.contracts.call.AttachCall as attach
use Rattle.cs_permit.specs.declared.call.AttachCall.{AttachCall}
use Rattle.cs_session.specs.declared.reply.Reply.{Reply}

-- a run that was found, and awaits its attach: the fid of the attach, the run's place at the port,
-- and the call, which names the user
pub record Awaited : Type 0 where
  pub fid : ℕ
  pub run : ℕ
  pub call : AttachCall

-- the message size, if a session has begun; the run that awaits its attach, if one does; and the
-- fids
pub record SessionState : Type 0 where
  pub msize : Option ℕ
  pub awaited : Option Awaited
  pub fids : FidMap

abbrev pub awaited_code : Coded Awaited
awaited_code = code_by (ℕ × (ℕ × AttachCall)) (coded× coded_ℕ (coded× coded_ℕ attach.the_row.coded))
    (λ awaited. (awaited.fid, (awaited.run, awaited.call)))
    (λ parts. record { fid = parts.0; run = parts.1.0; call = parts.1.1 }) (λ _. refl)

abbrev pub sess_code : Coded SessionState
sess_code = code_by (Option ℕ × (Option Awaited × FidMap))
    (coded× (coded_option coded_ℕ)
    (coded× (coded_option awaited_code) (code coded_ℕ row.the_row.coded)))
    (λ session. (session.msize, (session.awaited, session.fids)))
    (λ parts. record { msize = parts.0; awaited = parts.1.0; fids = parts.1.1 }) (λ _. refl)

-- the fid of that number, if there is one
abbrev pub entry_at : SessionState → ℕ → Option FidEntry
entry_at session fid = get session.fids fid

abbrev pub with_fids : FidMap → SessionState → SessionState
with_fids fids session = record session { fids = fids }

abbrev pub with_awaited : Option Awaited → SessionState → SessionState
with_awaited awaited session = record session { awaited = awaited }

-- the reply, and the fids that are left
abbrev pub with_fids_left : SessionState → Reply × FidMap → Reply × SessionState
with_fids_left session answered = (answered.0, with_fids answered.1 session)

-- no fid is left; a session of that message size has begun, or none has
abbrev pub empty_session : Option ℕ → SessionState
empty_session msize = record { msize = msize; awaited = None; fids = empty }
