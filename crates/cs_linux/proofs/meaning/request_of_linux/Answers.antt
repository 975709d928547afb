use Rattle.std.proofs.Common.{ap, sym, ◌∙◌}
use Rattle.cs_wire.specs.declared.message.TBody.{TBody}
use Rattle.cs_wire.specs.Messages.{t_view}
use Rattle.cs_linux.specs.Messages.{as_client_means}
use Rattle.cs_linux.proofs.Changed.{meant_other, meant_wstat}
use Rattle.cs_linux.proofs.meaning.request_of_linux.Goals as goal
use Rattle.cs_linux.proofs.meaning.request_of_linux.Goals.{in-Wstat, in_default}

pub returns : goal.returns
returns c =
    let tag = c.args.request.tag in
    elim c.match-body.branch [
      | in-Wstat w ↦ ap (λ (body : TBody). t_view record { tag = tag; body = body }) w.body-is
          ∙ meant_wstat tag w.in-Wstat.fid w.in-Wstat.stat w.as_user_asked.result w.as_user_asked.ensures
          ∙ ap (λ (body : TBody). as_client_means (t_view record { tag = tag; body = body })) (sym w.in-Wstat.is)
      | in_default w ↦ ap (λ (body : TBody). t_view record { tag = tag; body = body }) w.body-is
          ∙ meant_other tag c.args.request.body w.in_default.not-Wstat
    ]
