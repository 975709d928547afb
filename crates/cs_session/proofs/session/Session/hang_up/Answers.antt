use Rattle.std.proofs.Common.{◌∙◌, ap, refl}
use Rattle.cs_session.specs.declared.message.Message.TheVariants as m
use Rattle.cs_session.specs.declared.message.TableStep.TheVariants as t
use Rattle.cs_session.specs.Messages.{close_or}
use Rattle.cs_session.specs.Steps.{Table}
use Rattle.cs_session.proofs.Marking.{table_taken}
use Rattle.cs_session.proofs.Turns.{ends_by, hung_up}
use Rattle.cs_session.proofs.session.Session.hang_up.Goals as goal

pub returns-clause-answered : goal.returns-clause-answered
returns-clause-answered g c =
    let left = c.table_step-closed.ensures.value ∙ hung_up c.close_all.new.self c.close_all.ensures.idle c.close_all.ensures.closed in
    let closed = ap (λ x. x.0) left in
    let last =
    ends_by g.P.Port.gives c.args.now m.HangUp c.close_all.new.self c.close_all.new.port (Table t.HangUp)
    (ap (λ o. close_or o t.HangUp) c.close_all.ensures.closed) _ _ _
    (table_taken g.P.Port.gives c.args.now _ _ _ t.HangUp _ c.table_step-closed.ensures.value) refl in
    c.close_all.ensures.before m.HangUp _ _ _ refl (rw closed at last)

pub returns-clause-ended : goal.returns-clause-ended
returns-clause-ended g c =
    ap (λ x. x.1) (c.table_step-closed.ensures.value ∙ hung_up c.close_all.new.self c.close_all.ensures.idle c.close_all.ensures.closed)
