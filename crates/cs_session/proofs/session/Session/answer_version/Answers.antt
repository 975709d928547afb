use Rattle.std.proofs.Common.{ap, refl}
use Rattle.cs_session.specs.declared.message.Message.TheVariants as m
use Rattle.cs_session.specs.declared.message.TableStep.TheVariants as t
use Rattle.cs_session.specs.Messages.{close_or}
use Rattle.cs_session.specs.Steps.{Table}
use Rattle.cs_session.proofs.Marking.{table_taken}
use Rattle.cs_session.proofs.Turns.{ends_by}
use Rattle.cs_session.proofs.session.Session.answer_version.Goals as goal

pub returns-clause-answered : goal.returns-clause-answered
returns-clause-answered g c =
    let message = m.Version c.args.msize c.args.version in
    let x = t.Version c.args.msize c.args.version in
    let last =
    ends_by g.P.Port.gives c.args.now message c.close_all.new.self c.close_all.new.port (Table x)
    (ap (λ o. close_or o x) c.close_all.ensures.closed) _ _ _
    (table_taken g.P.Port.gives c.args.now _ _ _ x _ c.table_step.ensures.value) refl in
    c.close_all.ensures.before message _ _ _ refl last
