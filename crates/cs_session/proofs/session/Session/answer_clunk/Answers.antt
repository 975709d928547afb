use Rattle.std.proofs.Common.{◌∙◌, refl, sym}
use Rattle.cs_session.specs.declared.message.Message.TheVariants as m
use Rattle.cs_session.specs.declared.message.TableStep.TheVariants as t
use Rattle.cs_session.specs.Sessions.{entry_at}
use Rattle.cs_session.specs.Steps.{CloseStep, Table}
use Rattle.cs_session.proofs.Marking.{table_taken}
use Rattle.cs_session.proofs.Turns.{clunk_closes, clunk_frees, ends_by}
use Rattle.cs_session.proofs.session.Session.answer_clunk.Goals as goal

pub returns-then-is_open-clause-answered : goal.returns-then-is_open-clause-answered
returns-then-is_open-clause-answered g c =
    let there = sym c.is_open.ensures ∙ c.if-is_open.true in
    ends_by g.P.Port.gives c.args.now (m.Clunk c.args.fid) c.args.self.now c.args.port.now (CloseStep c.args.fid)
    (clunk_closes c.args.fid (entry_at c.args.self.now c.args.fid) there) _ _ _ c.close_step.ensures.takes refl

pub returns-clause-answered : goal.returns-clause-answered
returns-clause-answered g c =
    let not_open = sym c.is_open.ensures ∙ c.if-is_open.false in
    ends_by g.P.Port.gives c.args.now (m.Clunk c.args.fid) c.args.self.now c.args.port.now (Table (t.Clunk c.args.fid))
    (clunk_frees c.args.fid (entry_at c.args.self.now c.args.fid) not_open) _ _ _
    (table_taken g.P.Port.gives c.args.now _ _ _ (t.Clunk c.args.fid) _ c.table_step.ensures.value) refl
