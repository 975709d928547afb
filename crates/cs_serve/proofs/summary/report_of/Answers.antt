use Rattle.std.proofs.Common.{◌≡◌, ◌∙◌, List, sym, ap, subst}
use Rattle.cs_journal.specs.Runs.{PassOf}
use Rattle.cs_registry.specs.Keys.{Key}
use Rattle.cs_connection.specs.Given.{passes_of}
use Rattle.cs_shared_runs.specs.Answers.{IsLookOf}
use Rattle.cs_serve.specs.Summary.{IsAudit}
use Rattle.cs_serve.proofs.summary.report_of.Goals as goal

pub returns-clause-report : goal.returns-clause-report
returns-clause-report g c =
    let own : c.copy.result ≡ c.args.run.now = c.copy.ensures ∙ c.key-2.ensures in
    let passes : c.of-passes.result.now ≡ passes_of c.args.passes.now c.args.run.now =
    c.of-passes.ensures ∙ ap (passes_of c.args.passes.now) c.key.ensures in
    subst (λ (key : Key). IsLookOf g.S.ServerBrand.serves key.number (IsAudit (passes_of c.args.passes.now key)) c.inspect.result) (sym own)
    (subst (λ (ps : List PassOf). IsLookOf g.S.ServerBrand.serves c.args.run.now.number (IsAudit ps) c.inspect.result) passes
    c.inspect.ensures)
