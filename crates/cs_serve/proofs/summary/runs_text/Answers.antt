use Rattle.std.proofs.Common.{◌∙◌, ◌++◌, ◌∷◌, [], ℕ, List, sym, ap, subst, string_bytes, take}
use Rattle.std.proofs.lemmas.List.{take_more}
use Rattle.cs_registry.specs.Keys.{Key}
use Rattle.cs_serve.specs.Summary.{AreReported}
use Rattle.cs_serve.proofs.Reporting.{one_more}
use Rattle.cs_serve.proofs.summary.runs_text.Goals as goal

pub loop-run-preserved : goal.loop-run-preserved
loop-run-preserved g c =
    let serves = g.S.ServerBrand.serves in
    let given = c.args.passes.now in
    let before = take c.loop-run.run-index c.args.runs.now in
    let report = c.report_of-report.result in
    let keys =
    take_more c.args.runs.now c.loop-run.run-index c.run-item.result c.loop-run-test.true ∙ ap (λ (key : Key). before ++ key ∷ [])
    (sym c.run-item.is ∙ sym c.report_of-report.ensures.key) in
    subst (λ (ks : List Key). AreReported serves given ks (string_bytes c.push_line.new.text)) (sym keys)
    (subst (λ (text : List ℕ). AreReported serves given (before ++ report.key ∷ []) text) (sym c.in_ok-push_line.ensures)
    (one_more serves given before (string_bytes c.loop-run.text) report c.loop-run.invariant c.report_of-report.ensures.report))
