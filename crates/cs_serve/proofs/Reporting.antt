-- One line after the other.
use Rattle.std.proofs.Common.{◌∙◌, ℕ, List, [], ◌∷◌, ◌++◌, ap}
use Rattle.std.proofs.lemmas.List.{flat_map_more, map_push}
use Rattle.std.proofs.lemmas.List.Elements.{All-push}
use Rattle.cs_registry.specs.Keys.{Key}
use Rattle.cs_connection.specs.Given.{Given}
use Rattle.cs_shared_runs.specs.Serving.{HasRuns}
use Rattle.cs_serve.specs.Summary.{AreReported, IsReport, run_line}
use Rattle.cs_serve.specs.declared.summary.RunReport.{RunReport}

module _ (serves : HasRuns) (given : Given) where
  pub one_more : (keys : List Key) (text : List ℕ) (report : RunReport) → AreReported serves given keys text → IsReport serves given report
      → AreReported serves given (keys ++ report.key ∷ []) (text ++ run_line report)
  one_more keys text report are is = record {
    reports = are.reports ++ report ∷ [];
    of_keys = map_push (λ (r : RunReport). r.key) are.reports report ∙ ap (λ ks. ks ++ report.key ∷ []) are.of_keys;
    each = All-push (IsReport serves given) are.reports report are.each is;
    text_is = ap (λ t. t ++ run_line report) are.text_is ∙ flat_map_more run_line [] are.reports report;
  }
