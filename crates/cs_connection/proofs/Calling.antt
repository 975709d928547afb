-- What a call leaves of what a connection keeps.
use Rattle.std.proofs.Common.{◌≡◌, ◌∙◌, ℕ, ◌<◌, List, Some, length, get_or, refl, sym, ap, subst, inl, inr}
use Rattle.std.specs.Prelude.{slice_get, slice_set}
use Rattle.std.proofs.lemmas.List.{set-get_or}
use Rattle.std.proofs.lemmas.Option.{slice_get-get_or}
use Rattle.cs_names.specs.declared.rule_id.RuleId.TheVariants.{S5}
use Rattle.cs_journal.specs.Runs.{PassOf}
use Rattle.cs_permit.specs.declared.call.Call.{Call}
use Rattle.cs_registry.specs.Keys.{Key}
use Rattle.cs_run.specs.declared.answer.Answer.{Answer}
use Rattle.cs_run.specs.declared.answer.Answer.TheVariants.{Denied}
use Rattle.cs_shared_runs.specs.Serving.{HasRuns}
use Rattle.cs_shared_runs.specs.Answers.{GivesAnswer, GivesAttach, IsAnswerOf}
use Rattle.cs_connection.specs.declared.kept.GivenPass.{GivenPass}
use Rattle.cs_connection.specs.Asking.{KeptCalls}
use Rattle.cs_connection.specs.Kept.{AreInside, given_by}

module _ (serves : HasRuns) (answered : GivesAnswer) (attached : GivesAttach) (runs : List Key) (passes : List GivenPass) (run place : ℕ)
    (given : GivenPass) (low : place < length passes) (at : given ≡ get_or passes place given) where
  there : slice_get passes place ≡ Some given
  there = slice_get-get_or passes place given low ∙ ap Some (sym at)

  -- a pass of another run
  pub stray : (now : ℕ) (call : Call) → (given.run ≡ run → ⊥) → KeptCalls serves answered attached (record {
    runs = runs;
    passes = passes;
  }) now run place call (Denied S5) (record { runs = runs; passes = slice_set passes place given })
  stray now call other = inr (record {
    stray = λ pass is.
        (let same : Some given ≡ Some (given_by run pass) = sym there ∙ is in let own : given ≡ given_by run pass = cc in
        other (ap (λ (x : GivenPass). x.run) own));
    denied = refl;
    kept = ap (λ (ps : List GivenPass). record {
      runs = runs;
      passes = ps;
    }) (ap (slice_set passes place) at ∙ set-get_or passes place given);
  })

  -- one of this run
  pub called : AreInside runs passes → (key : Key) (number : ℕ) → key ≡ get_or runs run key → number ≡ key.number → given.run ≡ run
      → (now : ℕ) (call : Call) (answer : Answer) (pass : PassOf) → answered key given.pass now call answer pass
      → IsAnswerOf serves number given.pass now call answer pass → KeptCalls serves answered attached (record {
        runs = runs;
        passes = passes;
      }) now run place call answer (record { runs = runs; passes = slice_set passes place (given_by given.run pass) })
  called inside key number key_is number_is own now call answer pass source told =
      let low_run : run < length runs =
      subst (λ (n : ℕ). n < length runs) (ap (λ (x : GivenPass). x.run) (sym at) ∙ own) (inside place given low) in
      inl (record {
        key = key;
        before = given.pass;
        pass = pass;
        run_is = slice_get-get_or runs run key low_run ∙ ap Some (sym key_is);
        pass_is = there ∙ ap (λ (n : ℕ). Some (given_by n given.pass)) own;
        source = source;
        told = subst (λ (n : ℕ). IsAnswerOf serves n given.pass now call answer pass) number_is told;
        kept = ap (λ (n : ℕ). record { runs = runs; passes = slice_set passes place (given_by n pass) }) own;
      })
