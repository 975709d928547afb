use Rattle.std.proofs.Common.{◌∙◌, sym, ap, ◌∷◌, [], ◌++◌, Some, append_assoc}
use Rattle.std.proofs.lemmas.Option.{slice_get-get_or}
use Rattle.cs_connection.proofs.Keeping.{any_err, keeps_one_more, low_at}
use Rattle.cs_connection.proofs.given.GivenPasses.keep_each.Goals as goal

pub loop-given-preserved : goal.loop-given-preserved
loop-given-preserved g c =
    let parts = c.loop-given.invariant.parts ∙ ap (λ ps. c.loop-given.yielded ++ ps) c.in-Some.ensures.steps.0 in
    let low = low_at c.args.runs.now c.args.passes.items c.loop-given.yielded c.next.new.self.rest.items c.in-Some.given parts c.requires in
    let there =
    slice_get-get_or c.args.runs.now c.in-Some.given.run c.index-runs-given.result low ∙ ap Some
    (sym c.index-runs-given.is ∙ sym c.key.ensures ∙ sym c.copy-key.ensures) in record {
      parts = parts ∙ sym (append_assoc c.loop-given.yielded (c.in-Some.given ∷ []) c.next.new.self.rest.items);
      kept = keeps_one_more c.args.runs.now c.in-Some.given c.copy-key.result there c.loop-given.yielded c.args.self.now c.loop-given.self
          c.keep_pass.new.self c.loop-given.invariant.kept c.in_ok-keep_pass.ensures.kept;
    }

pub returns-in_err-keep_pass-clause-refused : goal.returns-in_err-keep_pass-clause-refused
returns-in_err-keep_pass-clause-refused g c =
    any_err c.from_residual.result (record {
      front = c.loop-given.yielded;
      rest = c.in-Some.given ∷ c.next.new.self.rest.items;
      parts = c.loop-given.invariant.parts ∙ ap (λ ps. c.loop-given.yielded ++ ps) c.in-Some.ensures.steps.0;
      keeps = λ key. c.in_err-keep_pass.ensures.refused key ∙ c.loop-given.invariant.kept key;
    })
