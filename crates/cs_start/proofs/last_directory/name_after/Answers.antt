use Rattle.std.proofs.Common.{◌++◌, ◌∷◌, ℕ, List, Some, ap, subst, sym, ◌∙◌}
use Rattle.std.proofs.lemmas.Bool.Decides.{Decides-eqb}
use Rattle.std.proofs.lemmas.Slice.Eq.{strip_prefix_is}
use Rattle.cs_names.specs.Laws.{IsLegalName-name_in}
use Rattle.cs_names.specs.Legal.{IsLegalName}
use Rattle.cs_start.proofs.last_directory.name_after.Goals as goal

pub returns-in-Ok : goal.returns-in-Ok
returns-in-Ok c =
    let last = c.in_ok-last.last.now in
    let front = strip_prefix_is Decides-eqb c.as_bytes.result.now c.as_bytes-2.result.now
    (Some c.in_ok-rest.rest) c.in_ok-rest.ensures.cases in
    let back = strip_prefix_is Decides-eqb c.in_ok-rest.rest.now c.as_slice.result.now
    (Some c.in_ok-last.last) c.in_ok-last.ensures.cases in
    record {
      cut =
          sym c.as_bytes.ensures.value ∙ front
          ∙ (λ k. c.as_bytes-2.ensures.value k ++ (back ∙ ap (λ (s : List ℕ). s ++ last) c.as_slice.ensures) k)
          ∙ ap (λ (n : List ℕ). c.args.above.now ++ 47 ∷ n) (sym c.in-Ok.ensures.0);
      legal = subst IsLegalName (sym c.in-Ok.ensures.0) (IsLegalName-name_in last c.in-Ok.ensures.1);
    }
