use Rattle.std.proofs.Common.{◌∷◌, [], ◌++◌, ap, sym, ◌∙◌}
use Rattle.std.proofs.lemmas.Bool.{false≢true}
use Rattle.cs_tree_model.specs.Laws.Paths.{snoc_front, snoc_not_nil}
use Rattle.cs_start.proofs.Paths.{same_path, same_path_test}
use Rattle.cs_start.proofs.siblings.name_in.Goals as goal

pub returns-in-None : goal.returns-in-None
returns-in-None c = record {
  there = tt;
  legal = tt;
  elsewhere = λ n is. snoc_not_nil c.args.directory.now n (sym c.in-None.ensures ∙ c.names.ensures ∙ is);
}

pub returns-then-eq : goal.returns-then-eq
returns-then-eq c = record {
  there =
      sym c.names.ensures ∙ c.in-Some.ensures.0
      ∙ ap (λ d. d ++ c.in-Some.name.now ∷ [])
      (same_path _ _ (sym c.eq.ensures ∙ c.if-eq.true) ∙ c.names-in-Some.ensures ∙ c.path.ensures);
  legal = c.in-Some.ensures.1;
  elsewhere = tt;
}

pub returns-else-eq : goal.returns-else-eq
returns-else-eq c = record {
  there = tt;
  legal = tt;
  elsewhere = λ n is.
      false≢true (sym c.if-eq.false ∙ c.eq.ensures
      ∙ same_path_test _ _
      (snoc_front _ c.args.directory.now _ n (sym c.in-Some.ensures.0 ∙ c.names.ensures ∙ is)
      ∙ sym c.path.ensures ∙ sym c.names-in-Some.ensures));
}
