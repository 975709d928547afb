-- Equal paths and the test of it.
use Rattle.std.proofs.Common.{◌≡◌, ◌≢◌, true, false, sym, ◌∙◌, ⊎_elim}
use Rattle.std.proofs.lemmas.Bool.{false≢true}
use Rattle.std.specs.Ordering.{eq_by_cmp}
use Rattle.cs_names.specs.Paths.{path_eq, path_ties}
use Rattle.cs_tree_model.specs.Laws.Paths.{path_cases}
use Rattle.cs_tree_model.specs.Tree.{Path, path_cmp}

pub same_path : (p q : Path) → path_eq p q ≡ true → p ≡ q
same_path p q is = ⊎_elim
    (λ (one : (eq_by_cmp path_cmp p q ≡ true) × (p ≡ q)). one.1)
    (λ (two : (eq_by_cmp path_cmp p q ≡ false) × (p ≢ q)). absurd (false≢true (sym two.0 ∙ sym (path_ties p q) ∙ is)))
    (path_cases p q)

pub same_path_test : (p q : Path) → p ≡ q → path_eq p q ≡ true
same_path_test p q is = ⊎_elim
    (λ (one : (eq_by_cmp path_cmp p q ≡ true) × (p ≡ q)). path_ties p q ∙ one.0)
    (λ (two : (eq_by_cmp path_cmp p q ≡ false) × (p ≢ q)). absurd (two.1 is))
    (path_cases p q)
