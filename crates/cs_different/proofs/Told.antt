-- The test of trees tells whether they are equal.
use Rattle.std.proofs.Common.{◌≡◌, true, refl, ap, ◌∙◌, subst}
use Rattle.std.proofs.lemmas.Bool.{and_parts, and_from, eq-eqb, eqb-true, false≢true}
use Rattle.std.specs.Bool.{Decides}
use base.Stored.{Gv, gnil, gnum, gcons}
use Rattle.cs_tree_model.specs.Tree.{Tree, tree_code}
use Rattle.cs_different.specs.Telling.{same_code, same_tree}

code_same : (a : Gv) → same_code a a ≡ true
code_same gnil = refl
code_same (gnum n) = eq-eqb n n refl
code_same (gcons a b) = and_from (same_code a a) (same_code b b) (code_same a) (code_same b)

code_is : (a b : Gv) → same_code a b ≡ true → a ≡ b
code_is gnil gnil t = refl
code_is gnil (gnum m) t = absurd (false≢true t)
code_is gnil (gcons c d) t = absurd (false≢true t)
code_is (gnum n) gnil t = absurd (false≢true t)
code_is (gnum n) (gnum m) t = ap gnum (eqb-true n m t)
code_is (gnum n) (gcons c d) t = absurd (false≢true t)
code_is (gcons a b) gnil t = absurd (false≢true t)
code_is (gcons a b) (gnum m) t = absurd (false≢true t)
code_is (gcons a b) (gcons c d) t =
    let parts = and_parts (same_code a c) (same_code b d) t in
    ap (λ v. gcons v b) (code_is a c parts.0) ∙ ap (λ v. gcons c v) (code_is b d parts.1)

pub tree_told : (t u : Tree) → Decides (same_tree t u) (t ≡ u)
unfolding same_tree
tree_told t u = (
  λ e. tree_code.inj t u (code_is (tree_code.code t) (tree_code.code u) e),
  λ e. subst (λ v. same_code (tree_code.code t) (tree_code.code v) ≡ true) e (code_same (tree_code.code t)),
)
