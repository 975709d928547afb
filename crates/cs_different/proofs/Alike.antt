-- Sets that leave the same, by tests and by digests.
use Rattle.std.proofs.Common.{◌≡◌, ℕ, ◌==◌, ◌||◌, Bool, true, false, List, [], ◌∷◌, refl, sym, ap, ◌∙◌, ◌↔◌}
use Rattle.std.proofs.lemmas.Bool.{and_parts, and_from, eq-eqb, eqb-true, false≢true, false_from_ne_true}
use Rattle.std.proofs.lemmas.List.Elements.{All-head, All-tail}
use Rattle.std.proofs.lemmas.Bool.Decides.{same_from_decides}
use Rattle.std.specs.BTreeMap.{is_at}
use Rattle.std.specs.Bool.{Decides}
use Rattle.std.specs.List.{All, list_any}
use Rattle.std.specs.Cmp.{nat_cmp_is}
use Rattle.std.specs.Ordering.{is_eq, nat_cmp}
use Rattle.std.specs.declared.cmp.Ordering.TheVariants.{Equal}
use Rattle.cs_plan.specs.Scenes.{Scene}
use Rattle.cs_sets.specs.Different.{IsLike}
use Rattle.cs_sets.specs.Places.{places_of}
use Rattle.cs_different.specs.Digests.{digest_of, with_part}
use Rattle.cs_different.specs.Sets.{IsFound, IsLeft, LeaveSame, digest_left, leave_same, says_left, tree_left}
use Rattle.cs_different.specs.Telling.{same_tree}
use Rattle.cs_different.specs.declared.finding.Found.{Found}
use Rattle.cs_different.specs.declared.leaving.Left.{Left}
use Rattle.cs_different.proofs.Told.{tree_told}

module _ (s : Scene) where
  pub left_told : (a b : List ℕ) → Decides (leave_same s a b) (LeaveSame s a b)
  left_told a b = (
    λ t. (let parts = and_parts (same_tree (tree_left s a) (tree_left s b)) (says_left s a == says_left s b) t in record {
      trees = (tree_told (tree_left s a) (tree_left s b)).0 parts.0;
      says = eqb-true (says_left s a) (says_left s b) parts.1;
    }),
    λ e. and_from (same_tree (tree_left s a) (tree_left s b)) (says_left s a == says_left s b)
        ((tree_told (tree_left s a) (tree_left s b)).1 e.trees) (eq-eqb (says_left s a) (says_left s b) e.says),
  )

  pub left_is_like : IsLike (leave_same s)
  left_is_like = record {
    itself = λ x. (left_told x x).1 (record { trees = refl; says = refl });
    passes_on = λ x y z p q.
        (let a = (left_told x y).0 p in let b = (left_told y z).0 q in
        (left_told x z).1 (record { trees = a.trees ∙ b.trees; says = a.says ∙ b.says }));
  }

  pub same_digest : (a b : List ℕ) → LeaveSame s a b → digest_left s a ≡ digest_left s b
  same_digest a b e =
      ap (λ t. with_part (digest_of t) (says_left s a)) e.trees ∙ ap (λ n. with_part (digest_of (tree_left s b)) n) e.says

  -- no set with that digest was kept, so none that leaves the same
  pub none_alike : (kept : List Found) (places : List ℕ) (digest : ℕ) → digest ≡ digest_left s places → All (IsFound s) kept
      → list_any (λ f. is_at (nat_cmp f.digest) digest) kept ≡ false
      → list_any (λ f. leave_same s (places_of f.set) places) kept ≡ false
  none_alike [] places digest is all none = refl
  none_alike (f ∷ kept) places digest is all none =
      let here = or_none (is_at (nat_cmp f.digest) digest) (list_any (λ f. is_at (nat_cmp f.digest) digest) kept) none in
      let found = All-head (IsFound s) f kept all in
      both (leave_same s (places_of f.set) places) (list_any (λ f. leave_same s (places_of f.set) places) kept)
      (false_from_ne_true (leave_same s (places_of f.set) places) (λ t.
      false≢true (sym here.0 ∙ told_at f.digest digest
      (found.digest ∙ same_digest (places_of f.set) places ((left_told (places_of f.set) places).0 t) ∙ sym is))))
      (none_alike kept places digest is (All-tail (IsFound s) f kept all) here.1)
    where
      or_none : (a b : Bool) → (a || b) ≡ false → (a ≡ false) × (b ≡ false)
      or_none true b e = absurd (false≢true (sym e))
      or_none false b e = (refl, e)

      both : (a b : Bool) → a ≡ false → b ≡ false → (a || b) ≡ false
      both a b e f = ap (λ v. v || b) e ∙ f

      told_at : (a b : ℕ) → a ≡ b → is_at (nat_cmp a) b ≡ true
      told_at a b e = ap is_eq (sym (nat_cmp_is a b Equal e))

  -- sets with other digests leave other things
  pub other_digest : (a b : List ℕ) (first second : ℕ) → first ≡ digest_left s a → second ≡ digest_left s b → (first ≡ second → ⊥)
      → false ≡ leave_same s a b
  other_digest a b first second is was ne =
      sym (false_from_ne_true (leave_same s a b) (λ t. ne (is ∙ same_digest a b ((left_told a b).0 t) ∙ sym was)))

  -- what was compared is what the sets leave
  pub told_same : (a b : List ℕ) (first second : Left) → IsLeft s a first → IsLeft s b second → (same : Bool)
      → ((same ≡ true) ↔ ((first.tree ≡ second.tree) × (first.says ≡ second.says))) → same ≡ leave_same s a b
  told_same a b first second is was same told =
      same_from_decides same (leave_same s a b) (
        λ t. (let e = told.0 t in record { trees = sym is.tree ∙ e.0 ∙ was.tree; says = sym is.says ∙ e.1 ∙ was.says }),
        λ e. told.1 (is.tree ∙ e.trees ∙ sym was.tree, is.says ∙ e.says ∙ sym was.says),
      )
      (left_told a b)
