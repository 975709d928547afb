-- What is stored for a registry, as it changes.
use Rattle.std.proofs.Common.{◌≡◌, ◌∙◌, ℕ, zero, suc, ◌+◌, ◌-◌, ◌<◌, ◌≤◌, Bool, true, false, cond, not, List, [], ◌∷◌, length, Option, None}
use Rattle.std.proofs.Common.{Some, is_some, refl, sym, ap, subst, arith, ◌⊎◌, inl, inr, get_or}
use Rattle.std.specs.Prelude.{count_by, map, replicate, slice_get, slice_set, slice_index_or}
use Rattle.std.proofs.Math.ListN.{get_or-map}
use Rattle.std.proofs.lemmas.List.{length-map, length-replicate, length-set, map-set}
use Rattle.std.proofs.lemmas.List.Elements.{All-replicate}
use Rattle.std.proofs.lemmas.List.Folds.{sum_by-replicate}
use Rattle.std.proofs.lemmas.List.Sums.{sum_by-set}
use Rattle.std.proofs.lemmas.Option.{get_or_from_slice_get, none-some, slice_get_cases, slice_get_read, slice_get_within}
use Rattle.cs_plan.specs.Scenes.{Scene, Published, IsPublished, state_at}
use Rattle.cs_plan.proofs.Picking.{all_at}
use Rattle.cs_tree_model.specs.Tree.{Tree}
use Rattle.cs_users.specs.Rows.{Row}
use Rattle.cs_registry.specs.Publishing.{with_published}
use Rattle.cs_registry.specs.Registries.{AdmitsAll, IsKept, Registry, empty}
use Rattle.cs_registry.specs.Runs.{Runs}

-- ---- no state

module _ (A : Type 0) where
  pub none_there : (n : ℕ) → map (is_some {T = A}) (replicate n None) ≡ replicate n false
  none_there zero = refl
  none_there (suc n) = ap (λ xs. false ∷ xs) (none_there n)

none_counted : (n : ℕ) → count_by not (replicate n false) ≡ n
none_counted n = omega (arith, sum_by-replicate (λ b. cond (not b) 1 0) n false)

module _ {H A : Type 0} (scene : Scene) (states : List (Option A)) (runs : Runs H) (n : ℕ) (is : n ≡ length scene.plan)
    (blank : states ≡ replicate n None) (none : runs ≡ []) where
  -- a registry in which nothing is published
  pub none_kept : (admits : ℕ → Tree → Type 0) (tree_of : A → Tree) → AdmitsAll admits scene
      → IsKept {H = H} admits scene tree_of states n runs
  none_kept admits tree_of all = record {
    each = ap length blank ∙ (length-replicate n None ∙ is);
    made = λ k x h. absurd
        (none-some x
        (sym (all_at (λ (o : Option A). o ≡ None) (replicate n None) k (Some x) (ap (λ xs. slice_get xs k) (sym blank) ∙ h)
        (All-replicate (λ o. o ≡ None) n None refl))));
    admitted = all;
    left = sym (none_counted n) ∙ ap (count_by not) (sym (none_there A n) ∙ ap (map is_some) (sym blank));
    few = (let count : length runs ≡ 0 = ap length none in omega arith);
  }

  -- is the empty one
  pub none_is_empty : (users : List Row) → ◌≡◌ {A = Registry H} (record {
    scene = scene;
    users = users;
    published = map is_some states;
    runs = runs;
  }) (empty scene users)
  none_is_empty users i = record {
    scene = scene;
    users = users;
    published = (ap (map is_some) blank ∙ (none_there A n ∙ ap (λ k. replicate k false) is)) i;
    runs = none i;
  }

-- ---- one more state

-- one less is missing
pub one_less : (published : List Bool) (n : ℕ) → n < length published → slice_index_or published n false ≡ false
    → count_by not (slice_set published n true) + 1 ≡ count_by not published
one_less published n inside blank =
    let one : ◌≡◌ {A = ℕ} (cond (not (slice_index_or published n false)) 1 0) 1 = ap (λ b. cond (not b) 1 0) blank in
    omega (arith, sum_by-set (λ b. cond (not b) 1 0) published n true false inside)

-- a blank state isn't published
pub blank_now : {A : Type 0} (states : List (Option A)) (n : ℕ) → slice_get states n ≡ Some None
    → slice_index_or (map is_some states) n false ≡ false
blank_now states n none = get_or-map is_some states n None ∙ ap is_some (get_or_from_slice_get states n None None none)

module _ {A : Type 0} (x : A) where
  -- each state is the one of its place, or the new one at its own
  set_there : (states : List (Option A)) (n k : ℕ) (y : A) → slice_get (slice_set states n (Some x)) k ≡ Some (Some y) → ((k ≡ n) × (y ≡ x))
      ⊎ (slice_get states k ≡ Some (Some y))
  set_there [] n k y h = inr h
  set_there (s ∷ states) zero zero y h = inl (refl, cc)
  set_there (s ∷ states) zero (suc k) y h = inr h
  set_there (s ∷ states) (suc n) zero y h = inr h
  set_there (s ∷ states) (suc n) (suc k) y h = elim (set_there states n k y h) [ inl p ↦ inl (ap suc p.0, p.1) | inr q ↦ inr q ]

  module _ {H : Type 0} (states : List (Option A)) (n : ℕ) (none : slice_get states n ≡ Some None) (runs : Runs H) where
    less : count_by not (map is_some (slice_set states n (Some x))) + 1 ≡ count_by not (map is_some states)
    less = ap (λ published. count_by not published + 1) (map-set is_some states n (Some x)) ∙ one_less (map is_some states) n
        (omega (arith, length-map states is_some, slice_get_within states n None none)) (blank_now states n none)

    pub published_kept : (admits : ℕ → Tree → Type 0) (scene : Scene) (tree_of : A → Tree) (missing : ℕ)
        → IsKept admits scene tree_of states missing runs
        → IsPublished (record {
          number = n;
          scene = scene;
          tree = tree_of x;
        }) → IsKept admits scene tree_of (slice_set states n (Some x)) (missing - 1) runs
    published_kept admits scene tree_of missing kept is = record {
      each = length-set states n (Some x) ∙ kept.each;
      made = λ k y h. elim (set_there states n k y h) [
        | inl p ↦ subst (λ (q : ℕ × A). IsPublished (record {
          number = q.0;
          scene = scene;
          tree = tree_of q.1;
        })) (λ i. (sym p.0 i, sym p.1 i)) is
        | inr q ↦ kept.made k y q
      ];
      admitted = kept.admitted;
      left = omega (arith, less, kept.left);
      few = kept.few;
    }

    pub some_missing : (missing : ℕ) → missing ≡ count_by not (map is_some states) → 1 ≤ missing
    some_missing missing left = omega (arith, less)

    pub is_published_now : (scene : Scene) (users : List Row) (now : Registry H) → record {
      scene = scene;
      users = users;
      published = map is_some states;
      runs = runs;
    } ≡ now
        → ◌≡◌ {A = Registry H} (record {
          scene = scene;
          users = users;
          published = map is_some (slice_set states n (Some x));
          runs = runs;
        }) (with_published now n)
    is_published_now scene users now v i = record {
      scene = (v i).scene;
      users = (v i).users;
      published = (map-set is_some states n (Some x) ∙ ap (λ (r : Registry H). slice_set r.published n true) v) i;
      runs = (v i).runs;
    }

-- the runs change, and are as many
pub runs_kept : {H A : Type 0} {admits : ℕ → Tree → Type 0} {scene : Scene} {tree_of : A → Tree} {states : List (Option A)} {missing : ℕ}
    (old new : Runs H)
    → length new ≡ length old → IsKept admits scene tree_of states missing old → IsKept admits scene tree_of states missing new
runs_kept old new same kept = record {
  each = kept.each;
  made = kept.made;
  admitted = kept.admitted;
  left = kept.left;
  few = omega (arith, kept.few);
}

-- a state's number is one of the plan
pub state_within : (scene : Scene) (number : ℕ) (tree : Tree) → state_at scene number ≡ Some tree → number < length scene.plan
state_within scene number tree is = elim (slice_get_cases scene.plan number).1 [ inl p ↦ p.1 | inr p ↦ (let no = rw p.1 at is in cc) ]

module _ {H A : Type 0} {admits : ℕ → Tree → Type 0} {scene : Scene} {tree_of : A
    → Tree} {states : List (Option A)} {missing : ℕ} {runs : Runs H}
    (kept : IsKept admits scene tree_of states missing runs) (state : Published) (is : IsPublished state) (own : state.scene ≡ scene)
    (n : ℕ) (number : n ≡ state.number) where
  -- so it has a place
  pub has_place : n < length states
  has_place =
      omega (arith, number, state_within state.scene state.number state.tree is.state, ap (λ (s : Scene). length s.plan) own, kept.each)

  -- which is blank, as it was read
  pub blank_at : (o : Option A) → o ≡ get_or states n o → is_some o ≡ false → slice_get states n ≡ Some None
  blank_at None read blank = slice_get_read states _ n None refl has_place read
  blank_at (Some x) read blank = cc
