-- A plan with holes covers pairs and single losses.
use Rattle.std.proofs.Common.{◌≡◌, ℕ, ◌+◌, ◌<◌, ◌≤◌, Bool, true, false, List, [], ◌∷◌, length, map}
use Rattle.std.proofs.Common.{refl, sym, ap, ◌∙◌, arith, ⊎_elim, subst}
use Rattle.std.proofs.lemmas.Bool.{cases_Bool, cases_eq, false≢true}
use Rattle.std.proofs.lemmas.List.{length-map}
use Rattle.std.proofs.Math.ListN.{get_or-map}
use Rattle.std.proofs.lemmas.List.Elements.{Contains-append_left, Contains-append_right}
use Rattle.std.specs.List.{Contains, filter, range_with_len}
use Rattle.cs_sets.specs.Orders.{needs_in}
use Rattle.cs_plan.specs.Plans.{families, holes_at, holes_of, is_kept, places_of_hole, places_below, plan_of, prefixes, IsAllowedIn}
use Rattle.cs_plan.specs.declared.recipe.Recipe.{Recipe}
use Rattle.cs_plan.specs.declared.recipe.Recipe.TheVariants.{Hole, Pick}
use Rattle.cs_sets.specs.Chains.{IsBackward}
use Rattle.cs_sets.specs.Following.{chosen}
use Rattle.cs_sets.specs.Holes as sets
use Rattle.cs_sets.specs.Sets.{IsAllowed, is_member}
use Rattle.cs_sets.specs.Laws.Following.{chosen_has}
use Rattle.cs_sets.specs.Laws.Holes.{hole_loses, lacks_is_hole, lost_is_kept}
use Rattle.cs_sets.specs.Laws.Lists.{contains_flat}
use Rattle.cs_sets.specs.Laws.Members.{allowed_below, contains_has, has_contains}
use Rattle.cs_picks.specs.Covering.{HasPairs, HasSingles, Loses, LosesOne}

-- ---- what a plan and sets both say

pub kept_same : (needs : ℕ → ℕ → Bool) (i k : ℕ) → is_kept needs i k ≡ sets.is_kept needs i k
kept_same needs i k = refl

pub hole_same : (needs : ℕ → ℕ → Bool) (i end : ℕ) → places_of_hole needs i end ≡ sets.hole needs i end
hole_same needs i end = refl

-- ---- a hole is in the plan

contains_map : {X Y : Type 0} (f : X → Y) (xs : List X) (x : X) → Contains xs x → Contains (map f xs) (f x)
contains_map f xs x c = (
  c.0,
  (let l = c.1 in let e = length-map xs f in omega (arith, l, e)),
  get_or-map f xs c.0 x ∙ ap f c.2,
)

contains_below : (n k : ℕ) → k < n → Contains (places_below n) k
contains_below n k low = has_contains (places_below n) k (ap (λ v. is_member v k) (sym (all_kept n)) ∙ chosen_has (λ j. true) n k low)
  where
    keeps_all : (xs : List ℕ) → filter (λ j. true) xs ≡ xs
    keeps_all [] = refl
    keeps_all (x ∷ xs) = ap (λ v. x ∷ v) (keeps_all xs)

    all_kept : (n : ℕ) → chosen (λ j. true) n ≡ places_below n
    all_kept n = keeps_all (range_with_len 0 n)

module _ (order : List (List Bool)) (back : IsBackward (needs_in order)) where
  needs : ℕ → ℕ → Bool
  needs = needs_in order

  listed : (picks : List (List ℕ)) (i k : ℕ) → i < k → k < length order → is_kept (needs_in order) i k ≡ true
      → Contains (plan_of order true picks) (Hole i (k + 1))
  unfolding holes_of
  listed picks i k low high kept =
      Contains-append_left (families (needs_in order) (length order) true) (map Pick picks) (Hole i (k + 1))
      (Contains-append_right (prefixes (length order)) (holes_of (needs_in order) (length order)) (Hole i (k + 1))
      (contains_flat (holes_at (needs_in order)) (places_below (length order)) k (Hole i (k + 1)) (contains_below (length order) k high)
      (contains_map (λ i. Hole i (k + 1)) (filter (λ i. is_kept (needs_in order) i k) (places_below k)) i
      (has_contains (filter (λ i. is_kept (needs_in order) i k) (places_below k)) i
      (chosen_has (λ i. is_kept (needs_in order) i k) k i low ∙ kept)))))

  of_sets : (i k : ℕ) (set : List ℕ) → Loses i k set → sets.Loses i k set
  of_sets i k set loses = record {
    has_later = contains_has set k loses.has_later;
    lacks_earlier = ⊎_elim
        (λ (t : is_member set i ≡ true). absurd (loses.lacks_earlier (has_contains set i t)))
        (λ (f : is_member set i ≡ false). f)
        (cases_Bool (is_member set i));
  }

  to_sets : (i k : ℕ) (set : List ℕ) → sets.Loses i k set → Loses i k set
  to_sets i k set loses = record {
    has_later = has_contains set k loses.has_later;
    lacks_earlier = λ c. absurd (false≢true (sym loses.lacks_earlier ∙ contains_has set i c));
  }

  stays : (i k : ℕ) (set : List ℕ) → IsAllowedIn order set → Loses i k set → is_kept (needs_in order) i k ≡ true
  stays i k set is loses =
      kept_same (needs_in order) i k
      ∙ lost_is_kept (needs_in order) back (length order) i k set is
      (of_sets i k set loses)

  below_end : (k : ℕ) (set : List ℕ) → IsAllowedIn order set → Contains set k → k < length order
  below_end k set is here =
      allowed_below (needs_in order) (length order) set is k (contains_has set k here)

  pub has_pairs : (plan : List Recipe) (picks : List (List ℕ)) → plan ≡ plan_of order true picks → HasPairs order plan
  has_pairs plan picks e i k set low is loses =
      let kept = stays i k set is loses in (
        subst (λ (v : List Recipe). Contains v (Hole i (k + 1))) (sym e) (listed picks i k low (below_end k set is loses.has_later) kept),
        subst (Loses i k) (sym (hole_same (needs_in order) i (k + 1)))
            (to_sets i k (sets.hole (needs_in order) i (k + 1)) (hole_loses (needs_in order) back i k low
            (sym (kept_same (needs_in order) i k) ∙ kept))),
      )

  lacks : (i k : ℕ) (set : List ℕ) → IsAllowedIn order set → LosesOne (needs_in order) i k set → sets.LacksOne (needs_in order) i k set
  lacks i k set is one = record {
    below = λ j low. ⊎_elim
        (λ (t : is_kept (needs_in order) i j ≡ true).
        contains_has set j (there j low t) ∙ sym (sym (kept_same (needs_in order) i j) ∙ t))
        (λ (f : is_kept (needs_in order) i j ≡ false). ⊎_elim
        (λ (m : is_member set j ≡ true).
        absurd (false≢true (sym f ∙ stays i j set is (record {
          has_later = has_contains set j m;
          lacks_earlier = one.loses.lacks_earlier;
        }))))
        (λ (m : is_member set j ≡ false). m ∙ sym (sym (kept_same (needs_in order) i j) ∙ f))
        (cases_Bool (is_member set j)))
        (cases_Bool (is_kept (needs_in order) i j));
    beyond = λ j high. ⊎_elim
        (λ (m : is_member set j ≡ true). (let l = one.last j (has_contains set j m) in absurd (omega (arith, l, high))))
        (λ (m : is_member set j ≡ false). m)
        (cases_Bool (is_member set j));
  }
    where
      there : (j : ℕ) → j ≤ k → is_kept (needs_in order) i j ≡ true → Contains set j
      there j low t = ⊎_elim
          (λ (e : j ≡ k). subst (Contains set) (sym e) one.loses.has_later)
          (λ (ne : j ≡ k → ⊥). one.others j (omega (arith, low, ne)) t)
          (cases_eq j k)

  pub has_singles : (plan : List Recipe) (picks : List (List ℕ)) → plan ≡ plan_of order true picks → HasSingles order plan
  has_singles plan picks e i k set low is one =
      let high = below_end k set is one.loses.has_later in (
        subst (λ (v : List Recipe). Contains v (Hole i (k + 1))) (sym e) (listed picks i k low high (stays i k set is one.loses)),
        lacks_is_hole (needs_in order) back (length order) i k set high is
            (lacks i k set is one)
            ∙ sym (hole_same (needs_in order) i (k + 1)),
      )
