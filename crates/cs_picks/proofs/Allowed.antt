-- Each set of a family is allowed.
use Rattle.std.proofs.Common.{◌≡◌, ℕ, zero, suc, ◌+◌, ◌-◌, ◌<◌, ◌≤◌, ◌==◌, Bool, true, false, cond, List, [], ◌∷◌, length, map, Option}
use Rattle.std.proofs.Common.{refl, sym, ap, ◌∙◌, ⊎_elim, arith}
use Rattle.std.proofs.lemmas.Bool.{and_from, and_parts, eqb-true, or_cases, or_right}
use Rattle.std.proofs.lemmas.List.Elements.{All-append, All-cons, All-nil}
use Rattle.std.proofs.lemmas.List.FromFn.{length-map-range_with_len}
use Rattle.std.specs.List.{All, flat_map, range_with_len}
use Rattle.cs_micro.specs.Micros.{Micros}
use Rattle.cs_sets.specs.Chains.{Chain, IsBackward, by_chain}
use Rattle.cs_sets.specs.Laws.Chains.{chain_found, found_chain}
use Rattle.cs_sets.specs.Orders.{needs_in}
use Rattle.cs_sets.specs.Sets.{IsAllowed}
use Rattle.cs_plan.specs.Plans.{is_kept}
use Rattle.cs_plan.proofs.Permitted.{hole_keeps, kept_allowed}
use Rattle.cs_picks.specs.Changes.{changed_files}
use Rattle.cs_plan.proofs.Orders.{length_order}
use Rattle.cs_plan.specs.Plans.{IsAllowedIn}
use Rattle.cs_plan.specs.Scenes.{Scene, micros_of, order_in}
use Rattle.cs_picks.specs.declared.family.Family.{Family}
use Rattle.cs_picks.specs.declared.family.Family.TheVariants.{Both, Files, Lost}
use Rattle.cs_picks.specs.Families.{family_in, files_sets, is_needed, least_with, lost_sets, prefix_sets, sets_without}
use Rattle.cs_picks.specs.Left.{is_given, left_of, lost_places, stays}
use Rattle.cs_picks.specs.Losses.{losses_of, lost_at}

-- a chain with a need more at its low end
behind : (needs : ℕ → ℕ → Bool) (n i k j : ℕ) → needs i k ≡ true → Chain needs n k j → Chain needs (suc n) i j
behind needs zero i k j is c = (k, (is, c))
behind needs (suc n) i k j is (m, (c, last)) = (m, (behind needs n i k m is c, last))

needs_chained : (needs : ℕ → ℕ → Bool) → IsBackward needs → (i k j : ℕ) → needs i k ≡ true → by_chain needs k j ≡ true
    → by_chain needs i j ≡ true
unfolding by_chain
needs_chained needs back i k j is chained =
    let w = found_chain needs (j + 1) k j chained in
    chain_found needs back (suc w.0) i j (behind needs w.0 i k j is w.1)

-- what is needed by what is needed is needed
needed_keeps : (needs : ℕ → ℕ → Bool) → IsBackward needs → (place i k : ℕ) → needs i k ≡ true → is_needed needs place k ≡ true
    → is_needed needs place i ≡ true
needed_keeps needs back place i k is needed = or_right (i == place) (by_chain needs i place) (⊎_elim
    (λ (e : (k == place) ≡ true). chain_found needs back 0 i place (ap (needs i) (sym (eqb-true k place e)) ∙ is))
    (λ (e : by_chain needs k place ≡ true). needs_chained needs back i k place is e)
    (or_cases (k == place) (by_chain needs k place) needed))

-- what a place needs stays if the place does
stays_keeps : (needs : ℕ → ℕ → Bool) → IsBackward needs → (lost : List ℕ) (i k : ℕ) → needs i k ≡ true → stays needs lost k ≡ true
    → stays needs lost i ≡ true
stays_keeps needs back [] i k is kept = refl
stays_keeps needs back (m ∷ ms) i k is kept =
    let parts = and_parts (is_kept needs m k) (stays needs ms k) kept in
    and_from (is_kept needs m i) (stays needs ms i) (hole_keeps needs back m i k is parts.0) (stays_keeps needs back ms i k is parts.1)

all_range : {X : Type 0} (P : X → Type 0) (f : ℕ → X) (a n : ℕ) → ((k : ℕ) → k < a + n → P (f k)) → All P (map f (range_with_len a n))
all_range P f a zero h = All-nil P
all_range P f a (suc n) h = All-cons P (f a) _ (h a (omega arith)) (all_range P f (a + 1) n (λ k l. h k (omega (arith, l))))

all_flat : {X Y : Type 0} (P : X → Type 0) (f : Y → List X) (ys : List Y) → ((y : Y) → All P (f y)) → All P (flat_map f ys)
all_flat P f [] h = All-nil P
all_flat P f (y ∷ ys) h = All-append P (f y) (flat_map f ys) (h y) (all_flat P f ys h)

all_flat_range : {X : Type 0} (P : X → Type 0) (f : ℕ → List X) (a n : ℕ) → ((k : ℕ) → k < a + n → All P (f k))
    → All P (flat_map f (range_with_len a n))
all_flat_range P f a zero h = All-nil P
all_flat_range P f a (suc n) h =
    All-append P (f a) (flat_map f (range_with_len (a + 1) n)) (h a (omega arith))
    (all_flat_range P f (a + 1) n (λ k l. h k (omega (arith, l))))

one_or_none : {X : Type 0} (P : X → Type 0) (b : Bool) (x : X) → P x → All P (cond b (x ∷ []) [])
one_or_none P true x h = All-cons P x [] h (All-nil P)
one_or_none P false x h = All-nil P

module _ (needs : ℕ → ℕ → Bool) (n : ℕ) (back : IsBackward needs) where
  pub least_allowed : (place : ℕ) → place < n → IsAllowed needs n (least_with needs place)
  least_allowed place there =
      kept_allowed needs n (place + 1) (is_needed needs place) back (omega (arith, there)) (needed_keeps needs back place)

  pub left_allowed : (lost : List ℕ) (end : ℕ) → end ≤ n → IsAllowed needs n (left_of needs lost end)
  left_allowed lost end few = kept_allowed needs n end (stays needs lost) back few (stays_keeps needs back lost)

  without_allowed : (shorter losses : List (Option ℕ)) (file : ℕ) → length losses ≤ n
      → All (IsAllowed needs n) (sets_without needs shorter losses file)
  without_allowed shorter losses file few =
      one_or_none (IsAllowed needs n) (is_given needs (lost_places shorter file) (lost_places losses file) (length losses)) _
      (left_allowed (lost_places losses file) (length losses) few)

pub lost_good : (order : List (List Bool)) → IsBackward (needs_in order) → All (IsAllowed (needs_in order) (length order)) (lost_sets order)
lost_good order back =
    all_range (IsAllowed (needs_in order) (length order)) (least_with (needs_in order)) 0 (length order)
    (λ k l. least_allowed (needs_in order) (length order) back k (omega (arith, l)))

pub files_good : (m : Micros) (order : List (List Bool)) → length order ≡ length m.ops → IsBackward (needs_in order)
    → All (IsAllowed (needs_in order) (length order)) (files_sets m order)
files_good m order long back =
    all_flat_range (IsAllowed (needs_in order) (length order)) (prefix_sets m order) 0 (length m.ops + 1) (λ end l.
    let e = length-map-range_with_len (lost_at m.ops m.syncs (end - 1)) 0 end in
    all_flat (IsAllowed (needs_in order) (length order))
    (sets_without (needs_in order) (losses_of m.ops m.syncs (end - 1)) (losses_of m.ops m.syncs end)) (changed_files m.ops) (λ file.
    without_allowed (needs_in order) (length order) back (losses_of m.ops m.syncs (end - 1)) (losses_of m.ops m.syncs end) file
    (omega (arith, e, l, long))))

pub family_good : (s : Scene) (family : Family) → IsBackward (needs_in (order_in s)) → All (IsAllowedIn (order_in s)) (family_in s family)
family_good s Lost back = lost_good (order_in s) back
family_good s Files back = files_good (micros_of s) (order_in s) (length_order (micros_of s)) back
family_good s Both back =
    All-append (IsAllowedIn (order_in s)) (lost_sets (order_in s)) (files_sets (micros_of s) (order_in s)) (lost_good (order_in s) back)
    (files_good (micros_of s) (order_in s) (length_order (micros_of s)) back)
