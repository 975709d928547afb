-- Allowed sets, place by place.
use Rattle.std.proofs.Common.{◌≡◌, ℕ, ◌+◌, ◌<◌, ◌≤◌, ◌==◌, ◌||◌, Bool, true, false, List, length, get_or, sym, ap, ◌∙◌, ⊎_elim, arith}
use Rattle.std.proofs.lemmas.Bool.{cases_eq, cases_lt, false≢true, or_cases, or_left, or_right, eqb-true, eq-eqb}
use Rattle.std.proofs.lemmas.List.{get_or_default}
use Rattle.cs_sets.specs.declared.row.Row.{Row}
use Rattle.cs_sets.specs.Bits.{has_place}
use Rattle.cs_sets.specs.Chains.{IsBackward}
use Rattle.cs_sets.specs.Sets.{IsAllowed}

-- the first so many places are good, and these are the members
pub record IsSoFar (needs : ℕ → ℕ → Bool) (n : ℕ) (places : List ℕ) (members : Row) (next at : ℕ) : Type 0 where
  pub ascending : (a b : ℕ) → a < b → b < at → get_or places a 0 < get_or places b 0
  pub below : (a : ℕ) → a < at → get_or places a 0 < next
  pub in_range : (a : ℕ) → a < at → get_or places a 0 < n
  pub closed : (a i : ℕ) → a < at → needs i (get_or places a 0) ≡ true → has_place members i ≡ true
  pub from_places : (i : ℕ) → has_place members i ≡ true → (a : ℕ) × ((a < at) × (get_or places a 0 ≡ i))
  pub last : 0 < next → (a : ℕ) × ((a < at) × (get_or places a 0 + 1 ≡ next))
  pub to_members : (a : ℕ) → a < at → has_place members (get_or places a 0) ≡ true

pub none_so_far : (needs : ℕ → ℕ → Bool) (n : ℕ) (places : List ℕ) (members : Row) → ((k : ℕ) → has_place members k ≡ false)
    → IsSoFar needs n places members 0 0
none_so_far needs n places members empty = record {
  ascending = λ a b x y. absurd (omega (arith, y));
  below = λ a x. absurd (omega (arith, x));
  in_range = λ a x. absurd (omega (arith, x));
  closed = λ a i x is. absurd (omega (arith, x));
  from_places = λ i is. absurd (false≢true (sym (empty i) ∙ is));
  last = λ x. absurd (omega (arith, x));
  to_members = λ a x. absurd (omega (arith, x));
}

pub one_more : (needs : ℕ → ℕ → Bool) (n : ℕ) (places : List ℕ) (members more : Row) (next at p : ℕ) → p ≡ get_or places at 0
    → next ≤ p → p < n → ((i : ℕ) → needs i p ≡ true → has_place members i ≡ true)
    → ((k : ℕ) → has_place more k ≡ (k == p || has_place members k))
    → IsSoFar needs n places members next at → IsSoFar needs n places more (p + 1) (at + 1)
one_more needs n places members more next at p is after inside needed set so_far = record {
  ascending = λ a b x y. ⊎_elim
      (λ (e : b ≡ at). let h = so_far.below a (omega (arith, x, y)) in let f : get_or places b 0 ≡ p =
      ap (λ v. get_or places v 0) e ∙ sym is in omega (arith, h, f, after))
      (λ (e : b ≡ at → ⊥). so_far.ascending a b x (omega (arith, y, e)))
      (cases_eq b at);
  below = λ a x. ⊎_elim
      (λ (e : a ≡ at). let f : get_or places a 0 ≡ p = ap (λ v. get_or places v 0) e ∙ sym is in omega (arith, f))
      (λ (e : a ≡ at → ⊥). let h = so_far.below a (omega (arith, x, e)) in omega (arith, h, after))
      (cases_eq a at);
  in_range = λ a x. ⊎_elim
      (λ (e : a ≡ at). let f : get_or places a 0 ≡ p = ap (λ v. get_or places v 0) e ∙ sym is in omega (arith, f, inside))
      (λ (e : a ≡ at → ⊥). so_far.in_range a (omega (arith, x, e)))
      (cases_eq a at);
  closed = λ a i x t. set i ∙ or_right (i == p) (has_place members i) (⊎_elim
      (λ (e : a ≡ at). let f : get_or places a 0 ≡ p = ap (λ v. get_or places v 0) e ∙ sym is in needed i (sym (ap (λ v. needs i v) f) ∙ t))
      (λ (e : a ≡ at → ⊥). so_far.closed a i (omega (arith, x, e)) t)
      (cases_eq a at));
  from_places = λ i t. ⊎_elim
      (λ (e : (i == p) ≡ true). (at, (omega arith, sym is ∙ sym (eqb-true i p e))))
      (λ (e : has_place members i ≡ true). let w = so_far.from_places i e in (w.0, (omega (arith, w.1.0), w.1.1)))
      (or_cases (i == p) (has_place members i) (sym (set i) ∙ t));
  last = λ x. (at, (omega arith, ap (λ v. v + 1) (sym is)));
  to_members = λ a x. ⊎_elim
      (λ (e : a ≡ at). let f : get_or places a 0 ≡ p = ap (λ v. get_or places v 0) e ∙ sym is in
      set (get_or places a 0) ∙ or_left (get_or places a 0 == p) (has_place members (get_or places a 0)) (eq-eqb _ _ f))
      (λ (e : a ≡ at → ⊥). set (get_or places a 0) ∙ or_right (get_or places a 0 == p) (has_place members (get_or places a 0))
      (so_far.to_members a (omega (arith, x, e))))
      (cases_eq a at);
}

pub all_so_far : (needs : ℕ → ℕ → Bool) (n : ℕ) (places : List ℕ) (members : Row) (next : ℕ)
    → IsSoFar needs n places members next (length places) → IsAllowed needs n places
all_so_far needs n places members next so_far = record {
  ascending = so_far.ascending;
  in_range = so_far.in_range;
  closed = λ a i x t. let w = so_far.from_places i (so_far.closed a i x t) in (w.0, w.1.0, get_or_default places w.0 i 0 w.1.0 ∙ w.1.1);
}

-- what an allowed set says of the place that comes next
module _ (needs : ℕ → ℕ → Bool) (n : ℕ) (places : List ℕ) (members : Row) (next at p : ℕ) (inside : at < length places)
    (is : p ≡ get_or places at 0)
    (so_far : IsSoFar needs n places members next at) (allowed : IsAllowed needs n places) where
  pub after_too : next ≤ p
  after_too = ⊎_elim
      (λ (x : 0 < next). let w = so_far.last x in let h = allowed.ascending w.0 at w.1.0 inside in omega (arith, h, is, w.1.1))
      (λ (z : next ≤ 0). omega (arith, z))
      (cases_lt 0 next)

  pub in_range_too : p < n
  in_range_too = let h = allowed.in_range at inside in omega (arith, h, is)

  pub needed_too : IsBackward needs → (i : ℕ) → needs i p ≡ true → has_place members i ≡ true
  needed_too back i t =
      let w = allowed.closed at i inside (ap (λ v. needs i v) (sym is) ∙ t) in
      let low = back i p t in
      let there : get_or places w.0 0 ≡ i = get_or_default places w.0 0 i w.1 ∙ w.2 in
      ⊎_elim
      (λ (l : w.0 < at). ap (λ v. has_place members v) (sym there) ∙ so_far.to_members w.0 l)
      (λ (h : at ≤ w.0). ⊎_elim
      (λ (e : w.0 ≡ at). let f : get_or places w.0 0 ≡ get_or places at 0 = ap (λ v. get_or places v 0) e in
      absurd (omega (arith, f, there, is, low)))
      (λ (e : w.0 ≡ at → ⊥). let later = allowed.ascending at w.0 (omega (arith, h, e)) w.1 in
      absurd (omega (arith, later, there, is, low)))
      (cases_eq w.0 at))
      (cases_lt w.0 at)
