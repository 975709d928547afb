-- The members that leave what no earlier one leaves.
use Rattle.std.specs.Prelude.{◌≡◌, ℕ, zero, suc, ◌-◌, ◌&&◌, not, Bool, true, cond, List, [], ◌∷◌, ◌++◌, fold}
use Rattle.std.specs.List.{list_all, list_any, range_with_len, flat_map}
use Rattle.cs_sets.specs.Every.{may, choices, every}

-- what is kept after one more element: the element is added if none that is kept is like it
abbrev pub add_first : {X : Type 0} → (X → X → Bool) → List X → X → List X
add_first like kept x = cond (list_any (λ y. like y x) kept) kept (kept ++ x ∷ [])

-- each element that no earlier one is like
abbrev pub firsts : {X : Type 0} → (X → X → Bool) → List X → List X
firsts like xs = fold (add_first like) [] xs

-- a test that is true of each element and itself, and passes on
pub record IsLike {X : Type 0} (like : X → X → Bool) : Type 0 where
  pub itself : (x : X) → like x x ≡ true
  pub passes_on : (x y z : X) → like x y ≡ true → like y z ≡ true → like x z ≡ true

-- the state that a set leaves: its places act in order
abbrev pub state_of : {S : Type 0} → (S → ℕ → S) → S → List ℕ → S
state_of act start places = fold act start places

abbrev pub same_answer : Bool → Bool → Bool
same_answer a b = cond a b (not b)

-- two sets leave what is alike
abbrev pub leave_alike : {S : Type 0} → (S → S → Bool) → (S → ℕ → S) → S → List ℕ → List ℕ → Bool
leave_alike like act start a b = like (state_of act start a) (state_of act start b)

-- the members that leave what no earlier one leaves
abbrev pub different : {S : Type 0} → (S → S → Bool) → (S → ℕ → S) → S → (ℕ → ℕ → Bool) → ℕ
    → List (List ℕ)
different like act start needs n = firsts (leave_alike like act start) (every needs n)

-- the places from k on that may follow are the same
unfoldable pub same_future : (ℕ → ℕ → Bool) → ℕ → ℕ → List ℕ → List ℕ → Bool
same_future needs n k a b =
    list_all (λ j. same_answer (may needs k a j) (may needs k b j)) (range_with_len k (n - k))

-- two sets of places below k are of one class: equal states, and equal futures
abbrev pub one_class : {S : Type 0} → (S → S → Bool) → (S → ℕ → S) → S → (ℕ → ℕ → Bool) → ℕ → ℕ
    → List ℕ → List ℕ → Bool
one_class same act start needs n k a b =
    same (state_of act start a) (state_of act start b) && same_future needs n k a b

-- the first set of each class of sets of places below k, found place by place
abbrev pub classes : {S : Type 0} → (S → S → Bool) → (S → ℕ → S) → S → (ℕ → ℕ → Bool) → ℕ → ℕ
    → List (List ℕ)
classes same act start needs n zero = [] ∷ []
classes same act start needs n (suc k) =
    firsts (one_class same act start needs n (suc k))
    (flat_map (choices needs k) (classes same act start needs n k))
