-- What comes after a member: with the last place that can be added, and nothing beyond.
use Rattle.std.proofs.Common.{◌≡◌, ◌≢◌, ℕ, zero, suc, ◌+◌, ◌<◌, ◌≤◌, ◌-◌, nat_eq, Bool, true, false, cond}
use Rattle.std.proofs.Common.{List, [], ◌∷◌, ◌++◌, refl, sym, ap, ◌∙◌, arith, ⊎_elim, append_assoc, subst}
use Rattle.std.proofs.lemmas.Bool.{cases_Bool, cases_eq, false≢true}
use Rattle.std.proofs.lemmas.Cmp.{nat_list_eq_equiv}
use Rattle.std.proofs.lemmas.List.{append-nil}
use Rattle.std.proofs.lemmas.List.Concat.{flat_map-append}
use Rattle.std.proofs.lemmas.List.Elements.{All-contains, Contains-append_right, filter-append}
use Rattle.std.specs.Cmp.Lexicographic.{pointwise, same_text}
use Rattle.std.specs.List.{All, Contains, filter, flat_map, range_with_len}
use Rattle.cs_sets.specs.Chains.{IsBackward}
use Rattle.cs_sets.specs.Sets.{is_member}
use Rattle.cs_sets.specs.Every.{IsBefore, may, choices, every}
use Rattle.cs_sets.specs.Following.{chosen, from_on, every_from, IsClosed, IsFree, HasNoneFree, IsLastFree, cut_with}
use Rattle.cs_sets.specs.Laws.Ascending.{every_ordered, not_before_itself}
use Rattle.cs_sets.specs.Laws.Lists.{Ordered, range_more}
use Rattle.cs_sets.specs.Laws.Members.{member_last, member_other, may_from, may_says}

-- the list ends in the element
abbrev IsEnd : {X : Type 0} → List X → X → Type 0
IsEnd {X} xs x = (before : List X) × (xs ≡ before ++ x ∷ [])

-- the second element comes right after the first
abbrev IsPair : {X : Type 0} → List X → X → X → Type 0
IsPair {X} xs x y = (before : List X) × ((after : List X) × (xs ≡ before ++ x ∷ y ∷ after))

-- the element is there
abbrev IsPart : {X : Type 0} → List X → X → Type 0
IsPart {X} xs x = (before : List X) × ((after : List X) × (xs ≡ before ++ x ∷ after))

flat_end : {X Y : Type 0} (f : X → List Y) (xs : List X) (x : X) (z : Y) → IsEnd xs x
    → IsEnd (f x) z → IsEnd (flat_map f xs) z
flat_end f xs x z at last = (
  flat_map f at.0 ++ last.0,
  ap (flat_map f) at.1 ∙ flat_map-append f at.0 (x ∷ [])
      ∙ ap (λ v. flat_map f at.0 ++ v) (append-nil (f x) ∙ last.1)
      ∙ sym (append_assoc (flat_map f at.0) last.0 (z ∷ [])),
)

flat_pair : {X Y : Type 0} (f : X → List Y) (xs : List X) (x y : X) (z w : Y) (rest : List Y)
    → IsPair xs x y → IsEnd (f x) z → f y ≡ w ∷ rest
    → IsPair (flat_map f xs) z w
flat_pair f xs x y z w rest at last first = (
  flat_map f at.0 ++ last.0,
  (
    rest ++ flat_map f at.1.0,
    ap (flat_map f) at.1.1 ∙ flat_map-append f at.0 (x ∷ y ∷ at.1.0)
        ∙ ap (λ v. flat_map f at.0 ++ (v ++ (f y ++ flat_map f at.1.0))) last.1
        ∙ ap (λ v. flat_map f at.0 ++ ((last.0 ++ z ∷ []) ++ (v ++ flat_map f at.1.0))) first
        ∙ ap (λ v. flat_map f at.0 ++ v) (append_assoc last.0 (z ∷ [])
        (w ∷ (rest ++ flat_map f at.1.0)))
        ∙ sym (append_assoc (flat_map f at.0) last.0 (z ∷ w ∷ (rest ++ flat_map f at.1.0))),
  ),
)

flat_part : {X Y : Type 0} (f : X → List Y) (xs : List X) (x : X) (z w : Y) → IsPart xs x → f x
    ≡ z ∷ w ∷ [] → IsPair (flat_map f xs) z w
flat_part f xs x z w at two = (
  flat_map f at.0,
  (
    flat_map f at.1.0,
    ap (flat_map f) at.1.1 ∙ flat_map-append f at.0 (x ∷ at.1.0)
        ∙ ap (λ v. flat_map f at.0 ++ (v ++ flat_map f at.1.0)) two,
  ),
)

flat_in : {X Y : Type 0} (f : X → List Y) (xs : List X) (x : X) (z : Y) → IsPart xs x
    → IsPart (f x) z → IsPart (flat_map f xs) z
flat_in f xs x z at inner = (
  flat_map f at.0 ++ inner.0,
  (
    inner.1.0 ++ flat_map f at.1.0,
    ap (flat_map f) at.1.1 ∙ flat_map-append f at.0 (x ∷ at.1.0)
        ∙ ap (λ v. flat_map f at.0 ++ (v ++ flat_map f at.1.0)) inner.1.1
        ∙ ap (λ v. flat_map f at.0 ++ v) (append_assoc inner.0 (z ∷ inner.1.0) (flat_map f at.1.0))
        ∙ sym (append_assoc (flat_map f at.0) inner.0 (z ∷ (inner.1.0 ++ flat_map f at.1.0))),
  ),
)

-- ---- what passes a test, as a list

pub chosen_more : (has : ℕ → Bool) (k : ℕ) → chosen has (suc k)
    ≡ chosen has k ++ cond (has k) (k ∷ []) []
chosen_more has k =
    let e : suc k ≡ k + 1 = omega arith in
    ap (chosen has) e ∙ ap (filter has) (range_more k)
    ∙ filter-append has (range_with_len 0 k) (k ∷ [])

pub chosen_with : (has : ℕ → Bool) (k : ℕ) → has k ≡ true → chosen has (suc k)
    ≡ chosen has k ++ k ∷ []
chosen_with has k t = chosen_more has k ∙ ap (λ b. chosen has k ++ cond b (k ∷ []) []) t

pub chosen_without : (has : ℕ → Bool) (k : ℕ) → has k ≡ false → chosen has (suc k) ≡ chosen has k
chosen_without has k f = chosen_more has k ∙ ap (λ b. chosen has k ++ cond b (k ∷ []) []) f
    ∙ append-nil (chosen has k)

pub chosen_past : (has : ℕ → Bool) (k i : ℕ) → k ≤ i → is_member (chosen has k) i ≡ false
chosen_past has zero i high = refl
chosen_past has (suc k) i high = ⊎_elim
    (λ (t : has k ≡ true).
    ap (λ v. is_member v i) (chosen_with has k t) ∙ member_other (chosen has k) k i
    (λ e. omega (arith, e, high))
    ∙ chosen_past has k i (omega (arith, high)))
    (λ (f : has k ≡ false). ap (λ v. is_member v i) (chosen_without has k f)
    ∙ chosen_past has k i (omega (arith, high)))
    (cases_Bool (has k))

pub chosen_has : (has : ℕ → Bool) (k i : ℕ) → i < k → is_member (chosen has k) i ≡ has i
chosen_has has zero i low = absurd (omega (arith, low))
chosen_has has (suc k) i low = ⊎_elim
    (λ (t : has k ≡ true). ap (λ v. is_member v i) (chosen_with has k t) ∙ ⊎_elim
    (λ (e : k ≡ i). ap (λ v. is_member (chosen has k ++ v ∷ []) i) e ∙ member_at e
    ∙ sym (ap has (sym e) ∙ t))
    (λ (ne : k ≢ i). member_other (chosen has k) k i ne
    ∙ chosen_has has k i (omega (arith, low, ne)))
    (cases_eq k i))
    (λ (f : has k ≡ false). ap (λ v. is_member v i) (chosen_without has k f) ∙ ⊎_elim
    (λ (e : k ≡ i). none_there e ∙ sym (ap has (sym e) ∙ f))
    (λ (ne : k ≢ i). chosen_has has k i (omega (arith, low, ne)))
    (cases_eq k i))
    (cases_Bool (has k))
  where
    member_at : k ≡ i → is_member (chosen has k ++ i ∷ []) i ≡ true
    member_at e = member_last (chosen has k) i

    none_there : k ≡ i → is_member (chosen has k) i ≡ false
    none_there e = chosen_past has k i (omega (arith, e))

pub chosen_same : (p q : ℕ → Bool) (k : ℕ) → ((i : ℕ) → i < k → p i ≡ q i) → chosen p k ≡ chosen q k
chosen_same p q zero same = refl
chosen_same p q (suc k) same =
    chosen_more p k ∙ ap (λ v. v ++ cond (p k) (k ∷ []) [])
    (chosen_same p q k (λ i low. same i (omega (arith, low))))
    ∙ ap (λ b. chosen q k ++ cond b (k ∷ []) []) (same k (omega arith)) ∙ sym (chosen_more q k)

-- no place from k on passes
pub chosen_on : (has : ℕ → Bool) (k d : ℕ) → ((i : ℕ) → k ≤ i → i < k + d → has i ≡ false)
    → chosen has (k + d) ≡ chosen has k
chosen_on has k zero none = let e : k + 0 ≡ k = omega arith in ap (chosen has) e
chosen_on has k (suc d) none =
    let e : k + suc d ≡ suc (k + d) = omega arith in
    ap (chosen has) e ∙ chosen_without has (k + d) (none (k + d) (omega arith) (omega arith))
    ∙ chosen_on has k d (λ i low high. none i low (omega (arith, high)))

-- ---- level by level

module _ (needs : ℕ → ℕ → Bool) (back : IsBackward needs) (n : ℕ) (has : ℕ → Bool)
    (closed : IsClosed needs n has) where
  may_chosen : (j : ℕ) → ((i : ℕ) → needs i j ≡ true → has i ≡ true) → may needs j (chosen has j) j
      ≡ true
  may_chosen j all = may_from needs j (chosen has j) j (λ i low t. chosen_has has j i low ∙ all i t)

  chosen_may : (j : ℕ) → may needs j (chosen has j) j ≡ true → (i : ℕ) → needs i j ≡ true → has i
      ≡ true
  chosen_may j t i is =
      let low = back i j is in sym (chosen_has has j i low)
      ∙ may_says needs j (chosen has j) j i t low is

  two_choices : (j : ℕ) → may needs j (chosen has j) j ≡ true → choices needs j (chosen has j)
      ≡ chosen has j ∷ (chosen has j ++ j ∷ []) ∷ []
  two_choices j t = ap (λ b. chosen has j ∷ cond b ((chosen has j ++ j ∷ []) ∷ []) []) t

  -- what passes below the next place is the last choice, unless the place can be added
  last_choice : (j : ℕ) → j < n → ¬ IsFree needs has j
      → IsEnd (choices needs j (chosen has j)) (chosen has (suc j))
  last_choice j low bound = ⊎_elim
      (λ (t : has j ≡ true). (
        chosen has j ∷ [],
        two_choices j (may_chosen j (λ i is. closed i j low t is))
            ∙ ap (λ v. chosen has j ∷ v ∷ []) (sym (chosen_with has j t)),
      ))
      (λ (f : has j ≡ false). ⊎_elim
      (λ (m : may needs j (chosen has j) j ≡ true). absurd
      (bound (record { missing = f; closed = chosen_may j m })))
      (λ (m : may needs j (chosen has j) j ≡ false). (
        [],
        ap (λ b. chosen has j ∷ cond b ((chosen has j ++ j ∷ []) ∷ []) []) m
            ∙ ap (λ v. v ∷ []) (sym (chosen_without has j f)),
      ))
      (cases_Bool (may needs j (chosen has j) j)))
      (cases_Bool (has j))

  -- what passes is a member
  choice_part : (j : ℕ) → j < n → IsPart (choices needs j (chosen has j)) (chosen has (suc j))
  choice_part j low = ⊎_elim
      (λ (t : has j ≡ true). (
        chosen has j ∷ [],
        (
          [],
          two_choices j (may_chosen j (λ i is. closed i j low t is))
              ∙ ap (λ v. chosen has j ∷ v ∷ []) (sym (chosen_with has j t)),
        ),
      ))
      (λ (f : has j ≡ false). (
        [],
        (
          cond (may needs j (chosen has j) j) ((chosen has j ++ j ∷ []) ∷ []) [],
          ap (λ v. v ∷ cond (may needs j (chosen has j) j) ((chosen has j ++ j ∷ []) ∷ []) [])
              (sym (chosen_without has j f)),
        ),
      ))
      (cases_Bool (has j))

  part : (j : ℕ) → j ≤ n → IsPart (every needs j) (chosen has j)
  part zero low = ([], ([], refl))
  part (suc j) low =
      flat_in (choices needs j) (every needs j) (chosen has j) (chosen has (suc j))
      (part j (omega (arith, low))) (choice_part j (omega (arith, low)))

  -- it is the last one, if no place can be added
  last : (j : ℕ) → j ≤ n → HasNoneFree needs has 0 n → IsEnd (every needs j) (chosen has j)
  last zero low none = ([], refl)
  last (suc j) low none =
      flat_end (choices needs j) (every needs j) (chosen has j) (chosen has (suc j))
      (last j (omega (arith, low)) none)
      (last_choice j (omega (arith, low)) (none j (omega arith) (omega (arith, low))))

  module _ (k : ℕ) (is : IsLastFree needs has n k) where
    abbrev added : List ℕ
    added = chosen has k ++ k ∷ []

    -- and else the one with the last such place, and nothing beyond, comes after it
    pair : (d : ℕ) → suc k + d ≤ n → IsPair (every needs (suc k + d)) (chosen has (suc k + d)) added
    pair zero low =
        let e : suc k + 0 ≡ suc k = omega arith in
        subst_pair (sym e)
        (flat_part (choices needs k) (every needs k) (chosen has k) (chosen has (suc k)) added
        (part k (omega (arith, low)))
        (two_choices k (may_chosen k is.free.closed) ∙ ap (λ v. v ∷ added ∷ [])
        (sym (chosen_without has k is.free.missing))))
      where
        subst_pair : {j l : ℕ} → j ≡ l → IsPair (every needs j) (chosen has j) added
            → IsPair (every needs l) (chosen has l) added
        subst_pair {j} e p = subst (λ v. IsPair (every needs v) (chosen has v) added) e p
    pair (suc d) low =
        let j = suc k + d in
        let e : suc k + suc d ≡ suc (suc k + d) = omega arith in
        subst (λ v. IsPair (every needs v) (chosen has v) added) (sym e)
        (flat_pair (choices needs j) (every needs j) (chosen has j) added (chosen has (suc j)) added
        (cond (may needs j added j) ((added ++ j ∷ []) ∷ []) []) (pair d (omega (arith, low)))
        (last_choice j (omega (arith, low)) (is.last j (omega arith) (omega (arith, low)))) refl)

    pub next_pair : IsPair (every needs n) (chosen has n) added
    next_pair =
        let b = is.below in
        let e : suc k + (n - suc k) ≡ n = omega (arith, b) in
        subst (λ v. IsPair (every needs v) (chosen has v) added) e
        (pair (n - suc k) (omega (arith, b)))

-- ---- from a member on

other_set : (a b : List ℕ) → a ≢ b → pointwise nat_eq a b ≡ false
other_set a b ne = ⊎_elim
    (λ (t : pointwise nat_eq a b ≡ true). absurd (ne (same_text a b (sym t))))
    (λ (f : pointwise nat_eq a b ≡ false). f)
    (cases_Bool (pointwise nat_eq a b))

from_split : (before : List (List ℕ)) (x : List ℕ) (after : List (List ℕ))
    → Ordered IsBefore (before ++ x ∷ after)
    → from_on x (before ++ x ∷ after) ≡ x ∷ after
from_split [] x after h = ap (λ b. cond b (x ∷ after) (from_on x after)) (nat_list_eq_equiv.refl x)
from_split (b ∷ bs) x after h =
    let ne = not_before_itself b x (All-contains (IsBefore b) (bs ++ x ∷ after) x h.0
    (Contains-append_right bs (x ∷ after) x (0, omega arith, refl))) in
    ap (λ v. cond v (b ∷ (bs ++ x ∷ after)) (from_on x (bs ++ x ∷ after))) (other_set b x ne)
    ∙ from_split bs x after h.1

from_first : (xs before : List (List ℕ)) (x : List ℕ) (after : List (List ℕ)) → Ordered IsBefore xs
    → xs ≡ before ++ x ∷ after
    → from_on x xs ≡ x ∷ after
from_first xs before x after h e = ap (from_on x) e
    ∙ from_split before x after (subst (Ordered IsBefore) e h)

module _ (needs : ℕ → ℕ → Bool) (back : IsBackward needs) (n : ℕ) (has : ℕ → Bool)
    (closed : IsClosed needs n has) where
  -- no place can be added: nothing comes after it
  pub none_follows : HasNoneFree needs has 0 n → every_from needs n (chosen has n)
      ≡ chosen has n ∷ []
  none_follows none =
      let w = last needs back n has closed n (omega arith) none in
      from_first (every needs n) w.0 (chosen has n) [] (every_ordered needs back n) w.1

  -- one can: the set with the last such place, and nothing beyond, comes next
  pub one_follows : (k : ℕ) → IsLastFree needs has n k
      → every_from needs n (chosen has n) ≡ chosen has n ∷ every_from needs n
      (chosen has k ++ k ∷ [])
  one_follows k is =
      let w = next_pair needs back n has closed k is in
      let next = chosen has k ++ k ∷ [] in
      let here = from_first (every needs n) w.0 (chosen has n) (next ∷ w.1.0)
      (every_ordered needs back n) w.1.1 in
      let there = from_first (every needs n) (w.0 ++ chosen has n ∷ []) next w.1.0
      (every_ordered needs back n)
      (w.1.1 ∙ sym (append_assoc w.0 (chosen has n ∷ []) (next ∷ w.1.0))) in
      here ∙ ap (λ v. chosen has n ∷ v) (sym there)

-- the first member is empty
pub from_empty : (needs : ℕ → ℕ → Bool) → IsBackward needs → (n : ℕ) → every_from needs n []
    ≡ every needs n
from_empty needs back n =
    let w = begins n in
    from_first (every needs n) [] [] w.0 (every_ordered needs back n) w.1 ∙ sym w.1
  where
    begins : (m : ℕ) → (rest : List (List ℕ)) × (every needs m ≡ [] ∷ rest)
    begins zero = ([], refl)
    begins (suc m) =
        let w = begins m in (
          cond (may needs m [] m) (([] ++ m ∷ []) ∷ []) [] ++ flat_map (choices needs m) w.0,
          ap (flat_map (choices needs m)) w.1,
        )
