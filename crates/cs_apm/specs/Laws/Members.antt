-- The members of a set in order, and the operations in order of which the set has some.
use Rattle.std.proofs.Common.{◌≡◌, ◌≢◌, ℕ, zero, suc, ◌+◌, ◌<◌, ◌≤◌, ◌==◌, Bool, true, false, cond}
use Rattle.std.proofs.Common.{List, [], ◌∷◌, ◌⊎◌, inl, inr, refl, sym, ap, ◌∙◌, arith, ⊎_elim}
use Rattle.std.proofs.Common.{length, map, take, get_or}
use Rattle.std.proofs.lemmas.Bool.{cases_eq, false≢true, eq-eqb, ne_eqb, cases_Bool}
use Rattle.std.proofs.lemmas.List.{map_more}
use Rattle.std.proofs.lemmas.List.Sums.{fold_push}
use Rattle.std.proofs.lemmas.List.Folds.{list_any_at}
use Rattle.std.specs.Prelude.{fold}
use Rattle.std.specs.List.{Contains}
use Rattle.cs_micro.specs.declared.micro_op.MicroOp.{MicroOp}
use Rattle.cs_apm.specs.Rules.{op_at}
use Rattle.cs_sets.specs.Sets.{is_member}

pub found_has : (places : List ℕ) (i : ℕ) → is_member places i ≡ true → (k : ℕ)
    × (k < length places) × (get_or places k 0 ≡ i)
found_has [] i h = absurd (false≢true h)
found_has (j ∷ js) i h = ⊎_elim
    (λ (e : j ≡ i). (0, omega arith, e))
    (λ (e : j ≢ i).
    (let other : j == i ≡ false = ne_eqb j i e in let rest = found_has js i (rw other at h) in
    (suc rest.0, (let l = rest.1 in omega (arith, l)), rest.2)))
    (cases_eq j i)

pub has_at : (places : List ℕ) (k i : ℕ) → k < length places → get_or places k 0 ≡ i
    → is_member places i ≡ true
has_at places k i low e = list_any_at (λ j. j == i) places k 0 low (eq-eqb (get_or places k 0) i e)

pub contains_has : (places : List ℕ) (i : ℕ) → Contains places i → is_member places i ≡ true
contains_has places i c =
    list_any_at (λ j. j == i) places c.0 i c.1 (eq-eqb (get_or places c.0 i) i c.2)

module _ {S : Type 0} (after : S → MicroOp → S) where
  -- after those of the first k operations that the set has
  abbrev pub run : (ℕ → Bool) → S → List MicroOp → ℕ → S
  run t start ops zero = start
  run t start ops (suc k) = cond (t k) (after (run t start ops k) (op_at ops k)) (run t start ops k)

  idle : (t : ℕ → Bool) (start : S) (ops : List MicroOp) (a b : ℕ) → a ≤ b
      → ((i : ℕ) → a ≤ i → i < b → t i ≡ false) → run t start ops b ≡ run t start ops a
  idle t start ops a zero le none = let e : 0 ≡ a = omega (arith, le) in ap (run t start ops) e
  idle t start ops a (suc b) le none = ⊎_elim
      (λ (e : suc b ≡ a). ap (run t start ops) e)
      (λ (e : suc b ≢ a). (let out : t b ≡ false = none b (omega (arith, le, e)) (omega arith) in
      ap (λ w. cond w (after (run t start ops b) (op_at ops b)) (run t start ops b)) out ∙ idle t
      start ops a b (omega (arith, le, e)) (λ i l h. none i l (omega (arith, h)))))
      (cases_eq (suc b) a)

  module _ (start : S) (ops : List MicroOp) (n : ℕ) (places : List ℕ)
      (ascending : (a b : ℕ) → a < b → b < length places → get_or places a 0 < get_or places b 0)
      (in_range : (a : ℕ) → a < length places → get_or places a 0 < n) where
    abbrev next : ℕ → ℕ
    next zero = 0
    next (suc a) = get_or places a 0 + 1

    before_next : (a k : ℕ) → k < a → a ≤ length places → get_or places k 0 < next a
    before_next zero k lt le = absurd (omega (arith, lt))
    before_next (suc a) k lt le = ⊎_elim
        (λ (e : k ≡ a).
        (let s : get_or places k 0 ≡ get_or places a 0 = ap (λ w. get_or places w 0) e in
        omega (arith, s)))
        (λ (e : k ≢ a).
        (let s = ascending k a (omega (arith, lt, e)) (omega (arith, le)) in omega (arith, s)))
        (cases_eq k a)

    not_between : (a i : ℕ) → a ≤ length places → next a ≤ i
        → (a < length places → i < get_or places a 0) → is_member places i ≡ false
    not_between a i le low high = ⊎_elim
        (λ (yes : is_member places i ≡ true). absurd (member (found_has places i yes)))
        (λ (no_member : is_member places i ≡ false). no_member)
        (cases_Bool (is_member places i))
      where
        at_or_after : (a k : ℕ) → (k < a) ⊎ (a ≤ k)
        at_or_after zero k = inr (omega arith)
        at_or_after (suc a) zero = inl (omega arith)
        at_or_after (suc a) (suc k) =
            ⊎_elim (λ (l : k < a). inl (omega (arith, l))) (λ (l : a ≤ k). inr (omega (arith, l)))
            (at_or_after a k)

        member : (k : ℕ) × (k < length places) × (get_or places k 0 ≡ i) → ⊥
        member w = ⊎_elim
            (λ (lt : w.0 < a).
            (let b = before_next a w.0 lt le in let e = w.2 in omega (arith, b, e, low)))
            (λ (ge : a ≤ w.0). ⊎_elim
            (λ (e : w.0 ≡ a).
            (let here = high (let l = w.1 in omega (arith, l, e)) in
            let s : get_or places w.0 0 ≡ get_or places a 0 = ap (λ v. get_or places v 0) e in
            let is = w.2 in omega (arith, here, s, is)))
            (λ (e : w.0 ≢ a).
            (let l = w.1 in let here = high (omega (arith, l, ge)) in let up =
            ascending a w.0 (omega (arith, ge, e)) l in let is = w.2 in
            omega (arith, here, up, is)))
            (cases_eq w.0 a))
            (at_or_after a w.0)

    -- the first a members, and the operations up to the last of them
    taken : (a : ℕ) → a ≤ length places
        → fold after start (map (op_at ops) (take a places))
        ≡ run (is_member places) start ops (next a)
    taken zero le = refl
    taken (suc a) le =
        let low : a < length places = omega (arith, le) in
        let member : is_member places (get_or places a 0) ≡ true =
        has_at places a (get_or places a 0) low refl in
        let gap =
        idle (is_member places) start ops (next a) (get_or places a 0) (next_at a low)
        (λ i l h. not_between a i (omega (arith, le)) l (λ _. h)) in
        let more : suc a ≡ a + 1 = omega arith in
        ap (λ k. fold after start (map (op_at ops) (take k places))) more
        ∙ ap (fold after start) (map_more (op_at ops) places a 0 low)
        ∙ fold_push after start (map (op_at ops) (take a places)) (op_at ops (get_or places a 0))
        ∙ ap (λ s. after s (op_at ops (get_or places a 0))) (taken a (omega (arith, le)) ∙ sym gap)
        ∙ sym (one_more (get_or places a 0) member)
      where
        next_at : (a : ℕ) → a < length places → next a ≤ get_or places a 0
        next_at zero low = omega arith
        next_at (suc a) low = (let s = ascending a (suc a) (omega arith) low in omega (arith, s))

        one_more : (j : ℕ) → is_member places j ≡ true
            → run (is_member places) start ops (j + 1)
            ≡ after (run (is_member places) start ops j) (op_at ops j)
        one_more j member =
            (let e : j + 1 ≡ suc j = omega arith in ap (run (is_member places) start ops) e) ∙ ap
            (λ w. cond w (after (run (is_member places) start ops j) (op_at ops j))
            (run (is_member places) start ops j)) member

    -- all members in order are the operations that the set has
    pub members_run : fold after start (map (op_at ops) places) ≡ run (is_member places) start ops n
    members_run =
        ap (λ w. fold after start (map (op_at ops) w)) (sym (take_all places))
        ∙ taken (length places) (omega arith)
        ∙ sym (idle (is_member places) start ops (next (length places)) n
        (next_low (length places) (omega arith))
        (λ i l h. not_between (length places) i (omega arith) l
        (λ lt. absurd (omega (arith, lt)))))
      where
        next_low : (a : ℕ) → a ≤ length places → next a ≤ n
        next_low zero le = omega arith
        next_low (suc a) le = (let s = in_range a (omega (arith, le)) in omega (arith, s))

        take_all : (xs : List ℕ) → take (length xs) xs ≡ xs
        take_all [] = refl
        take_all (x ∷ xs) = ap (λ w. x ∷ w) (take_all xs)
