-- Bits of words.
use Rattle.std.proofs.Common.{◌≡◌, ◌≢◌, ℕ, ◌+◌, ◌*◌, ◌/◌, ◌%◌, ◌^◌, ◌<◌, ◌≤◌, ◌==◌, ◌||◌, Bool, true, false, List, length, get_or, set, max}
use Rattle.std.proofs.Common.{◌&&◌, not, bit_xor, bit_or, bit_and, refl, sym, ap, ◌∙◌, ⊎_elim, arith, get_or-set_other, get_or-set_same}
use Rattle.std.proofs.lemmas.Bool.{cases_eq, cases_lt, eq-eqb, ne_eqb, eqb-true, false≢true}
use Rattle.std.proofs.lemmas.List.{get_or_past, get_or-replicate}
use Rattle.std.proofs.lemmas.Nat.Bits.{bit_at-zero, bit_at_or, bit_at_xor, bit_at_set_same, bit_at_set_other, bit_at-lt, same_from_bits, bit_at_above}
use Rattle.std.proofs.lemmas.Nat.Bits.{bit_at_clear_same, bit_at_clear_other}
use Rattle.std.specs.Int.{bit_at, bit_not, w64}
use Rattle.std.proofs.Common.{replicate}
use Rattle.cs_sets.specs.Bits.{has_bit}

abbrev pub zeros : List ℕ
zeros = replicate 16 0

zero_word : (m : ℕ) → get_or zeros m 0 ≡ 0
zero_word m = ⊎_elim
    (λ (l : m < 16). get_or-replicate 16 m 0 0 l)
    (λ (h : 16 ≤ m). get_or_past zeros m 0 h)
    (cases_lt m 16)

pub no_bit : (k : ℕ) → has_bit zeros k ≡ false
no_bit k = let z = zero_word (k / 64) in let e : bit_at (get_or zeros (k / 64) 0) (k % 64) ≡ 0 =
    ap (λ v. bit_at v (k % 64)) z ∙ bit_at-zero (k % 64) in ap (λ v. v == 1) e

pub set_bit : (ws : List ℕ) (p k : ℕ) → length ws ≡ 16 → p < 1024
    → has_bit (set ws (p / 64) (bit_or (get_or ws (p / 64) 0) (1 * 2 ^ (p % 64) % 2 ^ 64))) k ≡ (k == p || has_bit ws k)
set_bit ws p k long low =
    let v = bit_or (get_or ws (p / 64) 0) (1 * 2 ^ (p % 64) % 2 ^ 64) in
    let inside : p / 64 < length ws = omega arith in
    ⊎_elim
    (λ (q : k / 64 ≡ p / 64).
    let word : get_or (set ws (p / 64) v) (k / 64) 0 ≡ v =
    ap (λ m. get_or (set ws (p / 64) v) m 0) q ∙ get_or-set_same ws (p / 64) v 0 inside in
    ⊎_elim
    (λ (r : k % 64 ≡ p % 64).
    let same : k ≡ p = omega arith in
    let t : (k == p) ≡ true = eq-eqb k p same in
    let bit : bit_at v (k % 64) ≡ 1 = ap (λ i. bit_at v i) r ∙ bit_at_set_same w64 (get_or ws (p / 64) 0) (p % 64) (omega arith) in
    ap (λ x. bit_at x (k % 64) == 1) word ∙ ap (λ b. b == 1) bit ∙ sym (ap (λ t. t || has_bit ws k) t))
    (λ (r : k % 64 ≡ p % 64 → ⊥).
    let t : (k == p) ≡ false = ne_eqb k p (λ e. r (ap (λ x. x % 64) e)) in
    let bit : bit_at v (k % 64) ≡ bit_at (get_or ws (p / 64) 0) (k % 64) =
    bit_at_set_other w64 (get_or ws (p / 64) 0) (p % 64) (omega arith) (k % 64) r in
    ap (λ x. bit_at x (k % 64) == 1) word ∙ ap (λ b. b == 1) (bit ∙ ap (λ m. bit_at (get_or ws m 0) (k % 64)) (sym q)) ∙ sym
    (ap (λ t. t || has_bit ws k) t))
    (cases_eq (k % 64) (p % 64)))
    (λ (q : k / 64 ≡ p / 64 → ⊥).
    let t : (k == p) ≡ false = ne_eqb k p (λ e. q (ap (λ x. x / 64) e)) in
    let word = get_or-set_other ws (p / 64) (k / 64) v 0 q in
    ap (λ x. bit_at x (k % 64) == 1) word ∙ sym (ap (λ t. t || has_bit ws k) t))
    (cases_eq (k / 64) (p / 64))

-- a place is removed
pub drop_bit : (ws : List ℕ) (p k : ℕ) → length ws ≡ 16 → p < 1024
    → has_bit (set ws (p / 64) (bit_and (get_or ws (p / 64) 0) (bit_not w64 (1 * 2 ^ (p % 64) % 2 ^ 64)))) k
    ≡ (has_bit ws k && not (k == p))
drop_bit ws p k long low =
    let v = bit_and (get_or ws (p / 64) 0) (bit_not w64 (1 * 2 ^ (p % 64) % 2 ^ 64)) in
    let inside : p / 64 < length ws = omega arith in
    ⊎_elim
    (λ (q : k / 64 ≡ p / 64).
    let word : get_or (set ws (p / 64) v) (k / 64) 0 ≡ v =
    ap (λ m. get_or (set ws (p / 64) v) m 0) q ∙ get_or-set_same ws (p / 64) v 0 inside in
    ⊎_elim
    (λ (r : k % 64 ≡ p % 64).
    let same : k ≡ p = omega arith in
    let t : (k == p) ≡ true = eq-eqb k p same in
    let bit : bit_at v (k % 64) ≡ 0 = ap (λ i. bit_at v i) r ∙ bit_at_clear_same w64 (get_or ws (p / 64) 0) (p % 64) (omega arith) in
    ap (λ x. bit_at x (k % 64) == 1) word ∙ ap (λ b. b == 1) bit ∙ sym (ap (λ t. has_bit ws k && not t) t ∙ and_false (has_bit ws k)))
    (λ (r : k % 64 ≡ p % 64 → ⊥).
    let t : (k == p) ≡ false = ne_eqb k p (λ e. r (ap (λ x. x % 64) e)) in
    let bit : bit_at v (k % 64) ≡ bit_at (get_or ws (p / 64) 0) (k % 64) =
    bit_at_clear_other w64 (get_or ws (p / 64) 0) (p % 64) (omega arith) (k % 64) (omega arith) r in
    ap (λ x. bit_at x (k % 64) == 1) word ∙ ap (λ b. b == 1) (bit ∙ ap (λ m. bit_at (get_or ws m 0) (k % 64)) (sym q)) ∙ sym
    (ap (λ t. has_bit ws k && not t) t ∙ and_true (has_bit ws k)))
    (cases_eq (k % 64) (p % 64)))
    (λ (q : k / 64 ≡ p / 64 → ⊥).
    let t : (k == p) ≡ false = ne_eqb k p (λ e. q (ap (λ x. x / 64) e)) in
    let word = get_or-set_other ws (p / 64) (k / 64) v 0 q in
    ap (λ x. bit_at x (k % 64) == 1) word ∙ sym (ap (λ t. has_bit ws k && not t) t ∙ and_true (has_bit ws k)))
    (cases_eq (k / 64) (p / 64))
  where
    and_true : (b : Bool) → (b && true) ≡ b
    and_true true = refl
    and_true false = refl

    and_false : (b : Bool) → (b && false) ≡ false
    and_false true = refl
    and_false false = refl

-- the words without those of another, as far as it has come
abbrev pub cleared : ℕ → ℕ → ℕ
cleared a b = bit_xor (bit_or a b) b

pub record IsCleared (now before other : List ℕ) (w : ℕ) : Type 0 where
  pub done : (m : ℕ) → m < w → get_or now m 0 ≡ cleared (get_or before m 0) (get_or other m 0)
  pub left : (m : ℕ) → w ≤ m → get_or now m 0 ≡ get_or before m 0

pub clear_none : (before other : List ℕ) → IsCleared before before other 0
clear_none before other = record { done = λ m h. absurd (omega (arith, h)); left = λ m h. refl }

pub clear_more : (now before other : List ℕ) (w : ℕ) → length now ≡ 16 → w < 16 → IsCleared now before other w
    → IsCleared (set now w (cleared (get_or now w 0) (get_or other w 0))) before other (w + 1)
clear_more now before other w long low so_far = record {
  done = λ m h. ⊎_elim
      (λ (e : m ≡ w). let inside : w < length now = omega arith in
      ap (λ i. get_or (set now w (cleared (get_or now w 0) (get_or other w 0))) i 0) e ∙ get_or-set_same now w _ 0 inside
      ∙ ap (λ x. cleared x (get_or other w 0)) (so_far.left w (omega arith)) ∙ ap (λ i. cleared (get_or before i 0) (get_or other i 0))
      (sym e))
      (λ (e : m ≡ w → ⊥). get_or-set_other now w m _ 0 e ∙ so_far.done m (omega (arith, h, e)))
      (cases_eq m w);
  left = λ m h. let e : m ≢ w = omega (arith, h) in get_or-set_other now w m _ 0 e ∙ so_far.left m (omega (arith, h));
}

bits_clear : (a b : ℕ) → a < 2 → b < 2 → ((max a b + b) % 2 == 1) ≡ (a == 1 && not (b == 1))
bits_clear a b x y = ⊎_elim
    (λ (e : a ≡ 1). ⊎_elim
    (λ (f : b ≡ 1). rw (e, f) refl)
    (λ (f : b ≡ 1 → ⊥). let g : b ≡ 0 = omega (arith, y, f) in rw (e, g) refl) (cases_eq b 1))
    (λ (e : a ≡ 1 → ⊥). let h : a ≡ 0 = omega (arith, x, e) in ⊎_elim
    (λ (f : b ≡ 1). rw (h, f) refl)
    (λ (f : b ≡ 1 → ⊥). let g : b ≡ 0 = omega (arith, y, f) in rw (h, g) refl) (cases_eq b 1))
    (cases_eq a 1)

pub clear_bits : (now before other : List ℕ) (k : ℕ) → length before ≡ 16 → length other ≡ 16 → IsCleared now before other 16
    → has_bit now k ≡ (has_bit before k && not (has_bit other k))
clear_bits now before other k long alike all = ⊎_elim
    (λ (l : k / 64 < 16).
    let a = get_or before (k / 64) 0 in let b = get_or other (k / 64) 0 in
    ap (λ x. bit_at x (k % 64) == 1) (all.done (k / 64) l)
    ∙ ap (λ x. x == 1) (bit_at_xor (bit_or a b) b (k % 64) ∙ ap (λ x. (x + bit_at b (k % 64)) % 2) (bit_at_or a b (k % 64)))
    ∙ bits_clear _ _ (bit_at-lt a (k % 64)) (bit_at-lt b (k % 64)))
    (λ (h : 16 ≤ k / 64).
    let a : get_or before (k / 64) 0 ≡ 0 = get_or_past before (k / 64) 0 (omega (arith, long, h)) in
    let c : bit_at 0 (k % 64) ≡ 0 = bit_at-zero (k % 64) in
    let n : has_bit now k ≡ false = ap (λ x. bit_at x (k % 64) == 1) (all.left (k / 64) h ∙ a) ∙ ap (λ x. x == 1) c in
    let p : has_bit before k ≡ false = ap (λ x. bit_at x (k % 64) == 1) a ∙ ap (λ x. x == 1) c in
    n ∙ sym (ap (λ x. x && not (has_bit other k)) p))
    (cases_lt (k / 64) 16)

bits_or : (a b : ℕ) → a < 2 → b < 2 → (max a b == 1) ≡ (a == 1 || b == 1)
bits_or a b x y = ⊎_elim
    (λ (e : a ≡ 1). ⊎_elim
    (λ (f : b ≡ 1). rw (e, f) refl)
    (λ (f : b ≡ 1 → ⊥). let g : b ≡ 0 = omega (arith, y, f) in rw (e, g) refl) (cases_eq b 1))
    (λ (e : a ≡ 1 → ⊥). let h : a ≡ 0 = omega (arith, x, e) in ⊎_elim
    (λ (f : b ≡ 1). rw (h, f) refl)
    (λ (f : b ≡ 1 → ⊥). let g : b ≡ 0 = omega (arith, y, f) in rw (h, g) refl) (cases_eq b 1))
    (cases_eq a 1)

-- the words of a join, as far as it has come
pub record IsJoined (now before other : List ℕ) (w : ℕ) : Type 0 where
  pub done : (m : ℕ) → m < w → get_or now m 0 ≡ bit_or (get_or before m 0) (get_or other m 0)
  pub left : (m : ℕ) → w ≤ m → get_or now m 0 ≡ get_or before m 0

pub join_none : (before other : List ℕ) → IsJoined before before other 0
join_none before other = record { done = λ m h. absurd (omega (arith, h)); left = λ m h. refl }

pub join_more : (now before other : List ℕ) (w : ℕ) → length now ≡ 16 → w < 16 → IsJoined now before other w
    → IsJoined (set now w (bit_or (get_or now w 0) (get_or other w 0))) before other (w + 1)
join_more now before other w long low so_far = record {
  done = λ m h. ⊎_elim
      (λ (e : m ≡ w). let inside : w < length now = omega arith in
      ap (λ i. get_or (set now w (bit_or (get_or now w 0) (get_or other w 0))) i 0) e ∙ get_or-set_same now w _ 0 inside
      ∙ ap (λ x. bit_or x (get_or other w 0)) (so_far.left w (omega arith)) ∙ ap (λ i. bit_or (get_or before i 0) (get_or other i 0))
      (sym e))
      (λ (e : m ≡ w → ⊥). get_or-set_other now w m _ 0 e ∙ so_far.done m (omega (arith, h, e)))
      (cases_eq m w);
  left = λ m h. let e : m ≢ w = omega (arith, h) in get_or-set_other now w m _ 0 e ∙ so_far.left m (omega (arith, h));
}

pub join_bits : (now before other : List ℕ) (k : ℕ) → length before ≡ 16 → length other ≡ 16 → IsJoined now before other 16
    → has_bit now k ≡ (has_bit before k || has_bit other k)
join_bits now before other k long alike joined = ⊎_elim
    (λ (l : k / 64 < 16).
    ap (λ x. bit_at x (k % 64) == 1) (joined.done (k / 64) l)
    ∙ ap (λ x. x == 1) (bit_at_or (get_or before (k / 64) 0) (get_or other (k / 64) 0) (k % 64))
    ∙ bits_or _ _ (bit_at-lt (get_or before (k / 64) 0) (k % 64)) (bit_at-lt (get_or other (k / 64) 0) (k % 64)))
    (λ (h : 16 ≤ k / 64).
    let a : get_or before (k / 64) 0 ≡ 0 = get_or_past before (k / 64) 0 (omega (arith, long, h)) in
    let b : get_or other (k / 64) 0 ≡ 0 = get_or_past other (k / 64) 0 (omega (arith, alike, h)) in
    let c : bit_at 0 (k % 64) ≡ 0 = bit_at-zero (k % 64) in
    let n : has_bit now k ≡ false = ap (λ x. bit_at x (k % 64) == 1) (joined.left (k / 64) h ∙ a) ∙ ap (λ x. x == 1) c in
    let p : has_bit before k ≡ false = ap (λ x. bit_at x (k % 64) == 1) a ∙ ap (λ x. x == 1) c in
    let q : has_bit other k ≡ false = ap (λ x. bit_at x (k % 64) == 1) b ∙ ap (λ x. x == 1) c in
    n ∙ sym (ap (λ x. x || has_bit other k) p ∙ q))
    (cases_lt (k / 64) 16)

-- words that add nothing, as far as was looked
abbrev pub AddsNone : List ℕ → List ℕ → ℕ → Type 0
AddsNone a b w = (m : ℕ) → m < w → bit_or (get_or a m 0) (get_or b m 0) ≡ get_or b m 0

one_bit : (a b : ℕ) → a < 2 → b < 2 → max a b ≡ b → a ≡ 1 → b ≡ 1
one_bit a b x y m e = omega (arith, x, y, m, e)

pub adds_none : (a b : List ℕ) → length a ≡ 16 → AddsNone a b 16 → (k : ℕ) → has_bit a k ≡ true → has_bit b k ≡ true
adds_none a b long none k is = ⊎_elim
    (λ (l : k / 64 < 16).
    let bits = sym (bit_at_or (get_or a (k / 64) 0) (get_or b (k / 64) 0) (k % 64)) ∙ ap (λ x. bit_at x (k % 64)) (none (k / 64) l) in
    let e : bit_at (get_or b (k / 64) 0) (k % 64) ≡ 1 =
    one_bit (bit_at (get_or a (k / 64) 0) (k % 64)) (bit_at (get_or b (k / 64) 0) (k % 64)) (bit_at-lt (get_or a (k / 64) 0) (k % 64))
    (bit_at-lt (get_or b (k / 64) 0) (k % 64)) bits (eqb-true _ 1 is) in
    ap (λ x. x == 1) e)
    (λ (h : 16 ≤ k / 64).
    let z : get_or a (k / 64) 0 ≡ 0 = get_or_past a (k / 64) 0 (omega (arith, long, h)) in
    let f : has_bit a k ≡ false = ap (λ x. bit_at x (k % 64) == 1) z ∙ ap (λ x. x == 1) (bit_at-zero (k % 64)) in
    absurd (false≢true (sym f ∙ is)))
    (cases_lt (k / 64) 16)

max_right : (a b : ℕ) → a < 2 → (a ≡ 1 → b ≡ 1) → max a b ≡ b
max_right a b x h = ⊎_elim
    (λ (e : a ≡ 1). let f : b ≡ 1 = h e in rw (e, f) refl)
    (λ (e : a ≡ 1 → ⊥). let z : a ≡ 0 = omega (arith, x, e) in rw z (omega arith))
    (cases_eq a 1)

pub adds_one : (a b : List ℕ) (w : ℕ) → get_or a w 0 < 2 ^ 64 → get_or b w 0 < 2 ^ 64 → ((k : ℕ) → has_bit a k ≡ true → has_bit b k ≡ true)
    → bit_or (get_or a w 0) (get_or b w 0) ≡ get_or b w 0
adds_one a b w x y within =
    same_from_bits (bit_or (get_or a w 0) (get_or b w 0)) (get_or b w 0) (λ i. bit_at_or (get_or a w 0) (get_or b w 0) i ∙ ⊎_elim
    (λ (l : i < 64).
    let q : (64 * w + i) / 64 ≡ w = omega (arith, l) in
    let r : (64 * w + i) % 64 ≡ i = omega (arith, l) in
    let same = λ (ws : List ℕ). ap (λ m. bit_at (get_or ws m 0) ((64 * w + i) % 64) == 1) q ∙ ap (λ j. bit_at (get_or ws w 0) j == 1) r in
    max_right (bit_at (get_or a w 0) i) (bit_at (get_or b w 0) i) (bit_at-lt (get_or a w 0) i)
    (λ e. eqb-true _ 1 (sym (same b) ∙ within (64 * w + i) (same a ∙ ap (λ v. v == 1) e))))
    (λ (h : 64 ≤ i).
    let p = bit_at_above (get_or a w 0) 64 i x h in
    max_right (bit_at (get_or a w 0) i) (bit_at (get_or b w 0) i) (bit_at-lt (get_or a w 0) i) (λ e. absurd (omega (arith, p, e))))
    (cases_lt i 64))
