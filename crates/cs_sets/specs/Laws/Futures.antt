-- What a level of futures weighs.
use Rattle.std.proofs.Common.{◌≡◌, ℕ, zero, suc, ◌+◌, ◌*◌, ◌-◌, ◌<◌, ◌≤◌, ◌==◌, ◌&&◌, not, Bool, true, false, cond}
use Rattle.std.proofs.Common.{List, length, refl, sym, ap, ◌∙◌, arith, subst, get_or, set, get_or-set_same, length-set}
use Rattle.std.proofs.lemmas.Bool.{ne_eqb}
use Rattle.std.proofs.lemmas.List.Sums.{sum_by-set, get_or-le-sum_by}
use Rattle.cs_sets.specs.declared.count.Future.{Future}
use Rattle.cs_sets.specs.declared.row.Row.{Row}
use Rattle.cs_sets.specs.Bits.{has_place}
use Rattle.cs_sets.specs.Every.{count, every, lacking}
use Rattle.cs_sets.specs.Counting.{weight, weigh, Capped}
use Rattle.cs_sets.specs.Laws.Capped.{capped_times}
use Rattle.cs_sets.specs.Laws.Counts.{every_counts}

-- only the places that are left count
pub count_same : (needs : ℕ → ℕ → Bool) (m k : ℕ) (p q : ℕ → Bool)
    → ((j : ℕ) → k ≤ j → j < k + m → p j ≡ q j)
    → count needs m k p ≡ count needs m k q
count_same needs zero k p q same = refl
count_same needs (suc m) k p q same =
    let here = same k (omega arith) (omega arith) in
    let one = count_same needs m (k + 1) (lacking needs k p) (lacking needs k q)
    (λ j l u. ap (λ b. b && not (needs k j)) (same j (omega (arith, l)) (omega (arith, u)))) in
    let two = count_same needs m (k + 1) p q (λ j l u. same j (omega (arith, l)) (omega (arith, u)))
    in
    ap (λ v. v + cond (p k) (count needs m (k + 1) p) 0) one
    ∙ ap (λ b. count needs m (k + 1) (lacking needs k q) + cond b (count needs m (k + 1) p) 0) here
    ∙ ap (λ v. count needs m (k + 1) (lacking needs k q) + cond (q k) v 0) two

pub count_one : (needs : ℕ → ℕ → Bool) (m k : ℕ) (p : ℕ → Bool) → 1 ≤ count needs m k p
count_one needs zero k p = omega arith
count_one needs (suc m) k p = (let h = count_one needs m (k + 1) (lacking needs k p) in omega
    (arith, h))

pub other_place : (p : Bool) (j k : ℕ) → k + 1 ≤ j → (p && not (j == k)) ≡ p
other_place p j k l = ap (λ b. p && not b) (ne_eqb j k (λ e. omega (arith, l, e))) ∙ and_true p
  where
    and_true : (b : Bool) → (b && true) ≡ b
    and_true true = refl
    and_true false = refl

module _ (needs : ℕ → ℕ → Bool) (n k : ℕ) (low : k < n) (future : Future) (without : Row)
    (out : (j : ℕ) → has_place without j ≡ (lacking needs k (has_place future.left) j && not
    (j == k))) where
  rest : ℕ → Row → ℕ
  rest c row = c * count needs (n - (k + 1)) (k + 1) (has_place row)

  out_is : count needs (n - (k + 1)) (k + 1) (lacking needs k (has_place future.left))
      ≡ count needs (n - (k + 1)) (k + 1) (has_place without)
  out_is = count_same needs (n - (k + 1)) (k + 1) (lacking needs k (has_place future.left))
      (has_place without)
      (λ j l u. sym (out j ∙ other_place (lacking needs k (has_place future.left) j) j k l))

  opened : weight needs (n - k) k future
      ≡ future.sets * (count needs (n - (k + 1)) (k + 1) (lacking needs k (has_place future.left))
      + cond (has_place future.left k) (count needs (n - (k + 1)) (k + 1) (has_place future.left))
      0)
  opened = let m : n - k ≡ suc (n - (k + 1)) = omega (arith, low) in ap
      (λ v. future.sets * count needs v k (has_place future.left)) m

  -- the place can't be taken
  pub one_half : has_place future.left k ≡ false
      → weight needs (n - k) k future ≡ future.sets * count needs (n - (k + 1)) (k + 1)
      (has_place without)
  one_half f =
      opened
      ∙ ap (λ b. future.sets * (count needs (n - (k + 1)) (k + 1)
      (lacking needs k (has_place future.left))
      + cond b (count needs (n - (k + 1)) (k + 1) (has_place future.left)) 0)) f
      ∙ ap (λ v. future.sets * (v + 0)) out_is ∙ ap (λ v. future.sets * v)
      (plus_none (count needs (n - (k + 1)) (k + 1) (has_place without)))
    where
      plus_none : (a : ℕ) → a + 0 ≡ a
      plus_none a = omega arith

  -- it can
  pub both_halves : (kept : Row) → ((j : ℕ) → has_place kept j
      ≡ (has_place future.left j && not (j == k))) → has_place future.left k ≡ true
      → weight needs (n - k) k future
      ≡ future.sets * count needs (n - (k + 1)) (k + 1) (has_place without) + future.sets * count
      needs (n - (k + 1)) (k + 1) (has_place kept)
  both_halves kept is t =
      let in_is : count needs (n - (k + 1)) (k + 1) (has_place future.left)
      ≡ count needs (n - (k + 1)) (k + 1) (has_place kept) =
      count_same needs (n - (k + 1)) (k + 1) (has_place future.left) (has_place kept)
      (λ j l u. sym (is j ∙ other_place (has_place future.left j) j k l)) in
      opened
      ∙ ap (λ b. future.sets * (count needs (n - (k + 1)) (k + 1)
      (lacking needs k (has_place future.left))
      + cond b (count needs (n - (k + 1)) (k + 1) (has_place future.left)) 0)) t
      ∙ ap (λ v. future.sets * (v + count needs (n - (k + 1)) (k + 1) (has_place future.left)))
      out_is
      ∙ ap (λ v. future.sets * (count needs (n - (k + 1)) (k + 1) (has_place without) + v)) in_is
      ∙ spread future.sets (count needs (n - (k + 1)) (k + 1) (has_place without))
      (count needs (n - (k + 1)) (k + 1) (has_place kept))
    where
      spread : (c a b : ℕ) → c * (a + b) ≡ c * a + c * b
      spread c a b = omega arith

-- one future more is added to an equal one
pub merged_into : (needs : ℕ → ℕ → Bool) (m k most : ℕ) (futures : List Future) (i : ℕ)
    (last more both d : Future)
    → i < length futures → last ≡ get_or futures i d
    → ((j : ℕ) → has_place last.left j ≡ has_place more.left j)
    → ((j : ℕ) → has_place both.left j ≡ has_place last.left j)
    → Capped most both.sets (last.sets + more.sets)
    → Capped most (weigh needs m k (set futures i both))
    (weigh needs m k futures + weight needs m k more)
merged_into needs m k most futures i last more both d low is same left sets =
    let x = count needs m k (has_place last.left) in
    let e : count needs m k (has_place more.left) ≡ x = sym
    (count_same needs m k (has_place last.left) (has_place more.left) (λ j l u. same j)) in
    let f : count needs m k (has_place both.left) ≡ x = count_same needs m k (has_place both.left)
    (has_place last.left) (λ j l u. left j) in
    let w : weight needs m k more ≡ more.sets * x = ap (λ v. more.sets * v) e in
    let v : weight needs m k both ≡ both.sets * x = ap (λ v. both.sets * v) f in
    let o : weight needs m k (get_or futures i d) ≡ last.sets * x = ap (weight needs m k) (sym is)
    in
    let changed = sum_by-set (weight needs m k) futures i both d low in
    let times = capped_times most both.sets (last.sets + more.sets) x
    (count_one needs m k (has_place last.left)) sets in
    let spread : (last.sets + more.sets) * x ≡ last.sets * x + more.sets * x = omega arith in
    let before = get_or-le-sum_by (weight needs m k) futures i d low in
    let after : weight needs m k both ≤ weigh needs m k (set futures i both) =
    subst (λ f. weight needs m k f ≤ weigh needs m k (set futures i both))
    (get_or-set_same futures i both d low)
    (get_or-le-sum_by (weight needs m k) (set futures i both) i d
    (let l = length-set futures i both in omega (arith, l, low))) in
    sums most (weigh needs m k (set futures i both)) (weigh needs m k futures)
    (weight needs m k more) (weight needs m k both)
    (weight needs m k (get_or futures i d)) (last.sets * x) (more.sets * x) (both.sets * x)
    ((last.sets + more.sets) * x) changed w v o times spread
    before after
  where
    sums : (most a b p q r lx mx bx sx : ℕ) → a + r ≡ b + q → p ≡ mx → q ≡ bx → r ≡ lx
        → Capped most bx sx → sx ≡ lx + mx
        → r ≤ b → q ≤ a → Capped most a (b + p)
    sums most a b p q r lx mx bx sx e f g h i j l u = omega (arith, e, f, g, h, i, j, l, u)

-- at the start all places are left
pub start_weighs : (needs : ℕ → ℕ → Bool) (n : ℕ) (p : ℕ → Bool) → ((j : ℕ) → j < n → p j ≡ true)
    → count needs n 0 p ≡ length (every needs n)
start_weighs needs n p all =
    count_same needs n 0 p (λ j. true) (λ j l u. all j (omega (arith, u)))
    ∙ sym (every_counts needs n)
