-- A list of which a part was changed.
use Rattle.std.proofs.Common.{◌≡◌, ℕ, ◌+◌, ◌-◌, ◌<◌, ◌≤◌, List, ◌++◌, sym, ap, arith, ◌∙◌, length, take, drop, get_or, length-append}
use Rattle.std.proofs.Common.{length-drop}
use Rattle.std.proofs.Math.Seq.{get_or-append_right}
use Rattle.std.proofs.lemmas.List.{ext_get_or, get_or-drop, get_or-take, get_or_append_left, length-take, length-take-le}
use Rattle.std.proofs.lemmas.Slice.{drop-put_mid, take-put_mid, take-put_mid_below}
use borrow.Rule.Slice.PartMut.{put_mid}

pub rejoined : {A : Type 0} (d : A) (n : ℕ) (new old : List A) → n ≡ length old → length new ≡ length old
    → take n (new ++ drop (length new) old) ≡ new
rejoined d n new old is same =
    ext_get_or d (take n (new ++ drop (length new) old)) new
    (length-take n (new ++ drop (length new) old) ∙
    (let a = length-append new (drop (length new) old) in let e = length-drop (length new) old in omega (arith, a, e, is, same)))
    (λ k low. let t = length-take n (new ++ drop (length new) old) in let a = length-append new (drop (length new) old) in let e =
    length-drop (length new) old in
    get_or-take n (new ++ drop (length new) old) k d (omega (arith, low, t)) ∙ get_or_append_left new (drop (length new) old) d k
    (omega (arith, low, t, a, e, is, same)))

-- ---- byte by byte

module _ (a n : ℕ) (xs ys : List ℕ) (inside : a ≤ length xs) (long : length ys ≡ n) where
  pub mid_below : (k : ℕ) → k < a → get_or (put_mid a n xs ys) k 0 ≡ get_or xs k 0
  mid_below k low =
      sym (get_or-take a (put_mid a n xs ys) k 0 low) ∙ ap (λ zs. get_or zs k 0) (take-put_mid_below a n xs ys a (omega arith) inside) ∙
      get_or-take a xs k 0 low

  pub mid_inside : (k : ℕ) → a ≤ k → k < a + n → get_or (put_mid a n xs ys) k 0 ≡ get_or ys (k - a) 0
  mid_inside k ge low =
      let front = length-take-le a xs inside in
      sym (get_or-take (a + n) (put_mid a n xs ys) k 0 low)
      ∙ ap (λ zs. get_or zs k 0) (take-put_mid a n xs ys (a + n) (omega (arith, long)) inside)
      ∙ get_or-append_right (take a xs) ys k 0 (omega (arith, front, ge))
      ∙ ap (λ m. get_or ys (k - m) 0) front

  pub mid_above : (k : ℕ) → a + n ≤ k → get_or (put_mid a n xs ys) k 0 ≡ get_or xs k 0
  mid_above k ge =
      back (put_mid a n xs ys) ∙ ap (λ zs. get_or zs (k - (a + n)) 0) (drop-put_mid a n xs ys (a + n) (omega arith) inside long) ∙ sym
      (back xs)
    where
      back : (zs : List ℕ) → get_or zs k 0 ≡ get_or (drop (a + n) zs) (k - (a + n)) 0
      back zs =
          sym (get_or-drop (a + n) zs (k - (a + n)) 0 ∙
          (let e : a + n + (k - (a + n)) ≡ k = omega (arith, ge) in ap (λ j. get_or zs j 0) e))

pub middle_at : (a e j : ℕ) (xs : List ℕ) → j < e - a → get_or (take (e - a) (drop a xs)) j 0 ≡ get_or xs (a + j) 0
middle_at a e j xs low = get_or-take (e - a) (drop a xs) j 0 low ∙ get_or-drop a xs j 0

pub middle_long : (a e : ℕ) (xs : List ℕ) → e ≤ length xs → length (take (e - a) (drop a xs)) ≡ e - a
middle_long a e xs fits = length-take-le (e - a) (drop a xs) (let d = length-drop a xs in omega (arith, d, fits))
