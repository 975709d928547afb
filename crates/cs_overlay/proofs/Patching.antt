-- What is cut off is gone, and what grows is zero.
use Rattle.std.proofs.Common.{◌≡◌, ◌≢◌, ℕ, zero, suc, ◌+◌, ◌-◌, ◌/◌, ◌%◌, ◌<◌, ◌≤◌, min, nat_lt, ◌==◌, true, false, cond, List, ◌++◌, map}
use Rattle.std.proofs.Common.{take, drop, Option, None, Some, refl, sym, ap, ◌∙◌, ◌⊎◌, inl, inr, ⊎_elim, arith, replicate, slice_index}
use Rattle.std.proofs.Common.{length-append}
use Rattle.std.proofs.lemmas.List.{get_or-take, get_or_past, length-take, get_or_append_left, get_or-append_right, get_or-replicate}
use Rattle.std.proofs.lemmas.List.{length-replicate, take_all}
use Rattle.std.proofs.lemmas.Bool.{cases_lt, cases_eq, lt-ltb, le-ltb, eq-eqb, ne_eqb}
use Rattle.std.specs.Option.{option_map, option_map_or}
use Rattle.std.specs.List.{range_with_len}
use Rattle.std.proofs.lemmas.List.FromFn.{length-map-range_with_len, get_or-map-range_with_len, fill_by_all, take-map-range_with_len}
use Rattle.std.specs.Ordering.{nat_cmp, is_gt, is_eq}
use Rattle.cs_overlay.specs.Patch.{byte_at, cut_blocks}

below_cut : (lower : List ℕ) (kept n i : ℕ) → i < n
    → cond (nat_lt i (min kept n)) (slice_index lower i) 0 ≡ cond (nat_lt i kept) (slice_index lower i) 0
below_cut lower kept n i lt = ⊎_elim
    (λ (a : i < kept). let e : nat_lt i kept ≡ true = lt-ltb i kept a in let f : nat_lt i (min kept n) ≡ true =
    lt-ltb i (min kept n) (omega arith) in rw (e, f) refl)
    (λ (a : kept ≤ i). let e : nat_lt i kept ≡ false = le-ltb i kept a in let f : nat_lt i (min kept n) ≡ false =
    le-ltb i (min kept n) (omega arith) in rw (e, f) refl)
    (cases_lt i kept)

above_cut : (lower : List ℕ) (kept n i : ℕ) → n ≤ i → cond (nat_lt i (min kept n)) (slice_index lower i) 0 ≡ 0
above_cut lower kept n i le = let f : nat_lt i (min kept n) ≡ false = le-ltb i (min kept n) (omega arith) in rw f refl

module _ (lower : List ℕ) (kept : ℕ) (blocks : ℕ → Option (List ℕ)) (n : ℕ) where
  -- before the cut the bytes are as they were
  pub byte_before : (i : ℕ) → i < n → byte_at lower (min kept n) (cut_blocks n blocks) i ≡ byte_at lower kept blocks i
  byte_before i lt = ⊎_elim
      (λ (a : i / 4096 < n / 4096). let e : nat_lt (i / 4096) (n / 4096) ≡ true = lt-ltb _ _ a in rw e (by (blocks (i / 4096))))
      (λ (a : n / 4096 ≤ i / 4096).
      let same : i / 4096 ≡ n / 4096 = omega arith in
      let e : nat_lt (i / 4096) (n / 4096) ≡ false = le-ltb _ _ a in
      let f : nat_lt (n / 4096) (i / 4096) ≡ false = le-ltb _ _ (omega arith) in
      rw (e, f) (cut (blocks (i / 4096)) (omega arith)))
      (cases_lt (i / 4096) (n / 4096))
    where
      by : (o : Option (List ℕ))
          → option_map_or (λ b. slice_index b (i % 4096)) o (cond (nat_lt i (min kept n)) (slice_index lower i) 0)
          ≡ option_map_or (λ b. slice_index b (i % 4096)) o (cond (nat_lt i kept) (slice_index lower i) 0)
      by None = below_cut lower kept n i lt
      by (Some b) = refl

      cut : (o : Option (List ℕ)) → i % 4096 < n % 4096
          → option_map_or (λ b. slice_index b (i % 4096)) (option_map (take (n % 4096)) o)
          (cond (nat_lt i (min kept n)) (slice_index lower i) 0)
          ≡ option_map_or (λ b. slice_index b (i % 4096)) o (cond (nat_lt i kept) (slice_index lower i) 0)
      cut None low = below_cut lower kept n i lt
      cut (Some b) low = get_or-take (n % 4096) b (i % 4096) 0 low

  -- after it they are zero
  pub byte_behind : (i : ℕ) → n ≤ i → byte_at lower (min kept n) (cut_blocks n blocks) i ≡ 0
  byte_behind i le = ⊎_elim
      (λ (a : i / 4096 ≡ n / 4096).
      let e : nat_lt (i / 4096) (n / 4096) ≡ false = le-ltb _ _ (omega arith) in
      let f : nat_lt (n / 4096) (i / 4096) ≡ false = le-ltb _ _ (omega arith) in
      rw (e, f) (cut (blocks (i / 4096)) (omega arith)))
      (λ (a : i / 4096 ≢ n / 4096).
      let more : n / 4096 < i / 4096 = omega arith in
      let e : nat_lt (i / 4096) (n / 4096) ≡ false = le-ltb _ _ (omega arith) in
      let f : nat_lt (n / 4096) (i / 4096) ≡ true = lt-ltb _ _ more in
      rw (e, f) (above_cut lower kept n i le))
      (cases_eq (i / 4096) (n / 4096))
    where
      cut : (o : Option (List ℕ)) → n % 4096 ≤ i % 4096
          → option_map_or (λ b. slice_index b (i % 4096)) (option_map (take (n % 4096)) o)
          (cond (nat_lt i (min kept n)) (slice_index lower i) 0) ≡ 0
      cut None low = above_cut lower kept n i le
      cut (Some b) low = get_or_past (take (n % 4096) b) (i % 4096) 0 (omega (arith, length-take (n % 4096) b))

drop-map-range : (f : ℕ → ℕ) (k a n : ℕ) → drop k (map f (range_with_len a n)) ≡ map f (range_with_len (a + k) (n - k))
drop-map-range f zero a n = let e : a + 0 ≡ a = omega arith in let g : n - 0 ≡ n = omega arith in
    λ i. map f (range_with_len (sym e i) (sym g i))
drop-map-range f (suc k) a zero = let g : 0 - suc k ≡ 0 = omega arith in λ i. map f (range_with_len (a + suc k) (sym g i))
drop-map-range f (suc k) a (suc n) =
    let e : (a + 1) + k ≡ a + suc k = omega arith in
    let g : n - k ≡ suc n - suc k = omega arith in
    drop-map-range f k (a + 1) n ∙ (λ i. map f (range_with_len (e i) (g i)))

-- bytes from an offset on
pub read_range : (f : ℕ → ℕ) (offset count size m : ℕ) → m ≡ min count (size - offset)
    → map f (range_with_len offset m) ≡ take count (drop offset (map f (range_with_len 0 size)))
read_range f offset count size m e =
    let start : 0 + offset ≡ offset = omega arith in
    sym (ap (take count) (drop-map-range f offset 0 size ∙ ap (λ k. map f (range_with_len k (size - offset))) start) ∙ taken
    (cases_lt count (size - offset)))
  where
    taken : (count < size - offset) ⊎ (size - offset ≤ count)
        → take count (map f (range_with_len offset (size - offset))) ≡ map f (range_with_len offset m)
    taken (inl lt) =
        take-map-range_with_len f offset (size - offset) count (omega arith) ∙
        (let k : count ≡ m = omega arith in ap (λ k. map f (range_with_len offset k)) k)
    taken (inr le) =
        take_all count (map f (range_with_len offset (size - offset))) (omega (arith, length-map-range_with_len f offset (size - offset))) ∙
        (let k : size - offset ≡ m = omega arith in ap (λ k. map f (range_with_len offset k)) k)

-- the bytes of another length, by what each byte is
pub bytes_of_length : (f g : ℕ → ℕ) (size n : ℕ) → ((i : ℕ) → i < n → i < size → g i ≡ f i) → ((i : ℕ) → i < n → size ≤ i → g i ≡ 0)
    → map g (range_with_len 0 n) ≡ take n (map f (range_with_len 0 size) ++ replicate n 0)
bytes_of_length f g size n below behind = sym (fill_by_all g (take n (map f (range_with_len 0 size) ++ replicate n 0)) n 0
    (omega (
      arith,
      length-take n (map f (range_with_len 0 size) ++ replicate n 0),
      length-append (map f (range_with_len 0 size))
          (replicate n 0),
      length-replicate {A = ℕ} n 0,
    ))
    (λ k lt. get_or-take n (map f (range_with_len 0 size) ++ replicate n 0) k 0 lt ∙ ⊎_elim
    (λ (a : k < size). get_or_append_left (map f (range_with_len 0 size)) (replicate n 0) 0 k
    (omega (arith, length-map-range_with_len f 0 size))
    ∙ get_or-map-range_with_len f 0 size k k 0 a (omega arith) ∙ sym (below k lt a))
    (λ (a : size ≤ k). get_or-append_right (map f (range_with_len 0 size)) (replicate n 0) size k 0 (length-map-range_with_len f 0 size) a
    ∙ get_or-replicate n (k - size) 0 0 (omega arith) ∙ sym (behind k lt a))
    (cases_lt k size)))

-- ---- the blocks

module _ (old rest : ℕ → Option (List ℕ)) (last r k : ℕ) (kept : rest k ≡ cond (is_gt (nat_cmp (last + 1) k)) (old k) None) where
  rest_below : k < last → rest k ≡ old k
  rest_below lt = let a : nat_lt (last + 1) k ≡ false = le-ltb _ _ (omega arith) in let b : last + 1 == k ≡ false =
      ne_eqb _ _ (λ e. (omega (arith, e))) in kept ∙ rw (a, b) refl

  rest_at : k ≡ last → rest k ≡ old k
  rest_at e = let a : nat_lt (last + 1) k ≡ false = le-ltb _ _ (omega arith) in let b : last + 1 == k ≡ false =
      ne_eqb _ _ (λ f. (omega (arith, e, f))) in kept ∙ rw (a, b) refl

  rest_above : last < k → rest k ≡ None
  rest_above lt = ⊎_elim
      (λ (a : last + 1 < k). let b : nat_lt (last + 1) k ≡ true = lt-ltb _ _ a in kept ∙ rw b refl)
      (λ (a : k ≤ last + 1). let b : nat_lt (last + 1) k ≡ false = le-ltb _ _ a in let c : last + 1 == k ≡ true =
      eq-eqb _ _ (omega arith) in kept ∙ rw (b, c) refl)
      (cases_lt (last + 1) k)

  abbrev wanted : Option (List ℕ)
  wanted = cond (nat_lt k last) (old k) (cond (nat_lt last k) None (option_map (take r) (old k)))

  pub cut_none : rest last ≡ None → rest k ≡ wanted
  cut_none none = ⊎_elim
      (λ (lt : k < last). let a : nat_lt k last ≡ true = lt-ltb _ _ lt in rw a (rest_below lt))
      (λ (le : last ≤ k). ⊎_elim
      (λ (gt : last < k). let a : nat_lt k last ≡ false = le-ltb _ _ le in let b : nat_lt last k ≡ true = lt-ltb _ _ gt in
      rw (a, b) (rest_above gt))
      (λ (ge : k ≤ last). let same : k ≡ last = omega arith in let a : nat_lt k last ≡ false = le-ltb _ _ le in
      let b : nat_lt last k ≡ false = le-ltb _ _ ge in
      let e : rest k ≡ None = ap rest same ∙ none in
      rw (a, b) (e ∙ sym (ap (option_map (take r)) (sym (rest_at same) ∙ e))))
      (cases_lt last k))
      (cases_lt k last)

  pub cut_some : (b : List ℕ) (final : ℕ → Option (List ℕ)) → rest last ≡ Some b
      → final k ≡ cond (is_eq (nat_cmp last k)) (Some (take r b)) (rest k) → final k ≡ wanted
  cut_some b final some now = ⊎_elim
      (λ (lt : k < last). let a : nat_lt k last ≡ true = lt-ltb _ _ lt in let c : nat_lt last k ≡ false = le-ltb _ _ (omega arith) in
      let d : last == k ≡ false = ne_eqb _ _ (λ e. (omega (arith, e))) in
      now ∙ rw (a, c, d) (rest_below lt))
      (λ (le : last ≤ k). ⊎_elim
      (λ (gt : last < k). let a : nat_lt k last ≡ false = le-ltb _ _ le in let c : nat_lt last k ≡ true = lt-ltb _ _ gt in
      now ∙ rw (a, c) (rest_above gt))
      (λ (ge : k ≤ last). let same : k ≡ last = omega arith in let a : nat_lt k last ≡ false = le-ltb _ _ le in
      let c : nat_lt last k ≡ false = le-ltb _ _ ge in let d : last == k ≡ true = eq-eqb _ _ (sym same) in
      now ∙ rw (a, c, d) (sym (ap (option_map (take r)) (sym (rest_at same) ∙ ap rest same ∙ some))))
      (cases_lt last k))
      (cases_lt k last)
