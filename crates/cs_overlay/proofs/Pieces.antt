-- Ranges of bytes, by pieces.
use Rattle.std.proofs.Common.{◌≡◌, ℕ, zero, suc, ◌+◌, ◌-◌, ◌*◌, ◌/◌, ◌%◌, ◌<◌, ◌≤◌, nat_lt, true, false, cond, min, List, [], ◌∷◌, ◌++◌}
use Rattle.std.proofs.Common.{map, take, drop, length, replicate, slice_index, Option, None, Some, refl, sym, ap, ◌∙◌, ⊎_elim, arith}
use Rattle.std.proofs.Common.{length-append}
use Rattle.std.proofs.lemmas.List.{append_assoc, get_or-take, get_or_past, length-take, get_or_append_left, get_or-append_right}
use Rattle.std.proofs.lemmas.List.{get_or-replicate, length-replicate, take_all}
use Rattle.std.proofs.lemmas.List.FromFn.{fill_by_all}
use Rattle.std.proofs.lemmas.Bool.{cases_lt, lt-ltb, le-ltb}
use Rattle.std.specs.List.{range_with_len}
use Rattle.std.specs.Option.{option_map_or}
use Rattle.cs_overlay.specs.Patch.{byte_at, bytes_of, piece_byte, shown_byte, IsShown}
use Rattle.cs_overlay.proofs.Patching.{read_range}

pub alike : (f g : ℕ → ℕ) (a n : ℕ) → ((i : ℕ) → a ≤ i → i < a + n → f i ≡ g i) → map f (range_with_len a n) ≡ map g (range_with_len a n)
alike f g a zero h = refl
alike f g a (suc n) h = λ i. h a (omega arith) (omega arith) i ∷ alike f g (a + 1) n (λ j le lt. h j (omega arith) (omega arith)) i

pub shifted : (f g : ℕ → ℕ) (a b n : ℕ) → ((i : ℕ) → i < n → f (a + i) ≡ g (b + i))
    → map f (range_with_len a n) ≡ map g (range_with_len b n)
shifted f g a b zero h = refl
shifted f g a b (suc n) h =
    let z : a ≡ a + 0 = omega arith in
    let w : b + 0 ≡ b = omega arith in
    λ i. (ap f z ∙ h 0 (omega arith) ∙ ap g w) i
    ∷ shifted f g (a + 1) (b + 1) n
    (λ j lt. (let p : a + 1 + j ≡ a + suc j = omega arith in let q : b + suc j ≡ b + 1 + j = omega arith in
    ap f p ∙ h (suc j) (omega arith) ∙ ap g q)) i

pub joined : (f : ℕ → ℕ) (a m n : ℕ) → map f (range_with_len a (m + n)) ≡ map f (range_with_len a m) ++ map f (range_with_len (a + m) n)
joined f a zero n = let z : a ≡ a + 0 = omega arith in let w : 0 + n ≡ n = omega arith in λ i. map f (range_with_len (z i) (w i))
joined f a (suc m) n = let z : a + 1 + m ≡ a + suc m = omega arith in let w : suc m + n ≡ suc (m + n) = omega arith in
    ap (λ k. map f (range_with_len a k)) w ∙ ap (λ l. f a ∷ l)
    (joined f (a + 1) m n ∙ ap (λ k. map f (range_with_len (a + 1) m) ++ map f (range_with_len k n)) z)

pub get-drop : (k i : ℕ) (s : List ℕ) → slice_index (drop k s) i ≡ slice_index s (k + i)
get-drop zero i s = let z : i ≡ 0 + i = omega arith in ap (slice_index s) z
get-drop (suc k) i [] = refl
get-drop (suc k) i (x ∷ s) = let z : suc k + i ≡ suc (k + i) = omega arith in get-drop k i s ∙ sym (ap (slice_index (x ∷ s)) z)

-- a part of a list, with zeros past its end
pub padded : (s : List ℕ) (start n : ℕ)
    → take n (drop start s) ++ replicate (n - length (take n (drop start s))) 0 ≡ map (slice_index s) (range_with_len start n)
padded s start n =
    let p = take n (drop start s) in
    fill_by_all (λ i. slice_index s (start + i)) (p ++ replicate (n - length p) 0) n 0
    (omega (arith, length-append p (replicate (n - length p) 0), length-replicate {A = ℕ} (n - length p) 0, length-take n (drop start s)))
    (λ k lt. ⊎_elim
    (λ (a : k < length p). get_or_append_left p (replicate (n - length p) 0) 0 k a ∙ get_or-take n (drop start s) k 0 lt ∙ get-drop start k
    s)
    (λ (a : length p ≤ k). get_or-append_right p (replicate (n - length p) 0) (length p) k 0 refl a ∙ get_or-replicate (n - length p)
    (k - length p) 0 0 (omega arith)
    ∙ sym (sym (get-drop start k s) ∙ get_or_past (drop start s) k 0 (omega (arith, length-take n (drop start s)))))
    (cases_lt k (length p)))
    ∙ shifted (λ i. slice_index s (start + i)) (slice_index s) 0 start n
    (λ i lt. (let z : 0 + i ≡ i = omega arith in ap (λ j. slice_index s (start + j)) z))

-- what a part makes of a list
pub grown : (out s x : List ℕ) (start count m k : ℕ) → x ≡ out ++ take count (drop start s) → m ≡ length out + count → k ≡ length x
    → take m x ++ replicate (m - k) 0 ≡ out ++ map (slice_index s) (range_with_len start count)
grown out s x start count m k is long size =
    let p = take count (drop start s) in
    let total : length x ≡ length out + length p = ap length is ∙ length-append out p in
    let few : length p ≤ count = omega (arith, length-take count (drop start s)) in
    let rest : m - k ≡ count - length p = omega (arith, long, size, total) in
    (λ i. take_all m x (omega (arith, long, total, few)) i ++ replicate (rest i) 0)
    ∙ ap (λ w. w ++ replicate (count - length p) 0) is
    ∙ append_assoc out p (replicate (count - length p) 0)
    ∙ ap (λ w. out ++ w) (padded s start count)

pub piece_some : (b shown : List ℕ) (offset at count : ℕ) → at % 4096 + count ≤ 4096
    → map (slice_index b) (range_with_len (at % 4096) count) ≡ map (piece_byte (Some b) shown offset) (range_with_len at count)
piece_some b shown offset at count within =
    shifted (slice_index b) (piece_byte (Some b) shown offset) (at % 4096) at count
    (λ i lt. (let z : at % 4096 + i ≡ (at + i) % 4096 = omega (arith, within, lt) in ap (slice_index b) z))

pub piece_none : (shown : List ℕ) (offset at count : ℕ) → offset ≤ at
    → map (slice_index shown) (range_with_len (at - offset) count) ≡ map (piece_byte None shown offset) (range_with_len at count)
piece_none shown offset at count le =
    shifted (slice_index shown) (piece_byte None shown offset) (at - offset) at count
    (λ i lt. (let z : at - offset + i ≡ at + i - offset = omega (arith, le) in ap (slice_index shown) z))

module _ (shown : List ℕ) (offset : ℕ) (blocks : ℕ → Option (List ℕ)) where
  -- one piece more
  pub one_more : (block : Option (List ℕ)) (at stop : ℕ) → block ≡ blocks (at / 4096) → offset ≤ at → at ≤ stop
      → stop ≤ (at / 4096 + 1) * 4096 → (out new : List ℕ)
      → out ≡ map (shown_byte shown offset blocks) (range_with_len offset (at - offset))
      → new ≡ out ++ map (piece_byte block shown offset) (range_with_len at (stop - at))
      → new ≡ map (shown_byte shown offset blocks) (range_with_len offset (stop - offset))
  one_more block at stop is le up in_block out new was now =
      let total : (at - offset) + (stop - at) ≡ stop - offset = omega (arith, le, up) in
      let from : at ≡ offset + (at - offset) = omega (arith, le) in
      now
      ∙ (λ i. was i
      ++ alike (piece_byte block shown offset) (shown_byte shown offset blocks) at (stop - at)
      (λ j lo hi.
      (let same : at / 4096 ≡ j / 4096 = omega (arith, lo, hi, up, in_block) in
      ap (λ o. piece_byte o shown offset j) (is ∙ ap blocks same))) i)
      ∙ ap (λ a. map (shown_byte shown offset blocks) (range_with_len offset (at - offset))
      ++ map (shown_byte shown offset blocks) (range_with_len a (stop - at))) from
      ∙ sym (joined (shown_byte shown offset blocks) offset (at - offset) (stop - at))
      ∙ ap (λ n. map (shown_byte shown offset blocks) (range_with_len offset n)) total

  pub all_read : (lower : List ℕ) (kept size count n : ℕ) → IsShown lower kept offset n shown → n ≡ min count (size - offset)
      → map (shown_byte shown offset blocks) (range_with_len offset n) ≡ take count (drop offset (bytes_of lower kept blocks size))
  all_read lower kept size count n sh is =
      alike (shown_byte shown offset blocks) (byte_at lower kept blocks) offset n
      (λ i lo hi. ap (option_map_or (λ b. slice_index b (i % 4096)) (blocks (i / 4096))) (sh i lo hi)) ∙ read_range
      (byte_at lower kept blocks) offset count size n is

-- what a read of the lower file gives shows it
pub is_shown : (lower : List ℕ) (kept offset count m : ℕ) (shown : List ℕ) → m ≡ min (kept - offset) count
    → shown ≡ take m (drop offset lower) → IsShown lower kept offset count shown
is_shown lower kept offset count m shown is all i lo hi =
    let z : offset + (i - offset) ≡ i = omega (arith, lo) in
    ap (λ v. slice_index v (i - offset)) all ∙ ⊎_elim
    (λ (lt : i < kept). let u : nat_lt i kept ≡ true = lt-ltb _ _ lt in
    get_or-take m (drop offset lower) (i - offset) 0 (omega (arith, is, lo, hi, lt)) ∙ get-drop offset (i - offset) lower ∙ ap
    (slice_index lower) z ∙ sym (ap (λ b. cond b (slice_index lower i) 0) u))
    (λ (ge : kept ≤ i). let u : nat_lt i kept ≡ false = le-ltb _ _ ge in
    get_or_past (take m (drop offset lower)) (i - offset) 0 (omega (arith, is, ge, lo, length-take m (drop offset lower))) ∙ sym
    (ap (λ b. cond b (slice_index lower i) 0) u))
    (cases_lt i kept)

-- a file that shows all of the lower one
pub all_shown : (lower : List ℕ) → map (byte_at lower (length lower) (λ k. None)) (range_with_len 0 (length lower)) ≡ lower
all_shown lower =
    sym (fill_by_all (byte_at lower (length lower) (λ k. None)) lower (length lower) 0 refl
    (λ i lt. (let u : nat_lt i (length lower) ≡ true = lt-ltb _ _ lt in sym (ap (λ b. cond b (slice_index lower i) 0) u))))
