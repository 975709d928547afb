-- A part of a file, byte by byte.
use Rattle.std.proofs.Common.{◌≡◌, ℕ, ◌+◌, ◌-◌, ◌<◌, ◌≤◌, ◌==◌, Bool, true, false, cond, nat_lt, List, [], ◌∷◌, ◌++◌, ◌⊎◌, max, min, refl}
use Rattle.std.proofs.Common.{sym, ap, ◌∙◌, subst, arith, ⊎_elim, length, map, take, drop, replicate, get_or, length-append, length-drop}
use Rattle.std.proofs.Math.Seq.{get_or-append_right}
use Rattle.std.proofs.lemmas.Bool.{cases_lt}
use Rattle.std.proofs.lemmas.List.{ext_get_or, get_or-drop, get_or-take, get_or_append_left, get_or_past, length-replicate, length-take}
use Rattle.std.proofs.lemmas.List.{length-take-le}
use Rattle.std.specs.Prelude.{fold, slice_range}
use Rattle.cs_tree_model.specs.Laws.Bytes.{zeros_behind}
use Rattle.cs_micro.specs.declared.micro_op.MicroOp.{MicroOp}
use Rattle.cs_micro.specs.declared.micro_op.MicroOp.TheVariants.{ChangeFileSize, WriteBlock}
use Rattle.cs_apm.specs.Contents.{content_after, content_left}
use Rattle.cs_apm.specs.Rules.{op_at}
use Rattle.cs_apm.specs.States.{Content, overwritten, padded, bytes_over, visible}
use Rattle.cs_state.specs.Windows.{byte_of, size_after, IsPart}

-- ---- a piece that is put over the bytes

module _ (at : ℕ) (new old : List ℕ) (long : at + length new ≤ length old) where
  front : length (take at old) ≡ at
  front = length-take-le at old (omega (arith, long))

  length-put : length (bytes_over at new old) ≡ length old
  length-put =
      (let a = length-append (take at old) (new ++ drop (at + length new) old) in let b = length-append new (drop (at + length new) old) in
      let d = length-drop (at + length new) old in omega (arith, a, b, d, front, long))

  put_before : (k : ℕ) → k < at → get_or (bytes_over at new old) k 0 ≡ get_or old k 0
  put_before k low =
      get_or_append_left (take at old) (new ++ drop (at + length new) old) 0 k (omega (arith, low, front)) ∙ get_or-take at old k 0 low

  put_inside : (k : ℕ) → at ≤ k → k < at + length new → get_or (bytes_over at new old) k 0 ≡ get_or new (k - at) 0
  put_inside k ge low =
      get_or-append_right (take at old) (new ++ drop (at + length new) old) k 0 (omega (arith, ge, front))
      ∙ ap (λ j. get_or (new ++ drop (at + length new) old) (k - j) 0) front
      ∙ get_or_append_left new (drop (at + length new) old) 0 (k - at) (omega (arith, ge, low))

  put_behind : (k : ℕ) → at + length new ≤ k → get_or (bytes_over at new old) k 0 ≡ get_or old k 0
  put_behind k ge =
      get_or-append_right (take at old) (new ++ drop (at + length new) old) k 0 (omega (arith, ge, front))
      ∙ ap (λ j. get_or (new ++ drop (at + length new) old) (k - j) 0) front
      ∙ get_or-append_right new (drop (at + length new) old) (k - at) 0 (omega (arith, ge))
      ∙ get_or-drop (at + length new) old (k - at - length new) 0
      ∙ (let e : at + length new + (k - at - length new) ≡ k = omega (arith, ge) in ap (λ j. get_or old j 0) e)

module _ (at : ℕ) (new : List ℕ) (f : Content) where
  abbrev room : List ℕ
  room = padded (at + length new) f.bytes

  enough : at + length new ≤ length room
  enough = (let a = length-append f.bytes (replicate (at + length new - length f.bytes) 0) in let b =
      length-replicate {A = ℕ} (at + length new - length f.bytes) 0 in omega (arith, a, b))

  same_room : (k : ℕ) → get_or room k 0 ≡ byte_of f k
  same_room k = zeros_behind f.bytes (at + length new - length f.bytes) k

  pub byte_before : (k : ℕ) → k < at → byte_of (overwritten at new f) k ≡ byte_of f k
  byte_before k low = put_before at new room enough k low ∙ same_room k

  pub byte_inside : (k : ℕ) → at ≤ k → k < at + length new → byte_of (overwritten at new f) k ≡ get_or new (k - at) 0
  byte_inside k ge low = put_inside at new room enough k ge low

  pub byte_behind : (k : ℕ) → at + length new ≤ k → byte_of (overwritten at new f) k ≡ byte_of f k
  byte_behind k ge = put_behind at new room enough k ge ∙ same_room k

  -- if the piece isn't in the part, the part stays
  pub part_kept : (offset : ℕ) (part : List ℕ) → IsPart offset f part
      → ((k : ℕ) → k < length part → (offset + k < at) ⊎ (at + length new ≤ offset + k)) → IsPart offset (overwritten at new f) part
  part_kept offset part is apart k low = is k low ∙ sym (⊎_elim
      (λ (before : offset + k < at). byte_before (offset + k) before)
      (λ (behind : at + length new ≤ offset + k). byte_behind (offset + k) behind)
      (apart k low))

-- what lies in the part is written there
module _ (offset at from end : ℕ) (piece part : List ℕ) (f : Content) (first : from ≡ max at offset)
    (last : end ≡ min (at + length piece) (offset + length part)) (some : from < end) where
  abbrev middle : List ℕ
  middle = slice_range piece (from - at) (end - at)

  middle_long : length middle ≡ end - from
  middle_long =
      length-take-le (end - at - (from - at)) (drop (from - at) piece)
      (let d = length-drop (from - at) piece in omega (arith, d, first, last, some)) ∙ omega (arith, first, last, some)

  inside : from - offset + length middle ≤ length part
  inside = omega (arith, middle_long, first, last, some)

  in_middle : (j : ℕ) → j < end - from → get_or middle j 0 ≡ get_or piece (from - at + j) 0
  in_middle j low =
      get_or-take (end - at - (from - at)) (drop (from - at) piece) j 0 (omega (arith, low, first, last, some)) ∙ get_or-drop (from - at)
      piece j 0

  shown : IsPart offset f part → IsPart offset (overwritten at piece f) (bytes_over (from - offset) middle part)
  shown was k low =
      let a = length-put (from - offset) middle part inside in
      let in_part : k < length part = omega (arith, a, low) in
      ⊎_elim
      (λ (before : k < from - offset).
      put_before (from - offset) middle part inside k before ∙ was k in_part ∙ sym
      (byte_before at piece f (offset + k) (omega (arith, before, first))))
      (λ (ge : from - offset ≤ k). ⊎_elim
      (λ (within : k < from - offset + length middle).
      put_inside (from - offset) middle part inside k ge within
      ∙ in_middle (k - (from - offset)) (omega (arith, ge, within, middle_long))
      ∙ (let e : from - at + (k - (from - offset)) ≡ offset + k - at = omega (arith, first, ge, within, middle_long, some, last) in
      ap (λ j. get_or piece j 0) e)
      ∙ sym (byte_inside at piece f (offset + k) (omega (arith, ge, first)) (omega (arith, within, middle_long, last, first, some))))
      (λ (behind : from - offset + length middle ≤ k).
      put_behind (from - offset) middle part inside k behind ∙ was k in_part ∙ sym
      (byte_behind at piece f (offset + k) (omega (arith, behind, middle_long, last, first, some, in_part))))
      (cases_lt k (from - offset + length middle)))
      (cases_lt k (from - offset))

  pub part_written : (new : List ℕ) → new ≡ bytes_over (from - offset) (slice_range piece (from - at) (end - at)) part
      → IsPart offset f part → IsPart offset (overwritten at piece f) new
  part_written new is was = subst (IsPart offset (overwritten at piece f)) (sym is) (shown was)

-- what is copied of a file that has no hidden bytes, with zeros after it
pub part_copied : (bytes : List ℕ) (offset count from end : ℕ) → from ≡ min offset (length bytes)
    → end ≡ min (length bytes) (offset + count) → (copied : List ℕ) → copied ≡ slice_range bytes from (max end from)
    → (k : ℕ) → k < count → get_or copied k 0 ≡ get_or bytes (offset + k) 0
part_copied bytes offset count from end first last copied is k low = ⊎_elim
    (λ (lt : offset + k < length bytes).
    ap (λ xs. get_or xs k 0) is ∙ get_or-take (max end from - from) (drop from bytes) k 0 (omega (arith, lt, first, last, low)) ∙
    get_or-drop from bytes k 0
    ∙ (let e : from + k ≡ offset + k = omega (arith, first, lt) in ap (λ j. get_or bytes j 0) e))
    (λ (ge : length bytes ≤ offset + k).
    let long : length copied ≤ k =
    (let a = ap length is in let t = length-take (max end from - from) (drop from bytes) in let d = length-drop from bytes in
    omega (arith, a, t, d, first, last, ge)) in
    get_or_past copied k 0 long ∙ sym (get_or_past bytes (offset + k) 0 ge))
    (cases_lt (offset + k) (length bytes))

-- ---- the size

cond_size : (b : Bool) (f g : Content) → (cond b f g).size ≡ cond b f.size g.size
cond_size true f g = refl
cond_size false f g = refl

pub one_size : (n : ℕ) (f : Content) (o : MicroOp) → (content_after n f o).size ≡ size_after n f.size o
one_size n f (ChangeFileSize file size) = cond_size (file == n) (record {
  size = size;
  bytes = cond (nat_lt size f.size) (take size f.bytes) f.bytes;
}) f
one_size n f (WriteBlock file block start at bytes) = cond_size (file == n) _ f ∙ same_size (file == n) f.size
  where
    same_size : (b : Bool) (m : ℕ) → cond b m m ≡ m
    same_size true m = refl
    same_size false m = refl
one_size n f _ = refl

fold_size : (n : ℕ) (f : Content) (os : List MicroOp) → (fold (content_after n) f os).size ≡ fold (size_after n) f.size os
fold_size n f [] = refl
fold_size n f (o ∷ os) = fold_size n (content_after n f o) os ∙ ap (λ m. fold (size_after n) m os) (one_size n f o)

-- the size that a set leaves
pub left_size : (n : ℕ) (f : Content) (ops : List MicroOp) (places : List ℕ)
    → (content_left n f ops places).size ≡ fold (size_after n) f.size (map (op_at ops) places)
unfolding content_left
left_size n f ops places = fold_size n f (map (op_at ops) places)

-- ---- what is read

pub visible_long : (f : Content) → length (visible f) ≡ f.size
visible_long f =
    length-take-le f.size (f.bytes ++ replicate f.size 0)
    (let a = length-append f.bytes (replicate f.size 0) in let b = length-replicate {A = ℕ} f.size 0 in omega (arith, a, b))

visible_at : (f : Content) (k : ℕ) → k < f.size → get_or (visible f) k 0 ≡ byte_of f k
visible_at f k low = get_or-take f.size (f.bytes ++ replicate f.size 0) k 0 low ∙ zeros_behind f.bytes f.size k

module _ (f : Content) (offset count : ℕ) where
  pub read_long : length (take count (drop offset (visible f))) ≡ min count (f.size - offset)
  read_long =
      length-take count (drop offset (visible f)) ∙ ap (min count) (length-drop offset (visible f) ∙ ap (λ n. n - offset) (visible_long f))

  -- so many bytes of a part are what is read
  pub part_read : (part : List ℕ) → length part ≡ min count (f.size - offset) → IsPart offset f part
      → part ≡ take count (drop offset (visible f))
  part_read part long is = ext_get_or 0 part (take count (drop offset (visible f))) (long ∙ sym read_long) (λ k low.
      is k low ∙ sym
      (get_or-take count (drop offset (visible f)) k 0 (omega (arith, low, long)) ∙ get_or-drop offset (visible f) k 0 ∙ visible_at f
      (offset + k) (omega (arith, low, long))))

-- a list that was made longer or shorter reads as before
pub resized_at : (xs : List ℕ) (n m k : ℕ) → k < n → get_or (take n xs ++ replicate m 0) k 0 ≡ get_or xs k 0
resized_at xs n m k low = zeros_behind (take n xs) m k ∙ get_or-take n xs k 0 low
