-- The bytes that hexadecimal digits spell, without the places of the errors: those of one part, and then those of the rest.
use Rattle.std.proofs.Common.{◌≡◌, ℕ, ◌+◌, ◌*◌, ◌/◌, ◌%◌, min, true, false, if◌then◌else◌, List, [], ◌∷◌, ◌++◌, length, inl, inr}
use Rattle.std.proofs.Common.{Option, Some, None, Result, Ok, Err, is_err, MatchResult, option_and_then, option_map}
use Rattle.std.proofs.Common.{◌-◌, ◌≤◌, take, drop, refl, sym, ap, ◌∙◌, arith, append_assoc, append-nil, length-append, length-drop}
use Rattle.std.proofs.lemmas.List.{drop-drop, drop_all, length-take, nil_from_length, take-append-drop, take_at}
use Rattle.std.proofs.lemmas.Slice.{drop-put_mid, take-put_mid}
use Rattle.std.proofs.lemmas.Bool.{cases_eq}
use Rattle.std.specs.Result.{result_ok}
use Rattle.hex.specs.Hex.{decode_of, decode_pairs, decode_sized, digit_or_error, hex_digit_value, pair_value, ◌>>=◌}
use Rattle.hex.specs.declared.error.FromHexError.{FromHexError}
use Rattle.hex.proofs.HexLemmas.{decode_of-even, decode_of-odd, decode_sized-odd, decode_sized-ok, decode_sized-twice}

-- the byte of two digits
abbrev pub byte_of : Option ℕ → Option ℕ → Option ℕ
byte_of high low = option_and_then (λ h. option_map (λ l. h * 16 + l) low) high

-- bytes, and then those of the rest
abbrev pub followed_by : Option (List ℕ) → Option (List ℕ) → Option (List ℕ)
followed_by first rest = option_and_then (λ xs. option_map (λ ys. xs ++ ys) rest) first

-- a byte, and then those of the rest
abbrev pub byte_before : Option ℕ → Option (List ℕ) → Option (List ℕ)
byte_before byte rest = option_and_then (λ b. option_map (λ ys. b ∷ ys) rest) byte

-- the bytes that digits spell
unfoldable pub spelled : List ℕ → Option (List ℕ)
spelled [] = Some []
spelled (digit ∷ []) = None
spelled (high ∷ low ∷ rest) = byte_before (byte_of (hex_digit_value high) (hex_digit_value low)) (spelled rest)

pair_by : (high low : Option ℕ) (c d i j : ℕ)
    → result_ok (digit_or_error c i high >>= λ h. digit_or_error d j low >>= λ l. Ok (h * 16 + l)) ≡ byte_of high low
pair_by None low c d i j = refl
pair_by (Some h) None c d i j = refl
pair_by (Some h) (Some l) c d i j = refl

before_by : (byte : Result ℕ FromHexError) (rest : Result (List ℕ) FromHexError)
    → result_ok (byte >>= λ b. rest >>= λ bs. Ok (b ∷ bs)) ≡ byte_before (result_ok byte) (result_ok rest)
before_by (Err e) rest = refl
before_by (Ok b) (Err e) = refl
before_by (Ok b) (Ok bs) = refl

spelled-decode_pairs : (i : ℕ) (s : List ℕ) → result_ok (decode_pairs i s) ≡ spelled s
unfolding decode_pairs spelled
spelled-decode_pairs i [] = refl
spelled-decode_pairs i (digit ∷ []) = refl
spelled-decode_pairs i (high ∷ low ∷ rest) =
    let byte = pair_by (hex_digit_value high) (hex_digit_value low) high low i (i + 1) in
    before_by (pair_value high low i) (decode_pairs (i + 2) rest)
    ∙ ap (λ b. byte_before b (result_ok (decode_pairs (i + 2) rest))) byte
    ∙ ap (byte_before (byte_of (hex_digit_value high) (hex_digit_value low))) (spelled-decode_pairs (i + 2) rest)

before_none : (byte : Option ℕ) → byte_before byte None ≡ None
before_none None = refl
before_none (Some b) = refl

spelled-nil : spelled [] ≡ Some []
unfolding spelled
spelled-nil = refl

spelled-odd : (s : List ℕ) → length s % 2 ≡ 1 → spelled s ≡ None
unfolding spelled
spelled-odd [] odd = absurd (omega arith)
spelled-odd (digit ∷ []) odd = refl
spelled-odd (high ∷ low ∷ rest) odd =
    ap (byte_before (byte_of (hex_digit_value high) (hex_digit_value low))) (spelled-odd rest (omega arith))
    ∙ before_none (byte_of (hex_digit_value high) (hex_digit_value low))

-- what digits spell is what decode_of gives for them
spelled-decode_of : (s : List ℕ) → result_ok (decode_of s) ≡ spelled s
spelled-decode_of s =
    elim (cases_eq (length s % 2) 1) [
      | inl odd ↦ ap result_ok (decode_of-odd s odd) ∙ sym (spelled-odd s odd)
      | inr even ↦ ap result_ok (decode_of-even s (omega arith)) ∙ spelled-decode_pairs 0 s
    ]

before_followed : (byte : Option ℕ) (first rest : Option (List ℕ))
    → byte_before byte (followed_by first rest) ≡ followed_by (byte_before byte first) rest
before_followed None first rest = refl
before_followed (Some b) None rest = refl
before_followed (Some b) (Some xs) None = refl
before_followed (Some b) (Some xs) (Some ys) = refl

nothing_followed : (rest : Option (List ℕ)) → rest ≡ followed_by (Some []) rest
nothing_followed None = refl
nothing_followed (Some ys) = refl

spelled-append : (first rest : List ℕ) → length first % 2 ≡ 0 → spelled (first ++ rest) ≡ followed_by (spelled first) (spelled rest)
unfolding spelled
spelled-append [] rest even = nothing_followed (spelled rest)
spelled-append (digit ∷ []) rest even = absurd (omega arith)
spelled-append (high ∷ low ∷ more) rest even =
    ap (byte_before (byte_of (hex_digit_value high) (hex_digit_value low))) (spelled-append more rest (omega arith))
    ∙ before_followed (byte_of (hex_digit_value high) (hex_digit_value low)) (spelled more) (spelled rest)

followed_by_nothing : (first : Option (List ℕ)) → first ≡ followed_by first (Some [])
followed_by_nothing None = refl
followed_by_nothing (Some xs) = ap Some (sym (append-nil xs))

followed_twice : (first second rest : Option (List ℕ))
    → followed_by first (followed_by second rest) ≡ followed_by (followed_by first second) rest
followed_twice None second rest = refl
followed_twice (Some xs) None rest = refl
followed_twice (Some xs) (Some ys) None = refl
followed_twice (Some xs) (Some ys) (Some zs) = ap Some (sym (append_assoc xs ys zs))

-- a part has an even number of digits, or is the last
spelled-part : (n : ℕ) (part rest : List ℕ) → length part ≡ min (2 * n) (length (part ++ rest))
    → spelled (part ++ rest) ≡ followed_by (spelled part) (spelled rest)
spelled-part n part rest size =
    elim (cases_eq (length part % 2) 1) [
      | inl odd ↦
          let none : rest ≡ [] = nil_from_length rest (omega (arith, length-append part rest)) in
          rw (none, append-nil, spelled-nil) (followed_by_nothing (spelled part))
      | inr even ↦ spelled-append part rest (omega arith)
    ]

spelled-decode_sized : (s : List ℕ) (n : ℕ) → length s / 2 ≡ n → result_ok (decode_sized s n) ≡ spelled s
spelled-decode_sized s n half =
    elim (cases_eq (length s % 2) 1) [
      | inl odd ↦ ap result_ok (decode_sized-odd s n odd) ∙ sym (spelled-odd s odd)
      | inr even ↦ ap result_ok (decode_sized-twice s n (omega arith)) ∙ spelled-decode_of s
    ]

-- `now` is what is in the memory of the digits `all` after `n` bytes are decoded: first those bytes, and last the digits that are left
pub record IsDecoded (all now : List ℕ) (n : ℕ) : Type 0 where
  pub same_length : length now ≡ length all
  pub within : 2 * n ≤ length now
  pub so_far : spelled all ≡ followed_by (Some (take n now)) (spelled (drop (2 * n) now))

-- after the last part
pub all_decoded : (all now : List ℕ) (n : ℕ) → IsDecoded all now n → length now ≤ 2 * n → result_ok (decode_of all) ≡ Some (take n now)
all_decoded all now n decoded end =
    spelled-decode_of all ∙ decoded.so_far ∙ ap (λ s. followed_by (Some (take n now)) (spelled s)) (drop_all (2 * n) now end)
    ∙ ap (followed_by (Some (take n now))) spelled-nil ∙ sym (followed_by_nothing (Some (take n now)))

-- a slice's decoding, by whether it fails
given_by : (d : Result (List ℕ) FromHexError) (r : Result Unit FromHexError) (out : List ℕ)
    → MatchResult d (λ bytes. (r ≡ Ok tt) × (out ≡ bytes)) (λ e. r ≡ Err e)
    → result_ok d ≡ (if is_err r then None else Some out)
given_by (Ok bytes) r out h = rw (h.0, h.1) refl
given_by (Err e) r out h = rw h refl

-- a slice's decoding that doesn't fail
given_ok : (d : Result (List ℕ) FromHexError) (r : Result Unit FromHexError) (out : List ℕ)
    → MatchResult d (λ bytes. (r ≡ Ok tt) × (out ≡ bytes)) (λ e. r ≡ Err e) → is_err r ≡ false → d ≡ Ok out
given_ok (Ok bytes) r out h is = ap Ok (sym h.1)
given_ok (Err e) r out h is = let e : true ≡ false = ap is_err (sym h) ∙ is in cc

-- one part more: the first `m` of the digits that are left, at most `2 * most` of them, into room for `size` bytes
module _ (most size n m : ℕ) (all now rest room : List ℕ) (r : Result Unit FromHexError)
    (decoded : IsDecoded all now n) (rest_is : rest ≡ drop (2 * n) now) (cut : m ≡ min (length rest) (2 * most))
    (half : length (take m rest) / 2 ≡ size)
    (given : MatchResult (decode_sized (take m rest) size) (λ bytes. (r ≡ Ok tt) × (room ≡ bytes)) (λ e. r ≡ Err e)) where
  next_part : (first : Option (List ℕ)) → (if is_err r then None else Some room) ≡ first
      → spelled all ≡ followed_by (Some (take n now)) (followed_by first (spelled (drop m rest)))
  next_part first is =
      let parts : take m rest ++ drop m rest ≡ rest = take-append-drop m rest in
      let long : length (take m rest) ≡ min (2 * most) (length (take m rest ++ drop m rest)) =
      rw parts (omega (arith, length-take m rest)) in
      let part_is : spelled (take m rest) ≡ first =
      sym (spelled-decode_sized (take m rest) size half) ∙ given_by (decode_sized (take m rest) size) r room given ∙ is in
      decoded.so_far ∙ ap (λ s. followed_by (Some (take n now)) (spelled s)) (sym rest_is ∙ sym parts)
      ∙ ap (followed_by (Some (take n now))) (spelled-part most (take m rest) (drop m rest) long)
      ∙ ap (λ first. followed_by (Some (take n now)) (followed_by first (spelled (drop m rest)))) part_is

  pub part_refused : is_err r ≡ true → result_ok (decode_of all) ≡ None
  part_refused is = spelled-decode_of all ∙ next_part None (ap (λ b. if b then None else Some room) is)

  -- a part that isn't refused has two digits for each byte
  part_even : is_err r ≡ false → m ≡ 2 * size
  part_even is =
      let even = decode_sized-ok (take m rest) size room (given_ok (decode_sized (take m rest) size) r room given is) in
      omega (arith, length-take m rest)

  part_decoded : is_err r ≡ false → length room ≡ size
      → spelled all ≡ followed_by (Some (take n now ++ room)) (spelled (drop (2 * (n + length room)) now))
  part_decoded is room_is =
      let even = part_even is in
      let sum : 2 * n + m ≡ 2 * (n + length room) = omega arith in
      next_part (Some room) (ap (λ b. if b then None else Some room) is)
      ∙ followed_twice (Some (take n now)) (Some room) (spelled (drop m rest))
      ∙ ap (λ s. followed_by (Some (take n now ++ room)) (spelled s))
      (ap (drop m) rest_is ∙ drop-drop m (2 * n) now ∙ ap (λ i. drop i now) sum)

  -- the part's bytes are written after those of the parts before it, into a vector of this length
  pub part_written : {written : List ℕ} (len : ℕ) → is_err r ≡ false → length room ≡ size → length now ≡ len
      → let placed = take n now ++ (room ++ drop (length room) (drop n now)) in written ≡ take len (placed ++ drop (length placed) now)
      → IsDecoded all written (n + length room)
  part_written {written} len is room_is len_is written_is =
      let even = part_even is in
      let rest_long : length rest ≡ length now - 2 * n = ap length rest_is ∙ length-drop (2 * n) now in
      let placed = take n now ++ (room ++ drop (length room) (drop n now)) in
      let long : length placed ≡ len = omega (arith, length-append {A = ℕ}, length-take {A = ℕ}, length-drop {A = ℕ}) in
      let placed_is : written ≡ placed = written_is ∙ take_at placed (drop (length placed) now) len long in
      let front : take (n + length room) placed ≡ take n now ++ room =
      take-put_mid n (length room) now room (n + length room) refl (omega arith) in
      let left : drop (2 * (n + length room)) placed ≡ drop (2 * (n + length room)) now =
      drop-put_mid n (length room) now room (2 * (n + length room)) (omega arith) (omega arith) refl in
      rw placed_is (record {
        same_length = long ∙ sym len_is ∙ decoded.same_length;
        within = omega arith;
        so_far = rw (front, left) (part_decoded is room_is);
      })
