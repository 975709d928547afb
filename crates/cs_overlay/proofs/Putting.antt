-- A piece in a block, and in the bytes.
use Rattle.std.proofs.Common.{◌≡◌, ◌≢◌, ℕ, ◌+◌, ◌-◌, ◌*◌, ◌/◌, ◌%◌, ◌<◌, ◌≤◌, ◌==◌, nat_lt, true, false, cond, List, ◌++◌, take, drop}
use Rattle.std.proofs.Common.{length, slice_index, Option, Some, IsSome, IfSome, refl, sym, ap, ◌∙◌, subst, ⊎_elim, arith, length-append}
use Rattle.std.proofs.lemmas.List.{get_or-take, length-take, length-drop, get_or_append_left, get_or-append_right}
use Rattle.std.proofs.lemmas.Bool.{cases_lt, cases_eq, lt-ltb, le-ltb, eq-eqb, ne_eqb}
use Rattle.std.specs.Option.{option_map_or}
use Rattle.std.specs.Ordering.{nat_cmp, is_eq}
use Rattle.cs_overlay.specs.Patch.{byte_at, put_in, written_byte, Reaches}
use Rattle.cs_overlay.proofs.Pieces.{get-drop}

module _ (k : ℕ) (w s : List ℕ) (fits : k + length w ≤ length s) where
  front : length (take k s) ≡ k
  front = omega (arith, length-take k s, fits)

  both : length (take k s ++ w) ≡ k + length w
  both = omega (arith, length-append (take k s) w, front)

  pub put_length : length (put_in k w s) ≡ length s
  put_length = length-append (take k s ++ w) (drop (k + length w) s) ∙ omega (arith, both, length-drop (k + length w) s, fits)

  pub put_before : (i : ℕ) → i < k → slice_index (put_in k w s) i ≡ slice_index s i
  put_before i lt =
      get_or_append_left (take k s ++ w) (drop (k + length w) s) 0 i (omega (arith, both, lt)) ∙ get_or_append_left (take k s) w 0 i
      (omega (arith, front, lt)) ∙ get_or-take k s i 0 lt

  pub put_at : (i : ℕ) → k ≤ i → i < k + length w → slice_index (put_in k w s) i ≡ slice_index w (i - k)
  put_at i le lt =
      get_or_append_left (take k s ++ w) (drop (k + length w) s) 0 i (omega (arith, both, lt)) ∙ get_or-append_right (take k s) w k i 0
      front le

  pub put_behind : (i : ℕ) → k + length w ≤ i → slice_index (put_in k w s) i ≡ slice_index s i
  put_behind i le =
      let z : k + length w + (i - (k + length w)) ≡ i = omega (arith, le) in
      get_or-append_right (take k s ++ w) (drop (k + length w) s) (k + length w) i 0 both le
      ∙ get-drop (k + length w) (i - (k + length w)) s ∙ ap (slice_index s) z

-- the place of a byte relative to a write
module _ (offset : ℕ) (w : List ℕ) (f : ℕ → ℕ) (i : ℕ) where
  pub byte_front : i < offset → written_byte offset w f i ≡ f i
  byte_front lt = let e : nat_lt i offset ≡ true = lt-ltb _ _ lt in rw e refl

  pub byte_in : offset ≤ i → i < offset + length w → written_byte offset w f i ≡ slice_index w (i - offset)
  byte_in le lt = let e : nat_lt i offset ≡ false = le-ltb _ _ le in let g : nat_lt i (offset + length w) ≡ true = lt-ltb _ _ lt in
      rw (e, g) refl

  pub byte_back : offset + length w ≤ i → written_byte offset w f i ≡ f i
  byte_back le = let e : nat_lt i offset ≡ false = le-ltb _ _ (omega (arith, le)) in let g : nat_lt i (offset + length w) ≡ false =
      le-ltb _ _ le in rw (e, g) refl

module _ (blocks new : ℕ → Option (List ℕ)) (at : ℕ) (w s : List ℕ) (within : at % 4096 + length w ≤ 4096)
    (here : blocks (at / 4096) ≡ Some s) (fits : at % 4096 + length w ≤ length s)
    (goes : (q : ℕ) → new q ≡ cond (is_eq (nat_cmp (at / 4096) q)) (Some (put_in (at % 4096) w s)) (blocks q)) where
  new_here : (q : ℕ) → q ≡ at / 4096 → new q ≡ Some (put_in (at % 4096) w s)
  new_here q e = let t : at / 4096 == q ≡ true = eq-eqb _ _ (sym e) in let u : nat_lt (at / 4096) q ≡ false =
      le-ltb _ _ (omega (arith, e)) in goes q ∙ rw (t, u) refl

  new_other : (q : ℕ) → q ≢ at / 4096 → new q ≡ blocks q
  new_other q ne = let t : at / 4096 == q ≡ false = ne_eqb _ _ (λ e. ne (sym e)) in ⊎_elim
      (λ (a : at / 4096 < q). let u : nat_lt (at / 4096) q ≡ true = lt-ltb _ _ a in goes q ∙ rw (t, u) refl)
      (λ (a : q ≤ at / 4096). let u : nat_lt (at / 4096) q ≡ false = le-ltb _ _ a in goes q ∙ rw (t, u) refl)
      (cases_lt (at / 4096) q)

  pub put_byte : (lower : List ℕ) (kept i : ℕ) → byte_at lower kept new i ≡ written_byte at w (byte_at lower kept blocks) i
  put_byte lower kept i = ⊎_elim
      (λ (e : i / 4096 ≡ at / 4096).
      let now =
      ap (λ o. option_map_or (λ b. slice_index b (i % 4096)) o (cond (nat_lt i kept) (slice_index lower i) 0)) (new_here (i / 4096) e)
      in
      let was : byte_at lower kept blocks i ≡ slice_index s (i % 4096) =
      ap (λ o. option_map_or (λ b. slice_index b (i % 4096)) o (cond (nat_lt i kept) (slice_index lower i) 0)) (ap blocks e ∙ here) in
      ⊎_elim
      (λ (lt : i < at). now ∙ put_before (at % 4096) w s fits (i % 4096) (omega (arith, e, lt)) ∙ sym was ∙ sym
      (byte_front at w (byte_at lower kept blocks) i lt))
      (λ (le : at ≤ i). ⊎_elim
      (λ (lt : i < at + length w).
      let z : i % 4096 - at % 4096 ≡ i - at = omega (arith, e, le) in
      now ∙ put_at (at % 4096) w s fits (i % 4096) (omega (arith, e, le)) (omega (arith, e, le, lt)) ∙ ap (slice_index w) z ∙ sym
      (byte_in at w (byte_at lower kept blocks) i le lt))
      (λ (ge : at + length w ≤ i). now ∙ put_behind (at % 4096) w s fits (i % 4096) (omega (arith, e, ge)) ∙ sym was ∙ sym
      (byte_back at w (byte_at lower kept blocks) i ge))
      (cases_lt i (at + length w)))
      (cases_lt i at))
      (λ (ne : i / 4096 ≢ at / 4096).
      let same =
      ap (λ o. option_map_or (λ b. slice_index b (i % 4096)) o (cond (nat_lt i kept) (slice_index lower i) 0)) (new_other (i / 4096) ne)
      in
      ⊎_elim
      (λ (lt : i < at). same ∙ sym (byte_front at w (byte_at lower kept blocks) i lt))
      (λ (le : at ≤ i). same ∙ sym (byte_back at w (byte_at lower kept blocks) i (omega (arith, ne, le, within))))
      (cases_lt i at))
      (cases_eq (i / 4096) (at / 4096))

  pub still_reaches : (a b : ℕ) → Reaches blocks a b → Reaches new a b
  still_reaches a b r i lo hi = ⊎_elim
      (λ (e : i / 4096 ≡ at / 4096).
      let o = r i lo hi in
      let one : o.0 ≡ s = (let two : Some o.0 ≡ Some s = sym o.1 ∙ ap blocks e ∙ here in cc) in
      (put_in (at % 4096) w s, new_here (i / 4096) e, omega (arith, put_length (at % 4096) w s fits, o.2, ap length one)))
      (λ (ne : i / 4096 ≢ at / 4096). let o = r i lo hi in (o.0, new_other (i / 4096) ne ∙ o.1, o.2))
      (cases_eq (i / 4096) (at / 4096))

-- what is written up to here, and a piece more
module _ (offset at stop : ℕ) (bytes : List ℕ) (f : ℕ → ℕ) (lo : offset ≤ at) (up : at ≤ stop) (end : stop - offset ≤ length bytes) where
  pub more_written : (w : List ℕ) → w ≡ take (stop - at) (drop (at - offset) bytes) → (i : ℕ)
      → written_byte at w (written_byte offset (take (at - offset) bytes) f) i ≡ written_byte offset (take (stop - offset) bytes) f i
  more_written w is i =
      let long : length w ≡ stop - at =
      ap length is ∙ (omega (arith, length-take (stop - at) (drop (at - offset) bytes), length-drop (at - offset) bytes, lo, up, end))
      in
      let some : length (take (at - offset) bytes) ≡ at - offset = omega (arith, length-take (at - offset) bytes, lo, up, end) in
      let all : length (take (stop - offset) bytes) ≡ stop - offset = omega (arith, length-take (stop - offset) bytes, end) in
      ⊎_elim
      (λ (lt : i < at). byte_front at w (written_byte offset (take (at - offset) bytes) f) i lt ∙ ⊎_elim
      (λ (a : i < offset). byte_front offset (take (at - offset) bytes) f i a ∙ sym (byte_front offset (take (stop - offset) bytes) f i a))
      (λ (a : offset ≤ i). byte_in offset (take (at - offset) bytes) f i a (omega (arith, some, lt, lo)) ∙ get_or-take (at - offset) bytes
      (i - offset) 0 (omega (arith, lt, a))
      ∙ sym (byte_in offset (take (stop - offset) bytes) f i a (omega (arith, all, lt, lo, up)) ∙ get_or-take (stop - offset) bytes
      (i - offset) 0 (omega (arith, lt, a, up))))
      (cases_lt i offset))
      (λ (le : at ≤ i). ⊎_elim
      (λ (lt : i < stop).
      let z : at - offset + (i - at) ≡ i - offset = omega (arith, lo, le) in
      byte_in at w (written_byte offset (take (at - offset) bytes) f) i le (omega (arith, long, lt, le)) ∙ ap (λ v. slice_index v (i - at))
      is ∙ get_or-take (stop - at) (drop (at - offset) bytes) (i - at) 0 (omega (arith, lt, le)) ∙ get-drop (at - offset) (i - at)
      bytes ∙ ap (slice_index bytes) z
      ∙ sym (byte_in offset (take (stop - offset) bytes) f i (omega (arith, lo, le)) (omega (arith, all, lt, lo, le)) ∙ get_or-take
      (stop - offset) bytes (i - offset) 0 (omega (arith, lt, lo, le))))
      (λ (ge : stop ≤ i). byte_back at w (written_byte offset (take (at - offset) bytes) f) i (omega (arith, long, ge, up)) ∙ byte_back
      offset (take (at - offset) bytes) f i (omega (arith, some, ge, lo, up)) ∙ sym
      (byte_back offset (take (stop - offset) bytes) f i (omega (arith, all, ge, lo, up))))
      (cases_lt i stop))
      (cases_lt i at)

pub written_same : (offset : ℕ) (w : List ℕ) (f g : ℕ → ℕ) (i : ℕ) → f i ≡ g i → written_byte offset w f i ≡ written_byte offset w g i
written_same offset w f g i e = ap (λ v. cond (nat_lt i offset) v (cond (nat_lt i (offset + length w)) (slice_index w (i - offset)) v)) e

-- the block of a piece reaches to the piece's end
pub reach_piece : (blocks : ℕ → Option (List ℕ)) (offset end at stop : ℕ) → Reaches blocks offset end → offset ≤ at → at < stop → stop ≤ end
    → stop ≤ (at / 4096 + 1) * 4096
    → (s : List ℕ) × (blocks (at / 4096) ≡ Some s) × (at % 4096 + (stop - at) ≤ length s)
reach_piece blocks offset end at stop r lo lt hi in_block =
    let o = r (stop - 1) (omega (arith, lo, lt)) (omega (arith, lt, hi)) in
    let same : at / 4096 ≡ (stop - 1) / 4096 = omega (arith, lt, in_block) in
    (o.0, ap blocks same ∙ o.1, omega (arith, o.2, same, lt, in_block))

pub some_there : {A : Type 0} (o : Option A) (x : A) → o ≡ Some x → IsSome o
some_there o x e = subst IsSome (sym e) refl

pub some_all : {A : Type 0} (P : A → Type 0) (o : Option A) (x : A) → o ≡ Some x → P x → IfSome o P
some_all P o x e h = subst (λ w. IfSome w P) (sym e) h
