-- A write of the bytes is a write of the list.
use Rattle.std.proofs.Common.{◌≡◌, ℕ, ◌+◌, ◌-◌, ◌<◌, ◌≤◌, max, List, ◌++◌, map, take, drop, length, replicate, slice_index, sym, ap, ◌∙◌}
use Rattle.std.proofs.Common.{⊎_elim, arith, length-append}
use Rattle.std.proofs.lemmas.List.{get_or-take, length-take, length-drop, get_or_append_left, get_or-append_right, get_or-replicate}
use Rattle.std.proofs.lemmas.List.{length-replicate}
use Rattle.std.proofs.lemmas.List.FromFn.{length-map-range_with_len, get_or-map-range_with_len, fill_by_all}
use Rattle.std.proofs.lemmas.Bool.{cases_lt}
use Rattle.std.specs.List.{range_with_len}
use Rattle.cs_tree_model.specs.Effects.{bytes_after_write}
use Rattle.cs_tree_model.specs.Laws.Bytes.{placed_some}
use Rattle.cs_overlay.specs.Patch.{written_byte}
use Rattle.cs_overlay.proofs.Pieces.{get-drop}
use Rattle.cs_overlay.proofs.Putting.{byte_front, byte_in, byte_back}

module _ (f g : ℕ → ℕ) (size offset : ℕ) (w : List ℕ) (goes : (i : ℕ) → g i ≡ written_byte offset w f i)
    (hides : (i : ℕ) → size ≤ i → f i ≡ 0) where
  abbrev bytes : List ℕ
  bytes = map f (range_with_len 0 size)

  size_is : length bytes ≡ size
  size_is = length-map-range_with_len f 0 size

  byte : (i : ℕ) → i < size → slice_index bytes i ≡ f i
  byte i lt = get_or-map-range_with_len f 0 size i i 0 lt (omega arith)

  abbrev put_there : List ℕ
  put_there = take offset (bytes ++ replicate offset 0) ++ w ++ drop (offset + length w) bytes

  front : length (take offset (bytes ++ replicate offset 0)) ≡ offset
  front = omega
      (arith, length-take offset (bytes ++ replicate offset 0), length-append bytes (replicate offset 0), length-replicate {A = ℕ} offset 0)

  both : length (take offset (bytes ++ replicate offset 0) ++ w) ≡ offset + length w
  both = omega (arith, length-append (take offset (bytes ++ replicate offset 0)) w, front)

  padded : (i : ℕ) → i < offset → slice_index (bytes ++ replicate offset 0) i ≡ f i
  padded i lt = ⊎_elim
      (λ (a : i < size). get_or_append_left bytes (replicate offset 0) 0 i (omega (arith, size_is, a)) ∙ byte i a)
      (λ (a : size ≤ i). get_or-append_right bytes (replicate offset 0) size i 0 size_is a ∙ get_or-replicate offset (i - size) 0 0
      (omega (arith, lt, a)) ∙ sym (hides i a))
      (cases_lt i size)

  place : (i : ℕ) → i < max size (offset + length w) → slice_index put_there i ≡ g i
  place i inside = ⊎_elim
      (λ (lt : i < offset).
      get_or_append_left (take offset (bytes ++ replicate offset 0) ++ w) (drop (offset + length w) bytes) 0 i (omega (arith, both, lt)) ∙
      get_or_append_left (take offset (bytes ++ replicate offset 0)) w 0 i (omega (arith, front, lt))
      ∙ get_or-take offset (bytes ++ replicate offset 0) i 0 lt ∙ padded i lt ∙ sym (goes i ∙ byte_front offset w f i lt))
      (λ (le : offset ≤ i). ⊎_elim
      (λ (lt : i < offset + length w).
      get_or_append_left (take offset (bytes ++ replicate offset 0) ++ w) (drop (offset + length w) bytes) 0 i (omega (arith, both, lt)) ∙
      get_or-append_right (take offset (bytes ++ replicate offset 0)) w offset i 0 front le
      ∙ sym (goes i ∙ byte_in offset w f i le lt))
      (λ (ge : offset + length w ≤ i).
      let z : offset + length w + (i - (offset + length w)) ≡ i = omega (arith, ge) in
      get_or-append_right (take offset (bytes ++ replicate offset 0) ++ w) (drop (offset + length w) bytes) (offset + length w) i 0 both ge
      ∙ get-drop (offset + length w) (i - (offset + length w)) bytes ∙ ap (slice_index bytes) z ∙ byte i (omega (arith, inside, ge)) ∙ sym
      (goes i ∙ byte_back offset w f i ge))
      (cases_lt i (offset + length w)))
      (cases_lt i offset)

  pub written_bytes : 0 < length w → map g (range_with_len 0 (max size (offset + length w))) ≡ bytes_after_write offset w bytes
  written_bytes some = sym (sym (placed_some offset w bytes some) ∙ fill_by_all g put_there (max size (offset + length w)) 0
      (length-append (take offset (bytes ++ replicate offset 0) ++ w) (drop (offset + length w) bytes) ∙ omega
      (arith, both, length-drop (offset + length w) bytes, size_is)) place)
