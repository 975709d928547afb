-- The parts of a write in its blocks are its bytes.
use Rattle.std.proofs.Common.{◌≡◌, ℕ, zero, suc, ◌+◌, ◌-◌, ◌<◌, ◌≤◌, List, ◌++◌, length, max, min, take, drop, refl, sym, ap, ◌∙◌, arith}
use Rattle.std.proofs.lemmas.List.{drop-take, take-append-drop, take-take, take_all}
use Rattle.std.specs.List.{flat_map, range_with_len, slice_range}
use Rattle.cs_trace_lines.specs.Versions.{block_bytes}
use Rattle.cs_trace_lines.specs.declared.version.BlockSize.{BlockSize}
use Rattle.cs_micro.specs.Blocks.{block_of, bytes_in, start_of, touched_blocks}
use Rattle.cs_micro.proofs.Divisions.{blocks_ascend, next_start, starts_after, starts_by}
use Rattle.cs_micro.proofs.Ranges.{flat_map-range_more}

-- a first part, and what follows it up to a place
joined : (xs : List ℕ) (a b : ℕ) → a ≤ b → take a xs ++ slice_range xs a b ≡ take b xs
joined xs a b le =
    let m = b - a in
    let whole : a + m ≡ b = omega (arith, le) in
    ap (λ v. v ++ take m (drop a xs)) (sym (take-take a (a + m) xs (omega arith)))
    ∙ ap (λ v. take a (take (a + m) xs) ++ v) (sym (drop-take a m xs))
    ∙ take-append-drop a (take (a + m) xs) ∙ ap (λ n. take n xs) whole

module _ (size : BlockSize) where
  abbrev b : ℕ
  b = block_bytes size

  -- the first so many blocks have the bytes up to the next one
  first_blocks : (offset : ℕ) (bytes : List ℕ) (n : ℕ) → 0 < length bytes
      → block_of b offset + n ≤ block_of b (offset + length bytes - 1) + 1
      → flat_map (λ block. bytes_in b block offset bytes) (range_with_len (block_of b offset) n)
      ≡ take (min (offset + length bytes) (start_of b (block_of b offset + n)) - offset) bytes
  first_blocks offset bytes zero some within =
      let begins = starts_by size (block_of b offset + 0) offset (omega arith) in
      let none : 0 ≡ min (offset + length bytes) (start_of b (block_of b offset + 0)) - offset = omega (arith, begins) in
      ap (λ k. take k bytes) none
  first_blocks offset bytes (suc n) some within =
      let first = block_of b offset in
      let block = first + n in
      let part = λ (k : ℕ). bytes_in b k offset bytes in
      let begin = max offset (start_of b block) - offset in
      let end = min (offset + length bytes) (start_of b (block + 1)) - offset in
      let begins = starts_by size block (offset + length bytes - 1) (omega (arith, within)) in
      let next = starts_after size (block + 1) offset (omega arith) in
      let above = next_start size block in
      let here : min (offset + length bytes) (start_of b block) - offset ≡ begin = omega (arith, some, begins) in
      let ordered : begin ≤ end = omega (arith, some, begins, next, above) in
      let more : suc n ≡ n + 1 = omega arith in
      let same : block + 1 ≡ first + suc n = omega arith in
      let there : end ≡ min (offset + length bytes) (start_of b (first + suc n)) - offset =
      ap (λ k. min (offset + length bytes) (start_of b k) - offset) same in
      ap (λ k. flat_map part (range_with_len first k)) more
      ∙ flat_map-range_more part first n block refl
      ∙ ap (λ v. v ++ part block) (first_blocks offset bytes n some (omega (arith, within)))
      ∙ ap (λ k. take k bytes ++ part block) here
      ∙ joined bytes begin end ordered
      ∙ ap (λ k. take k bytes) there

  pub blocks_whole : (offset : ℕ) (bytes : List ℕ) → 0 < length bytes
      → flat_map (λ block. bytes_in b block offset bytes) (touched_blocks b offset bytes) ≡ bytes
  blocks_whole offset bytes some =
      let first = block_of b offset in
      let last = block_of b (offset + length bytes - 1) in
      let ascend = blocks_ascend size offset (offset + length bytes - 1) (omega (arith, some)) in
      let n = last + 1 - first in
      let past = starts_after size (first + n) (offset + length bytes - 1) (omega (arith, ascend)) in
      first_blocks offset bytes n some (omega (arith, ascend))
      ∙ take_all (min (offset + length bytes) (start_of b (first + n)) - offset) bytes (omega (arith, some, past))
