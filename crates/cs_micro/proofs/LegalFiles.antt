-- What changes one file is legal, and what it leaves.
use Rattle.std.proofs.Common.{◌≡◌, ◌≢◌, ℕ, zero, suc, ◌+◌, ◌-◌, ◌<◌, ◌≤◌, ◌==◌, nat_lt, Bool, true, false, List, [], ◌∷◌}
use Rattle.std.proofs.Common.{◌++◌, cond, fold, map, max, min, length, drop, refl, sym, ap, ◌∙◌, subst}
use Rattle.std.proofs.Common.{arith, length-take, length-drop, eq-eqb}
use Rattle.std.proofs.lemmas.Bool.{and_parts, false≢true, ltb-true}
use Rattle.std.proofs.lemmas.List.{length-replicate}
use Rattle.std.proofs.lemmas.List.Sums.{fold-append}
use Rattle.std.specs.List.{range_with_len, slice_range}
use Rattle.cs_entries.specs.declared.node.FileKind.TheVariants.{Regular}
use Rattle.cs_entries.specs.Tables.{held_in}
use Rattle.cs_trace_lines.specs.Versions.{block_bytes, block_size_of, is_fourth}
use Rattle.cs_trace_lines.specs.declared.version.BlockSize.{BlockSize}
use Rattle.cs_trace_lines.specs.declared.version.Version.{Version}
use Rattle.cs_trace.specs.Limits.{most_bytes}
use Rattle.cs_trace.specs.Operations.{Stands}
use Rattle.cs_micro.specs.Blocks.{block_of, block_write, block_writes, start_of}
use Rattle.cs_micro.specs.Legal.{AreLegal, IsLegal, Made, made_after}
use Rattle.cs_micro.specs.MicroOperations.{block_of_version, bytes_micros, growth_micros}
use Rattle.cs_micro.specs.MicroOperations.{truncate_micros, write_micros, zero_micros}
use Rattle.cs_micro.specs.Pages.{grows_past_page, page_end, sizes_on_way, zeros_behind}
use Rattle.cs_micro.specs.declared.micro_op.MicroOp.{MicroOp}
use Rattle.cs_micro.specs.declared.micro_op.MicroOp.TheVariants.{ChangeFileSize}
use Rattle.cs_micro.proofs.Divisions.{next_start, some_bytes, starts_after, starts_by}

-- some are legal, and they leave this
pub record Leaves (version : Version) (m : Made) (ops : List MicroOp) (after : Made) : Type 0 where
  pub legal : AreLegal version m ops
  pub made : fold made_after m ops ≡ after

-- those and then others
pub both_legal : (version : Version) (m : Made) (xs ys : List MicroOp) → AreLegal version m xs
    → AreLegal version (fold made_after m xs) ys → AreLegal version m (xs ++ ys)
both_legal version m [] ys before after = after
both_legal version m (x ∷ xs) ys before after = (before.0, both_legal version (made_after m x) xs ys before.1 after)

both_leave : (version : Version) (m : Made) (xs ys : List MicroOp) (after last : Made) → Leaves version m xs after
    → Leaves version after ys last
    → Leaves version m (xs ++ ys) last
both_leave version m xs ys after last one two = record {
  legal = both_legal version m xs ys one.legal (subst (λ x. AreLegal version x ys) (sym one.made) two.legal);
  made = fold-append made_after m xs ys ∙ ap (λ x. fold made_after x ys) one.made ∙ two.made;
}

pub nothing_leaves : (version : Version) (m : Made) → Leaves version m [] m
nothing_leaves version m = record { legal = tt; made = refl }

-- one that is legal and leaves all as it was
pub record IsQuiet (version : Version) (m : Made) (o : MicroOp) : Type 0 where
  pub legal : IsLegal version m o
  pub made : made_after m o ≡ m

quiet_leaves : (version : Version) (m : Made) (f : ℕ → MicroOp) (a n : ℕ) → ((k : ℕ) → a ≤ k → k < a + n → IsQuiet version m (f k))
    → Leaves version m (map f (range_with_len a n)) m
quiet_leaves version m f a zero quiet = nothing_leaves version m
quiet_leaves version m f a (suc n) quiet =
    let one = quiet a (omega arith) (omega arith) in
    let rest = quiet_leaves version m f (a + 1) n (λ k low high. quiet k (omega (arith, low)) (omega (arith, high))) in
    let ops = map f (range_with_len (a + 1) n) in
    record {
      legal = (one.legal, subst (λ x. AreLegal version x ops) (sym one.made) rest.legal);
      made = ap (λ x. fold made_after x ops) one.made ∙ rest.made;
    }

quiet_one : (version : Version) (m : Made) (o : MicroOp) → IsQuiet version m o → Leaves version m (o ∷ []) m
quiet_one version m o quiet = record { legal = (quiet.legal, tt); made = quiet.made }

pub quiet_unless : (version : Version) (m : Made) (o : MicroOp) (b : Bool) → IsQuiet version m o → Leaves version m (cond b [] (o ∷ [])) m
quiet_unless version m o true quiet = nothing_leaves version m
quiet_unless version m o false quiet = quiet_one version m o quiet

-- ---- files

module _ (version : Version) (m : Made) (file : ℕ) (stands : Stands (held_in m.entries) Regular file) (known : file < m.files) where
  abbrev b : BlockSize
  b = block_size_of version

  size_quiet : (to : ℕ) → to ≤ most_bytes version → IsQuiet version m (ChangeFileSize file to)
  size_quiet to limit = record {
    legal = record { named = tt; entry = tt; fitting = (known, limit, stands) };
    made = refl;
  }

  -- how many of the bytes lie between two places of the file
  length_between : (offset : ℕ) (bytes : List ℕ) (begin end : ℕ) → offset ≤ begin → begin ≤ end → end ≤ offset + length bytes
      → length (slice_range bytes (begin - offset) (end - offset)) ≡ end - begin
  length_between offset bytes begin end low le high =
      let from = begin - offset in
      let dropped = length-drop from bytes in
      let taken = length-take (end - offset - from) (drop from bytes) in
      omega (arith, dropped, taken, low, le, high)

  block_quiet : (offset : ℕ) (bytes : List ℕ) (block : ℕ) → 0 < length bytes → offset + length bytes ≤ most_bytes version
      → start_of (block_bytes b) block < offset + length bytes → offset < start_of (block_bytes b) (block + 1)
      → IsQuiet version m (block_write (block_bytes b) file offset bytes block)
  block_quiet offset bytes block some limit begins ends =
      let next = next_start b block in
      let positive = some_bytes b in
      let begin = max offset (start_of (block_bytes b) block) in
      let end = min (offset + length bytes) (start_of (block_bytes b) (block + 1)) in
      let long = length_between offset bytes begin end (omega arith) (omega (arith, some, begins, ends, next)) (omega arith) in
      record {
        legal = record {
          named = tt;
          entry = tt;
          fitting = (
            known,
            omega (arith, some, long, begins, ends, next, positive),
            omega (arith, long, begins, ends, next),
            refl,
            omega (arith, long, begins, ends, next, limit),
            stands,
          );
        };
        made = refl;
      }

  blocks_leave : (offset : ℕ) (bytes : List ℕ) → 0 < length bytes → offset + length bytes ≤ most_bytes version
      → Leaves version m (block_writes (block_of_version version) file offset bytes) m
  unfolding block_writes
  blocks_leave offset bytes some limit =
      quiet_leaves version m (block_write (block_bytes b) file offset bytes) (block_of (block_bytes b) offset) _
      (λ block low high.
      let begins = starts_by b block (offset + length bytes - 1) (omega (arith, low, high)) in
      let ends = starts_after b (block + 1) offset (omega (arith, low)) in
      block_quiet offset bytes block some limit (omega (arith, some, begins)) ends)

  bytes_leave : (offset : ℕ) (bytes : List ℕ) → (0 < length bytes → offset + length bytes ≤ most_bytes version)
      → Leaves version m (bytes_micros version file offset bytes) m
  bytes_leave offset bytes limit = by (length bytes == 0) refl
    where
      by : (empty : Bool) → (length bytes == 0) ≡ empty
          → Leaves version m (cond empty [] (block_writes (block_of_version version) file offset bytes)) m
      by true e = nothing_leaves version m
      by false e =
          let filled : length bytes ≢ 0 = λ none. false≢true (sym e ∙ eq-eqb (length bytes) 0 none) in
          let some : 0 < length bytes = omega (arith, filled) in
          blocks_leave offset bytes some (limit some)

  grown_on_way : (size end : ℕ) (past : Bool) → grows_past_page size end ≡ past → end ≤ most_bytes version
      → Leaves version m (map (ChangeFileSize file) (cond past (page_end size ∷ end ∷ []) (end ∷ []))) m
  grown_on_way size end true is limit =
      let parts = and_parts (nat_lt size (page_end size)) (nat_lt (page_end size) end) is in
      let below : page_end size < end = ltb-true (page_end size) end parts.1 in
      both_leave version m (ChangeFileSize file (page_end size) ∷ []) (ChangeFileSize file end ∷ []) m m
      (quiet_one version m _ (size_quiet (page_end size) (omega (arith, below, limit)))) (quiet_one version m _ (size_quiet end limit))
  grown_on_way size end false is limit = quiet_one version m _ (size_quiet end limit)

  growth_leaves : (size end : ℕ) → end ≤ most_bytes version → Leaves version m (growth_micros version file size end) m
  growth_leaves size end limit = by (nat_lt size end) (is_fourth version)
    where
      by : (grows fourth : Bool)
          → Leaves version m (map (ChangeFileSize file) (cond grows (cond fourth (sizes_on_way size end) (end ∷ [])) [])) m
      by false fourth = nothing_leaves version m
      by true false = quiet_one version m _ (size_quiet end limit)
      by true true = grown_on_way size end (grows_past_page size end) refl limit

  pub written_leaves : (size offset : ℕ) (bytes : List ℕ) → (0 < length bytes → offset + length bytes ≤ most_bytes version)
      → Leaves version m (write_micros version file size offset bytes) m
  written_leaves size offset bytes limit = by (length bytes == 0) refl
    where
      by : (empty : Bool) → (length bytes == 0) ≡ empty
          → Leaves version m (cond empty [] (growth_micros version file size (offset + length bytes)
          ++ block_writes (block_of_version version) file offset bytes)) m
      by true e = nothing_leaves version m
      by false e =
          let filled : length bytes ≢ 0 = λ none. false≢true (sym e ∙ eq-eqb (length bytes) 0 none) in
          let some : 0 < length bytes = omega (arith, filled) in
          both_leave version m (growth_micros version file size (offset + length bytes))
          (block_writes (block_of_version version) file offset bytes) m m
          (growth_leaves size (offset + length bytes) (limit some)) (blocks_leave offset bytes some (limit some))

  -- zeros end at the page's end or the file's, whichever is first
  zeros_leave : (size to : ℕ) → size ≤ most_bytes version → Leaves version m (zero_micros version file size to) m
  zeros_leave size to limit = by (is_fourth version)
    where
      by : (fourth : Bool) → Leaves version m (cond fourth (bytes_micros version file to (zeros_behind size to)) []) m
      by false = nothing_leaves version m
      by true =
          bytes_leave to (zeros_behind size to)
          (λ some. (let long = length-replicate {A = ℕ} (min (page_end to) size - to) 0 in omega (arith, long, some, limit)))

  pub truncated_leaves : (size to : ℕ) → size ≤ most_bytes version → to ≤ most_bytes version
      → Leaves version m (truncate_micros version file size to) m
  truncated_leaves size to before limit = by (size == to)
    where
      by : (same : Bool) → Leaves version m (cond same [] (zero_micros version file size to ++ ChangeFileSize file to ∷ [])) m
      by true = nothing_leaves version m
      by false =
          both_leave version m (zero_micros version file size to) (ChangeFileSize file to ∷ []) m m (zeros_leave size to before)
          (quiet_one version m _ (size_quiet to limit))
