-- How many micro-operations there are.
use Rattle.std.proofs.Common.{◌≡◌, ℕ, ◌+◌, ◌-◌, ◌<◌, ◌≤◌, ◌==◌, nat_lt, Bool, true, false, List, [], ◌∷◌, ◌++◌, length, take, get_or, cond, map}
use Rattle.std.proofs.Common.{refl, sym, ap, ◌∙◌, subst, arith, length-append}
use Rattle.std.proofs.lemmas.Bool.{lt-ltb, le-ltb, ne_eqb}
use Rattle.std.proofs.lemmas.List.{take_more, flat_map_more, take_all, length-map}
use Rattle.std.proofs.lemmas.List.Folds.{length-flat_map-take}
use Rattle.std.proofs.lemmas.List.FromFn.{length-map-range_with_len}
use Rattle.std.specs.List.{flat_map}
use Rattle.cs_trace.specs.declared.operation.Operation.{Operation}
use Rattle.cs_trace_lines.specs.Versions.{block_bytes, block_size_of, is_fourth}
use Rattle.cs_trace_lines.specs.declared.version.BlockSize.{BlockSize}
use Rattle.cs_trace_lines.specs.declared.version.Version.{Version}
use Rattle.cs_micro.specs.Blocks.{block_of, block_write, block_writes}
use Rattle.cs_micro.specs.MicroOperations.{block_of_version, growth_micros, growth_sizes, micro_operations_of, micros_of, write_micros}
use Rattle.cs_micro.specs.Pages.{grows_past_page, page_end, sizes_on_way}
use Rattle.cs_micro.specs.declared.micro_op.MicroOp.{MicroOp}
use Rattle.cs_micro.specs.declared.micro_op.MicroOp.TheVariants.{ChangeFileSize}
use Rattle.cs_micro.proofs.Divisions.{blocks_ascend}

-- ---- blocks

-- as many as there are from the first to the last
pub count_blocks : (block file offset count : ℕ) (bytes : List ℕ) → length bytes ≡ count
    → length (block_writes block file offset bytes) ≡ block_of block (offset + count - 1) + 1 - block_of block offset
unfolding block_writes
count_blocks block file offset count bytes is =
    length-map-range_with_len (block_write block file offset bytes) (block_of block offset) _
    ∙ ap (λ n. block_of block (offset + n - 1) + 1 - block_of block offset) is

-- some byte is in some block
pub some_blocks : (size : BlockSize) (file offset : ℕ) (bytes : List ℕ) → (length bytes ≡ 0 → ⊥)
    → 0 < length (block_writes (block_bytes size) file offset bytes)
some_blocks size file offset bytes some =
    let count = count_blocks (block_bytes size) file offset (length bytes) bytes refl in
    let ascend = blocks_ascend size offset (offset + length bytes - 1) (omega (arith, some)) in
    omega (arith, count, ascend)

-- ---- writes

pub count_written : (version : Version) (file size offset : ℕ) (bytes : List ℕ) → (length bytes ≡ 0 → ⊥)
    → length (write_micros version file size offset bytes)
    ≡ length (growth_micros version file size (offset + length bytes)) + length (block_writes (block_of_version version) file offset bytes)
count_written version file size offset bytes some =
    let grown = growth_micros version file size (offset + length bytes) in
    let blocks = block_writes (block_of_version version) file offset bytes in
    let e : (length bytes == 0) ≡ false = ne_eqb (length bytes) 0 some in
    ap (λ b. length (cond b [] (grown ++ blocks))) e ∙ length-append grown blocks

-- a write of some byte is at least one
pub written_some : (version : Version) (file size offset : ℕ) (bytes : List ℕ) → (length bytes ≡ 0 → ⊥)
    → 0 < length (write_micros version file size offset bytes)
written_some version file size offset bytes some =
    let count = count_written version file size offset bytes some in
    let blocks = some_blocks (block_size_of version) file offset bytes some in
    omega (arith, count, blocks)

-- ---- changes of size

pub grown_none : (version : Version) (file size end : ℕ) → end ≤ size → growth_micros version file size end ≡ []
grown_none version file size end le =
    ap (λ b. map (ChangeFileSize file) (cond b (cond (is_fourth version) (sizes_on_way size end) (end ∷ [])) [])) (le-ltb size end le)

pub grown_by : (version : Version) (file size end : ℕ) (fourth : Bool) → size < end → is_fourth version ≡ fourth
    → growth_micros version file size end ≡ map (ChangeFileSize file) (cond fourth (sizes_on_way size end) (end ∷ []))
grown_by version file size end fourth less is =
    ap (λ b. map (ChangeFileSize file) (cond b (cond (is_fourth version) (sizes_on_way size end) (end ∷ [])) [])) (lt-ltb size end less)
    ∙ ap (λ b. map (ChangeFileSize file) (cond b (sizes_on_way size end) (end ∷ []))) is

-- once, before the fourth version
pub grown_plain : (version : Version) (file size end : ℕ) → size < end → is_fourth version ≡ false
    → growth_micros version file size end ≡ ChangeFileSize file end ∷ []
grown_plain version file size end less is = grown_by version file size end false less is

-- once, within a page
pub grown_once : (version : Version) (file size end : ℕ) → size < end → is_fourth version ≡ true → grows_past_page size end ≡ false
    → growth_micros version file size end ≡ ChangeFileSize file end ∷ []
grown_once version file size end less is page =
    grown_by version file size end true less is
    ∙ ap (λ b. map (ChangeFileSize file) (cond b (page_end size ∷ end ∷ []) (end ∷ []))) page

-- twice, past the end of the page
pub grown_twice : (version : Version) (file size end : ℕ) → size < end → is_fourth version ≡ true → grows_past_page size end ≡ true
    → growth_micros version file size end ≡ ChangeFileSize file (page_end size) ∷ ChangeFileSize file end ∷ []
grown_twice version file size end less is page =
    grown_by version file size end true less is
    ∙ ap (λ b. map (ChangeFileSize file) (cond b (page_end size ∷ end ∷ []) (end ∷ []))) page

-- ---- operations

pub micros_none : (version : Version) → micro_operations_of version [] ≡ []
unfolding micro_operations_of
micros_none version = refl

-- those of one operation more
pub micros_more : (version : Version) (ops : List Operation) (i : ℕ) (x : Operation) → i < length ops → x ≡ get_or ops i x
    → micro_operations_of version (take (i + 1) ops) ≡ micro_operations_of version (take i ops) ++ micros_of version x
unfolding micro_operations_of
micros_more version ops i x low is =
    ap (flat_map (micros_of version)) (take_more ops i x low)
    ∙ sym (flat_map_more (micros_of version) [] (take i ops) (get_or ops i x))
    ∙ ap (λ o. flat_map (micros_of version) (take i ops) ++ micros_of version o) (sym is)

-- one operation's are among all
pub micros_within : (version : Version) (ops : List Operation) (i : ℕ) (x : Operation) → i < length ops → x ≡ get_or ops i x
    → length (micro_operations_of version (take i ops)) + length (micros_of version x) ≤ length (micro_operations_of version ops)
unfolding micro_operations_of
micros_within version ops i x low is =
    subst
    (λ o. length (flat_map (micros_of version) (take i ops)) + length (micros_of version o) ≤ length (flat_map (micros_of version) ops))
    (sym is) (length-flat_map-take (micros_of version) ops i x low)

pub micros_all : (version : Version) (ops : List Operation) (i : ℕ) → length ops ≤ i
    → micro_operations_of version (take i ops) ≡ micro_operations_of version ops
micros_all version ops i high = ap (micro_operations_of version) (take_all i ops high)
