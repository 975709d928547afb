-- The bytes of a file over a lower one: blocks of its own, and how much of the lower file still
-- shows.
use Rattle.std.specs.Prelude.{◌≡◌, ◌+◌, ◌*◌, ◌++◌, ◌<◌, ◌≤◌, ◌-◌, ◌/◌, ◌%◌, ℕ, List, [], Option}
use Rattle.std.specs.Prelude.{None, Some, nat_lt, cond, slice_index, take, drop, map, length, min}
use Rattle.std.specs.Prelude.{replicate, unwrap_or}
use Rattle.std.specs.Option.{option_map_or, option_map}
use Rattle.std.specs.List.{range_with_len}
use Rattle.cs_tree_model.specs.Tree.{Tree, content_numbered}

-- the byte of the file at i, whatever its size: of a block of its own, of the part of the lower
-- file that still shows, or 0
abbrev pub byte_at : List ℕ → ℕ → (ℕ → Option (List ℕ)) → ℕ → ℕ
byte_at lower kept blocks i =
    option_map_or (λ b. slice_index b (i % 4096)) (blocks (i / 4096))
    (cond (nat_lt i kept) (slice_index lower i) 0)

-- the file's bytes
abbrev pub bytes_of : List ℕ → ℕ → (ℕ → Option (List ℕ)) → ℕ → List ℕ
bytes_of lower kept blocks size = map (byte_at lower kept blocks) (range_with_len 0 size)

-- nothing shows past the size
abbrev pub HidesNothing : List ℕ → ℕ → (ℕ → Option (List ℕ)) → ℕ → Type 0
HidesNothing lower kept blocks size = (i : ℕ) → size ≤ i → byte_at lower kept blocks i ≡ 0

-- the bytes of the file of the lower tree
abbrev pub lower_bytes : Tree → ℕ → List ℕ
lower_bytes tree number = unwrap_or (content_numbered tree number) []

-- the blocks cut to so many bytes
abbrev pub cut_blocks : ℕ → (ℕ → Option (List ℕ)) → ℕ → Option (List ℕ)
cut_blocks number blocks k =
    cond (nat_lt k (number / 4096)) (blocks k)
    (cond (nat_lt (number / 4096) k) None (option_map (take (number % 4096)) (blocks k)))

-- ---- a read

-- the byte at i of a piece that lies in one block: of the block, or else of what shows of the lower
-- file from the offset on
abbrev pub piece_byte : Option (List ℕ) → List ℕ → ℕ → ℕ → ℕ
piece_byte block shown offset i =
    option_map_or (λ b. slice_index b (i % 4096)) block (slice_index shown (i - offset))

-- what was read of the lower file from the offset on, as far as it shows among so many bytes
abbrev pub IsShown : List ℕ → ℕ → ℕ → ℕ → List ℕ → Type 0
IsShown lower kept offset count shown =
    (i : ℕ) → offset ≤ i → i < offset + count
    → slice_index shown (i - offset) ≡ cond (nat_lt i kept) (slice_index lower i) 0

-- the byte at i, by what shows of the lower file from the offset on
abbrev pub shown_byte : List ℕ → ℕ → (ℕ → Option (List ℕ)) → ℕ → ℕ
shown_byte shown offset blocks i = piece_byte (blocks (i / 4096)) shown offset i

-- ---- a write

-- w over a part of s
abbrev pub put_in : ℕ → List ℕ → List ℕ → List ℕ
put_in k w s = take k s ++ w ++ drop (k + length w) s

-- each place from a to b is in a block that reaches it
abbrev pub Reaches : (ℕ → Option (List ℕ)) → ℕ → ℕ → Type 0
Reaches blocks a b =
    (i : ℕ) → a ≤ i → i < b → (s : List ℕ) × (blocks (i / 4096) ≡ Some s) × (i % 4096 < length s)

-- the byte at i, after w was put over the bytes f at an offset
abbrev pub written_byte : ℕ → List ℕ → (ℕ → ℕ) → ℕ → ℕ
written_byte offset w f i =
    cond (nat_lt i offset) (f i)
    (cond (nat_lt i (offset + length w)) (slice_index w (i - offset)) (f i))

-- the same blocks, some of them with zeros at the end
abbrev pub AreLonger : (ℕ → Option (List ℕ)) → (ℕ → Option (List ℕ)) → Type 0
AreLonger blocks new = (q : ℕ) → (z : ℕ) × (new q ≡ option_map (λ s. s ++ replicate z 0) (blocks q))

-- what was read of the lower file for the block k
abbrev pub block_of : List ℕ → ℕ → ℕ → List ℕ
block_of lower kept k = take (min 4096 (kept - k * 4096)) (drop (k * 4096) lower)
