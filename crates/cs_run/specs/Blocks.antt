-- Opens kept in blocks, one after the other.
use Rattle.std.specs.Prelude.{ℕ, ◌≡◌, ◌≢◌, ◌<◌, ◌+◌, ◌-◌, Bool, false, List, length, nat_lt}
use Rattle.std.specs.Prelude.{slice_get, slice_index_or, take, Vec, vec_capacity, vec_len}
use Rattle.std.specs.List.{flat_map}
use Rattle.std.specs.Option.{option_map_or}
use Rattle.std.specs.declared.alloc.Global.{Global}
use Rattle.cs_permit.specs.declared.call.OpenFile.{OpenFile}
use Rattle.cs_run.specs.Opens.{IsAscending}

abbrev pub Block : Type 0
Block = Vec OpenFile Global

-- all opens, block after block
abbrev pub all_opens : List Block → List OpenFile
all_opens blocks = flat_map (λ b. b.items) blocks

-- how many opens are in the blocks before that one
abbrev pub count_before : List Block → ℕ → ℕ
count_before blocks place = length (all_opens (take place blocks))

-- for how many more opens the last block has room
abbrev pub last_room : List Block → ℕ
last_room blocks =
    option_map_or (λ b. vec_capacity b - vec_len b) (slice_get blocks (length blocks - 1)) 0

-- no block but the last is empty
abbrev pub AreFilled : List Block → Type 0
AreFilled blocks =
    (k : ℕ) (b : Block) → k + 1 < length blocks → 0 < length (slice_index_or blocks k b).items

-- no block but the last and that one is empty
abbrev pub FilledBut : ℕ → List Block → Type 0
FilledBut place blocks =
    (k : ℕ) (b : Block) → k + 1 < length blocks → k ≢ place
    → 0 < length (slice_index_or blocks k b).items

-- the last open of the block has a number below this one
abbrev pub ends_below : ℕ → Block → Bool
ends_below number block =
    option_map_or (λ o. nat_lt o.number number) (slice_get block.items (length block.items - 1))
    false

-- an open is at that place of that block
pub record HasOpen (blocks : List Block) (i at : ℕ) : Type 0 where
  pub block : i < length blocks
  pub inside : (b : Block) → at < length (slice_index_or blocks i b).items

-- opens in blocks, and how many they are
pub record InBlocks (blocks : List Block) (count : ℕ) : Type 0 where
  pub ascending : IsAscending (all_opens blocks)
  pub filled : AreFilled blocks
  pub counted : count ≡ length (all_opens blocks)
