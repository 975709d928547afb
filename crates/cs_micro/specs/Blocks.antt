-- The blocks of a file that bytes fall into, for a block size in bytes.
use Rattle.std.specs.Prelude.{ℕ, ◌+◌, ◌-◌, ◌*◌, ◌/◌, min, max, List, length, map, slice_range}
use Rattle.std.specs.List.{range_with_len}
use Rattle.cs_micro.specs.declared.micro_op.MicroOp.{MicroOp}
use Rattle.cs_micro.specs.declared.micro_op.MicroOp.TheVariants.{WriteBlock}

-- the block that has the byte at this place of a file
abbrev pub block_of : ℕ → ℕ → ℕ
block_of size place = place / size

-- the offset of a block in the file
abbrev pub start_of : ℕ → ℕ → ℕ
start_of size block = size * block

-- the numbers from one to another, including both
abbrev pub from_to : ℕ → ℕ → List ℕ
from_to first last = range_with_len first (last + 1 - first)

-- the blocks that bytes from an offset on fall into, of which there is at least one: from the block
-- of the first to the block of the last
abbrev pub touched_blocks : ℕ → ℕ → List ℕ → List ℕ
touched_blocks size offset bytes =
    from_to (block_of size offset) (block_of size (offset + length bytes - 1))

-- the offsets in the file at which the bytes that fall into a block begin and end
abbrev pub begin_in : ℕ → ℕ → ℕ → ℕ
begin_in size block offset = max offset (start_of size block)

abbrev pub end_in : ℕ → ℕ → ℕ → List ℕ → ℕ
end_in size block offset bytes = min (offset + length bytes) (start_of size (block + 1))

-- the bytes that fall into a block
abbrev pub bytes_in : ℕ → ℕ → ℕ → List ℕ → List ℕ
bytes_in size block offset bytes =
    slice_range bytes (begin_in size block offset - offset)
    (end_in size block offset bytes - offset)

-- a write's part in one block: where the block begins in the file, where in the block its bytes
-- there begin, and those bytes
abbrev pub block_write : ℕ → ℕ → ℕ → List ℕ → ℕ → MicroOp
block_write size file offset bytes block =
    WriteBlock file block (start_of size block) (begin_in size block offset - start_of size block)
    (bytes_in size block offset bytes)

-- a write's parts in all blocks that it touches
unfoldable pub block_writes : ℕ → ℕ → ℕ → List ℕ → List MicroOp
block_writes size file offset bytes =
    map (block_write size file offset bytes) (touched_blocks size offset bytes)
