-- Blocks and where they begin, for each size of a block.
use Rattle.std.proofs.Common.{◌≡◌, ℕ, ◌+◌, ◌<◌, ◌≤◌, arith}
use Rattle.cs_trace_lines.specs.Versions.{block_bytes}
use Rattle.cs_trace_lines.specs.declared.version.BlockSize.{BlockSize}
use Rattle.cs_trace_lines.specs.declared.version.BlockSize.TheVariants.{Bytes512, Bytes1024, Bytes2048, Bytes4096}
use Rattle.cs_micro.specs.Blocks.{block_of, start_of}

-- a block has bytes
pub some_bytes : (size : BlockSize) → 0 < block_bytes size
some_bytes Bytes512 = omega arith
some_bytes Bytes1024 = omega arith
some_bytes Bytes2048 = omega arith
some_bytes Bytes4096 = omega arith

-- the next block begins where one ends
pub next_start : (size : BlockSize) (block : ℕ)
    → start_of (block_bytes size) (block + 1) ≡ start_of (block_bytes size) block + block_bytes size
next_start Bytes512 block = omega arith
next_start Bytes1024 block = omega arith
next_start Bytes2048 block = omega arith
next_start Bytes4096 block = omega arith

-- a block that is not after that of a place begins at it or before it
pub starts_by : (size : BlockSize) (block place : ℕ) → block ≤ block_of (block_bytes size) place → start_of (block_bytes size) block ≤ place
starts_by Bytes512 block place le = omega (arith, le)
starts_by Bytes1024 block place le = omega (arith, le)
starts_by Bytes2048 block place le = omega (arith, le)
starts_by Bytes4096 block place le = omega (arith, le)

-- a block that is after that of a place begins after it
pub starts_after : (size : BlockSize) (block place : ℕ) → block_of (block_bytes size) place < block
    → place < start_of (block_bytes size) block
starts_after Bytes512 block place lt = omega (arith, lt)
starts_after Bytes1024 block place lt = omega (arith, lt)
starts_after Bytes2048 block place lt = omega (arith, lt)
starts_after Bytes4096 block place lt = omega (arith, lt)

pub blocks_ascend : (size : BlockSize) (a b : ℕ) → a ≤ b → block_of (block_bytes size) a ≤ block_of (block_bytes size) b
blocks_ascend Bytes512 a b le = omega (arith, le)
blocks_ascend Bytes1024 a b le = omega (arith, le)
blocks_ascend Bytes2048 a b le = omega (arith, le)
blocks_ascend Bytes4096 a b le = omega (arith, le)

pub block_by : (size : BlockSize) (place : ℕ) → block_of (block_bytes size) place ≤ place
block_by Bytes512 place = omega arith
block_by Bytes1024 place = omega arith
block_by Bytes2048 place = omega arith
block_by Bytes4096 place = omega arith
