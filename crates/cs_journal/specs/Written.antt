-- The bytes that calls write, in blocks: each call's in one piece.
use Rattle.std.specs.Prelude.{◌≡◌, ℕ, ◌+◌, ◌<◌, ◌≤◌, List, [], drop, length, map, slice_index_or}
use Rattle.std.specs.Prelude.{take, Vec}
use Rattle.std.specs.declared.alloc.Global.{Global}
use Rattle.cs_journal.specs.declared.written.Piece.{Piece}

-- the bytes of each block
abbrev pub bytes_in : List (Vec ℕ Global) → List (List ℕ)
bytes_in blocks = map (λ b. b.items) blocks

-- the bytes of a piece
abbrev pub bytes_at : List (List ℕ) → Piece → List ℕ
bytes_at blocks p = take p.len (drop p.start (slice_index_or blocks p.block_index []))

-- a piece is within its block
pub record IsWithin (blocks : List (List ℕ)) (p : Piece) : Type 0 where
  pub block : p.block_index < length blocks
  pub bytes : p.start + p.len ≤ length (slice_index_or blocks p.block_index [])

-- each piece that was in the old blocks is in the new ones, with the same bytes
pub record Keeps (old new : List (List ℕ)) : Type 0 where
  pub within : (p : Piece) → IsWithin old p → IsWithin new p
  pub same : (p : Piece) → IsWithin old p → bytes_at new p ≡ bytes_at old p
