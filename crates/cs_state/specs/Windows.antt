-- A part of a file, and what a micro-operation does to it.
use Rattle.std.specs.Prelude.{◌≡◌, ◌+◌, ◌<◌, ◌==◌, ℕ, if◌then◌else◌, List, length, slice_index_or}
use Rattle.cs_micro.specs.declared.micro_op.MicroOp.{MicroOp}
use Rattle.cs_micro.specs.declared.micro_op.MicroOp.TheVariants.{ChangeFileSize}
use Rattle.cs_apm.specs.States.{Content}

-- a file with these bytes, none of them hidden
abbrev pub whole_content : List ℕ → Content
whole_content bytes = record { size = length bytes; bytes = bytes }

-- a byte of the file; those that nothing wrote are zero
abbrev pub byte_of : Content → ℕ → ℕ
byte_of f i = slice_index_or f.bytes i 0

-- the bytes are those of the file from the offset on
abbrev pub IsPart : ℕ → Content → List ℕ → Type 0
IsPart offset f part = (k : ℕ) → k < length part → slice_index_or part k 0 ≡ byte_of f (offset + k)

-- the file's size after a micro-operation
abbrev pub size_after : ℕ → ℕ → MicroOp → ℕ
size_after n size (ChangeFileSize file to) = if file == n then to else size
size_after n size _ = size
