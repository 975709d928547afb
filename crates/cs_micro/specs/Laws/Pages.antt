-- The bytes of a legal write lie in one page of 4,096 bytes, since each size of a block divides it.
use Rattle.std.proofs.Common.{◌≡◌, ◌<◌, ◌≤◌, ℕ, ◌+◌, ◌%◌, List, [], ◌∷◌, length, arith}
use Rattle.std.proofs.lemmas.List.Elements.{All-cons, All-nil}
use Rattle.std.specs.List.{All}
use Rattle.cs_trace_lines.specs.Versions.{block_bytes, block_size_of}
use Rattle.cs_trace_lines.specs.declared.version.BlockSize.{BlockSize}
use Rattle.cs_trace_lines.specs.declared.version.BlockSize.TheVariants.{Bytes512, Bytes1024}
use Rattle.cs_trace_lines.specs.declared.version.BlockSize.TheVariants.{Bytes2048, Bytes4096}
use Rattle.cs_trace_lines.specs.declared.version.Version.{Version}
use Rattle.cs_micro.specs.Blocks.{start_of}
use Rattle.cs_micro.specs.Legal.{AreLegal, IsLegal, Made, made_after}
use Rattle.cs_micro.specs.declared.micro_op.MicroOp.{MicroOp}
use Rattle.cs_micro.specs.declared.micro_op.MicroOp.TheVariants.{CreateDirEntry, DeleteDirEntry}
use Rattle.cs_micro.specs.declared.micro_op.MicroOp.TheVariants.{MoveDirEntry, LinkDirEntry}
use Rattle.cs_micro.specs.declared.micro_op.MicroOp.TheVariants.{ChangeFileSize, WriteBlock}
use Rattle.cs_micro.specs.declared.micro_op.MicroOp.TheVariants.{SetAttr, Say}

pub in_one_page : (size : BlockSize) (block start at count : ℕ) → 0 < count
    → at + count ≤ block_bytes size → start ≡ start_of (block_bytes size) block
    → (start + at) % 4096 + count ≤ 4096
in_one_page Bytes512 block start at count some within begins =
    omega (arith, some, within, begins)
in_one_page Bytes1024 block start at count some within begins =
    omega (arith, some, within, begins)
in_one_page Bytes2048 block start at count some within begins =
    omega (arith, some, within, begins)
in_one_page Bytes4096 block start at count some within begins =
    omega (arith, some, within, begins)

-- the bytes that a micro-operation writes lie in one page
abbrev pub LiesInOnePage : MicroOp → Type 0
LiesInOnePage (WriteBlock file block start at bytes) = (start + at) % 4096 + length bytes ≤ 4096
LiesInOnePage _ = Unit {0}

pub one_in_one_page : (version : Version) (m : Made) (o : MicroOp) → IsLegal version m o
    → LiesInOnePage o
one_in_one_page version m (WriteBlock file block start at bytes) legal =
    in_one_page (block_size_of version) block start at (length bytes) legal.fitting.1
    legal.fitting.2 legal.fitting.3
one_in_one_page version m (CreateDirEntry e node rights bytes) legal = tt
one_in_one_page version m (DeleteDirEntry e node) legal = tt
one_in_one_page version m (MoveDirEntry a b node old) legal = tt
one_in_one_page version m (LinkDirEntry e kind file old half) legal = tt
one_in_one_page version m (ChangeFileSize file to) legal = tt
one_in_one_page version m (SetAttr target rights) legal = tt
one_in_one_page version m Say legal = tt

pub all_in_one_page : (version : Version) (m : Made) (ops : List MicroOp) → AreLegal version m ops
    → All LiesInOnePage ops
all_in_one_page version m [] legal = All-nil LiesInOnePage
all_in_one_page version m (o ∷ ops) legal =
    All-cons LiesInOnePage o ops (one_in_one_page version m o legal.0)
    (all_in_one_page version (made_after m o) ops legal.1)
