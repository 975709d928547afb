-- The versions of a trace, as data.
use Rattle.std.specs.Prelude.{ℕ, ◌==◌, Bool, false, true, Option, None, Some, if◌then◌else◌}
use Rattle.cs_trace_lines.specs.declared.profile.Profile.{Profile}
use Rattle.cs_trace_lines.specs.declared.profile.Profile.TheVariants.{Blocks}
use Rattle.cs_trace_lines.specs.declared.version.BlockSize.{BlockSize}
use Rattle.cs_trace_lines.specs.declared.version.BlockSize.TheVariants.{Bytes512, Bytes1024}
use Rattle.cs_trace_lines.specs.declared.version.BlockSize.TheVariants.{Bytes2048, Bytes4096}
use Rattle.cs_trace_lines.specs.declared.version.Version.{Version}
use Rattle.cs_trace_lines.specs.declared.version.Version.TheVariants.{First, Second, Third, Fourth}

abbrev pub block_bytes : BlockSize → ℕ
block_bytes Bytes512 = 512
block_bytes Bytes1024 = 1024
block_bytes Bytes2048 = 2048
block_bytes Bytes4096 = 4096

-- the block size of so many bytes
abbrev pub block_size_of_bytes : ℕ → Option BlockSize
block_size_of_bytes bytes =
    if bytes == 512 then Some Bytes512
    else (if bytes == 1024 then Some Bytes1024
    else (if bytes == 2048 then Some Bytes2048
    else (if bytes == 4096 then Some Bytes4096
    else None)))

-- the first version has the profile of blocks
abbrev pub profile_of : Version → Profile
profile_of First = Blocks
profile_of (Second profile) = profile
profile_of (Third profile block) = profile
profile_of (Fourth profile block) = profile

-- before the third version a block has 4,096 bytes
abbrev pub block_size_of : Version → BlockSize
block_size_of First = Bytes4096
block_size_of (Second profile) = Bytes4096
block_size_of (Third profile block) = block
block_size_of (Fourth profile block) = block

-- what was acknowledged comes before all that follows it
abbrev pub says_first : Version → Bool
says_first First = false
says_first (Second profile) = false
says_first (Third profile block) = true
says_first (Fourth profile block) = true

-- there may be links, notes, and texts in place of digits
abbrev pub is_third_or_later : Version → Bool
is_third_or_later First = false
is_third_or_later (Second profile) = false
is_third_or_later (Third profile block) = true
is_third_or_later (Fourth profile block) = true

-- directories may be moved, and each has a number of its own; there may be symbolic links and files
-- in parts; and writes, truncates and renames reach the disk in the steps that file systems show
abbrev pub is_fourth : Version → Bool
is_fourth First = false
is_fourth (Second profile) = false
is_fourth (Third profile block) = false
is_fourth (Fourth profile block) = true

-- the same version with another profile; the first version has none
abbrev pub with_profile : Profile → Version → Version
with_profile profile First = First
with_profile profile (Second other) = Second profile
with_profile profile (Third other block) = Third profile block
with_profile profile (Fourth other block) = Fourth profile block
