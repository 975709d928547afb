-- The versions of traces before version 4.
use Rattle.std.specs.Prelude.{Bool, true, false}
use Rattle.cs_trace_lines.specs.declared.profile.Profile.{Profile}
use Rattle.cs_trace_lines.specs.declared.version.BlockSize.{BlockSize}
use Rattle.cs_trace_lines.specs.declared.version.BlockSize.TheVariants.{Bytes4096}
use Rattle.cs_trace_lines.specs.declared.profile.Profile.TheVariants.{Blocks}

pub data Version : Type 0 where
  First : Version
  Second : Profile → Version
  Third : Profile → BlockSize → Version

abbrev pub profile_of : Version → Profile
profile_of First = Blocks
profile_of (Second profile) = profile
profile_of (Third profile block) = profile

abbrev pub block_size_of : Version → BlockSize
block_size_of First = Bytes4096
block_size_of (Second profile) = Bytes4096
block_size_of (Third profile block) = block

abbrev pub says_first : Version → Bool
says_first First = false
says_first (Second profile) = false
says_first (Third profile block) = true

abbrev pub is_third : Version → Bool
is_third First = false
is_third (Second profile) = false
is_third (Third profile block) = true
