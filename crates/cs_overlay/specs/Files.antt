-- A file over a lower one, by what the program keeps of it.
use Rattle.std.specs.Prelude.{ℕ, List}
use Rattle.std.specs.BTreeMap.{get}
use Rattle.std.specs.Ordering.{nat_cmp}
use Rattle.cs_overlay.specs.declared.patched.Patched.{Patched}
use Rattle.cs_overlay.specs.Patch.{byte_at, bytes_of, HidesNothing}

-- the byte at i, whatever the file's size
abbrev pub file_byte : List ℕ → Patched → ℕ → ℕ
file_byte lower patched = byte_at lower patched.kept (get nat_cmp patched.blocks)

abbrev pub file_bytes : List ℕ → Patched → List ℕ
file_bytes lower patched = bytes_of lower patched.kept (get nat_cmp patched.blocks) patched.size

-- past the file's end there is nothing that would show if it grew
abbrev pub NothingHidden : List ℕ → Patched → Type 0
NothingHidden lower patched =
    HidesNothing lower patched.kept (get nat_cmp patched.blocks) patched.size
