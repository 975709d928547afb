-- The modes of opens, and the permissions that a client may give (open(5), stat(5)).
use Rattle.std.specs.Prelude.{ℕ, ◌+◌, ◌%◌, ◌==◌, ◌&&◌, ◌||◌, Bool, not, bit_and}
use Rattle.cs_tree_model.specs.declared.mode.TheConstants.{DMAPPEND, DMDIR, DMEXCL, DMTMP}
use Rattle.cs_tree_model.specs.Mode.{is_directory_mode}
use Rattle.cs_users.specs.Rights.{has_bit}
use Rattle.cs_permit.specs.declared.mode.TheConstants.{OPEN_BITS, ORCLOSE, OTRUNC}

-- the number has a bit that is none of these
abbrev pub has_bit_outside : ℕ → ℕ → Bool
has_bit_outside bits n = not (bit_and n bits == n)

-- the low two bits of an open's mode: 0 to read, 1 to write, 2 for both, 3 to execute
abbrev pub access : ℕ → ℕ
access mode = mode % 4

-- mode 0 or 2
abbrev pub asks_read : ℕ → Bool
asks_read mode = access mode == 0 || access mode == 2

-- 0x10
abbrev pub truncates : ℕ → Bool
truncates mode = has_bit mode OTRUNC

-- mode 1 or 2, or 0x10
abbrev pub asks_write : ℕ → Bool
asks_write mode = access mode == 1 || access mode == 2 || truncates mode

-- mode 3
abbrev pub asks_execute : ℕ → Bool
asks_execute mode = access mode == 3

-- 0x40
abbrev pub removes_on_close : ℕ → Bool
removes_on_close mode = has_bit mode ORCLOSE

-- modes 0, 2 and 3 cover a read
abbrev pub covers_read : ℕ → Bool
covers_read mode = access mode == 0 || access mode == 2 || access mode == 3

-- modes 1 and 2 cover a write
abbrev pub covers_write : ℕ → Bool
covers_write mode = access mode == 1 || access mode == 2

-- an open's mode with a bit outside 0x53
abbrev pub is_bad_open_mode : ℕ → Bool
is_bad_open_mode mode = has_bit_outside OPEN_BITS mode

-- DMDIR, DMAPPEND, DMEXCL, DMTMP and 0777
abbrev pub given_bits : ℕ
given_bits = DMDIR + DMAPPEND + DMEXCL + DMTMP + 0o777

-- DMAPPEND or DMEXCL
abbrev pub is_append_or_exclusive : ℕ → Bool
is_append_or_exclusive mode = has_bit mode DMAPPEND || has_bit mode DMEXCL

-- a bit outside those, or a directory with DMAPPEND, DMEXCL or an open's mode that isn't wholly 0
abbrev pub are_bad_permissions : ℕ → ℕ → Bool
are_bad_permissions perm mode =
    has_bit_outside given_bits perm
    || is_directory_mode perm && is_append_or_exclusive perm
    || is_directory_mode perm && not (mode == 0)
