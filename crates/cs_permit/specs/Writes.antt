-- The rules of a write.
use Rattle.std.specs.Prelude.{ℕ, ◌+◌, ◌==◌, not, ◌&&◌, Bool, List, [], ◌∷◌, length, nat_lt}
use Rattle.std.specs.Prelude.{if◌then◌else◌}
use Rattle.std.specs.Option.{option_map_or}
use Rattle.cs_names.specs.declared.limits.TheConstants.{FILE_BYTES}
use Rattle.cs_names.specs.declared.rule_id.RuleId.TheVariants.{E3, E4}
use Rattle.cs_tree_model.specs.Tree.{Tree}
use Rattle.cs_permit.specs.declared.call.WriteCall.{WriteCall}
use Rattle.cs_permit.specs.Refusals.{Check}
use Rattle.cs_permit.specs.Rules.{file_at, is_append_only, is_gone, on_file}
use Rattle.cs_permit.specs.Shown.{shown_length}

-- how many bytes the file of a number has, a directory 0
abbrev pub length_at : Tree → ℕ → ℕ
length_at t n = option_map_or (λ file. shown_length file.kind) (file_at t n) 0

-- the place at which a write begins: the end of an append-only file, else the offset
abbrev pub write_start : Tree → WriteCall → ℕ
write_start t c = if on_file t c.number is_append_only then length_at t c.number else c.offset

-- so many bytes from there on end above FILE_BYTES
abbrev pub ends_too_late : ℕ → ℕ → Bool
ends_too_late start count = nat_lt FILE_BYTES (start + count)

-- a write
abbrev pub write_rules : Tree → WriteCall → List Check
write_rules t c =
    -- file is gone
    (E3, is_gone t c.number)
    -- file too large: a write of at least one byte that ends above FILE_BYTES
    ∷ (E4, not (length c.bytes == 0) && ends_too_late (write_start t c) (length c.bytes))
    ∷ []
