-- The rules of a read.
use Rattle.std.specs.Prelude.{◌==◌, not, ◌&&◌, ◌||◌, Bool, false, List, [], ◌∷◌, length, nat_lt}
use Rattle.std.specs.Prelude.{Option, None, if◌then◌else◌}
use Rattle.std.specs.Option.{option_map_or}
use Rattle.cs_names.specs.declared.rule_id.RuleId.TheVariants.{G3, G4, G5}
use Rattle.cs_tree_model.specs.Nexts.{next_name}
use Rattle.cs_tree_model.specs.Tree.{NameBytes, Tree}
use Rattle.cs_permit.specs.declared.call.ReadCall.{ReadCall}
use Rattle.cs_permit.specs.Refusals.{Check}
use Rattle.cs_permit.specs.Rules.{is_directory, is_gone, on_file}
use Rattle.cs_permit.specs.Shown.{entry_bytes}

-- a directory's read begins at offset 0, or at the end of the last read
abbrev pub is_good_offset : ReadCall → Bool
is_good_offset c = c.offset == 0 || c.offset == c.place.end

-- the name after which it begins: none at offset 0, and else the last name given
abbrev pub name_before : ReadCall → Option NameBytes
name_before c = if c.offset == 0 then None else c.place.last

-- the name of the entry with which it begins, if one remains
abbrev pub first_name : Tree → ReadCall → Option NameBytes
first_name t c = next_name t c.number (name_before c)

-- the entry of that name has more bytes than the read asks for
abbrev pub is_too_large : Tree → ReadCall → NameBytes → Bool
is_too_large t c x = nat_lt c.count (length (entry_bytes t c.number x))

-- an entry remains, and the next one doesn't fit
abbrev pub needs_more : Tree → ReadCall → Bool
needs_more t c = option_map_or (is_too_large t c) (first_name t c) false

-- a read
abbrev pub read_rules : Tree → ReadCall → List Check
read_rules t c =
    -- file is gone
    (G3, is_gone t c.number)
    -- bad directory offset
    ∷ (G4, on_file t c.number is_directory && not (is_good_offset c))
    -- count too small: an entry remains, and the next one doesn't fit
    ∷ (G5, on_file t c.number is_directory && needs_more t c)
    ∷ []
