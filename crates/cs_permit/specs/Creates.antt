-- The rules of a create.
use Rattle.std.specs.Prelude.{not, List, [], ◌∷◌, is_some, nat_le}
use Rattle.std.specs.FinMap.{len}
use Rattle.cs_names.specs.declared.limits.TheConstants.{TREE_RECORDS}
use Rattle.cs_names.specs.declared.rule_id.RuleId.TheVariants.{C6, C7, C8, C9, C10}
use Rattle.cs_tree_model.specs.Tree.{Tree, number_in}
use Rattle.cs_users.specs.declared.rights.Right.TheVariants.{Write}
use Rattle.cs_users.specs.Rows.{Row}
use Rattle.cs_permit.specs.declared.call.CreateCall.{CreateCall}
use Rattle.cs_permit.specs.Refusals.{Check}
use Rattle.cs_permit.specs.Rules.{is_directory, is_gone, lacks_right, on_file}

-- a create in the directory of a number
abbrev pub create_rules : Tree → List Row → CreateCall → List Check
create_rules t us c =
    -- file is gone
    (C6, is_gone t c.number)
    -- not a directory
    ∷ (C7, on_file t c.number (λ file. not (is_directory file)))
    -- no write right: no w on the directory
    ∷ (C8, lacks_right t us c.user Write c.number)
    -- name exists
    ∷ (C9, is_some (number_in t c.number c.name))
    -- no room for files: TREE_RECORDS records are there
    ∷ (C10, nat_le TREE_RECORDS (len t.files))
    ∷ []
