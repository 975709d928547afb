-- The rules of a remove.
use Rattle.std.specs.Prelude.{ℕ, ◌==◌, Bool, List, [], ◌∷◌, None, is_some}
use Rattle.cs_names.specs.declared.rule_id.RuleId.TheVariants.{M2, M3, M4, M5}
use Rattle.cs_tree_model.specs.Nexts.{next_name}
use Rattle.cs_tree_model.specs.Tree.{Tree}
use Rattle.cs_users.specs.declared.rights.Right.TheVariants.{Write}
use Rattle.cs_users.specs.Rows.{Row}
use Rattle.cs_permit.specs.declared.call.RemoveCall.{RemoveCall}
use Rattle.cs_permit.specs.Refusals.{Check}
use Rattle.cs_permit.specs.Rules.{is_gone, parent_lacks}

-- the file of the number is a directory with a first entry
abbrev pub has_entries : Tree → ℕ → Bool
has_entries t n = is_some (next_name t n None)

-- a remove
abbrev pub remove_rules : Tree → List Row → RemoveCall → List Check
remove_rules t us c =
    -- file is gone
    (M2, is_gone t c.number)
    -- root can't be removed
    ∷ (M3, c.number == 0)
    -- no write right: no w in the parent
    ∷ (M4, parent_lacks t us c.user Write c.number)
    -- directory not empty
    ∷ (M5, has_entries t c.number)
    ∷ []
