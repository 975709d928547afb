-- The rules of an open.
use Rattle.std.specs.Prelude.{ℕ, ◌==◌, not, ◌&&◌, Bool, List, [], ◌∷◌}
use Rattle.std.specs.List.{list_any}
use Rattle.cs_names.specs.declared.rule_id.RuleId.TheVariants.{O4, O5, O6, O7, O8, O9, O10}
use Rattle.cs_tree_model.specs.Tree.{Tree}
use Rattle.cs_users.specs.declared.rights.Right.TheVariants.{Read, Write, Execute}
use Rattle.cs_users.specs.Rows.{Row}
use Rattle.cs_permit.specs.declared.call.OpenCall.{OpenCall}
use Rattle.cs_permit.specs.declared.call.OpenFile.{OpenFile}
use Rattle.cs_permit.specs.Modes.{asks_execute, asks_read, asks_write, removes_on_close}
use Rattle.cs_permit.specs.Refusals.{Check}
use Rattle.cs_permit.specs.Rules.{is_directory, is_exclusive, is_gone, lacks_right, on_file}
use Rattle.cs_permit.specs.Rules.{parent_lacks}

-- one of the opens is on the file of that number
abbrev pub is_open : List OpenFile → ℕ → Bool
is_open opens n = list_any (λ o. o.file == n) opens

-- an open
abbrev pub open_rules : Tree → List OpenFile → List Row → OpenCall → List Check
open_rules t opens us c =
    -- file is gone
    (O4, is_gone t c.number)
    -- directory needs mode 0: a directory, and the mode's whole byte isn't 0
    ∷ (O5, on_file t c.number is_directory && not (c.mode == 0))
    -- no read right: mode 0 or 2 without r
    ∷ (O6, asks_read c.mode && lacks_right t us c.user Read c.number)
    -- no write right: mode 1 or 2, or 0x10, without w
    ∷ (O7, asks_write c.mode && lacks_right t us c.user Write c.number)
    -- no execute right: mode 3 without x
    ∷ (O8, asks_execute c.mode && lacks_right t us c.user Execute c.number)
    -- no right to remove: 0x40 without w in the parent
    ∷ (O9, removes_on_close c.mode && parent_lacks t us c.user Write c.number)
    -- exclusive file is open: DMEXCL, and an open of the run on it
    ∷ (O10, on_file t c.number is_exclusive && is_open opens c.number)
    ∷ []
