-- The rule of a stat: it asks no right.
use Rattle.std.specs.Prelude.{List, [], ◌∷◌}
use Rattle.cs_names.specs.declared.rule_id.RuleId.TheVariants.{H2}
use Rattle.cs_tree_model.specs.Tree.{Tree}
use Rattle.cs_permit.specs.declared.call.StatCall.{StatCall}
use Rattle.cs_permit.specs.Refusals.{Check}
use Rattle.cs_permit.specs.Rules.{is_gone}

-- a stat
abbrev pub stat_rules : Tree → StatCall → List Check
stat_rules t c =
    -- file is gone
    (H2, is_gone t c.number)
    ∷ []
