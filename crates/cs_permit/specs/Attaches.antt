-- The rule of an attach.
use Rattle.std.specs.Prelude.{not, List, [], ◌∷◌}
use Rattle.cs_names.specs.declared.rule_id.RuleId.TheVariants.{A6}
use Rattle.cs_users.specs.Members.{is_known}
use Rattle.cs_users.specs.Rows.{Row}
use Rattle.cs_permit.specs.declared.call.AttachCall.{AttachCall}
use Rattle.cs_permit.specs.Refusals.{Check}

-- an attach
abbrev pub attach_rules : List Row → AttachCall → List Check
attach_rules us c =
    -- unknown user: the uname isn't known
    (A6, not (is_known us c.user))
    ∷ []
