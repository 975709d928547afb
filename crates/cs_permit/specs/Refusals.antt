-- Rules in their order, and the first of them that fails.
use Rattle.std.specs.Prelude.{◌≡◌, Bool, true, false, List, [], ◌∷◌, ◌++◌, Option, Some, None}
use Rattle.std.specs.Prelude.{if◌then◌else◌}
use Rattle.std.specs.List.{AllByRecursion}
use Rattle.cs_names.specs.declared.rule_id.RuleId.{RuleId}

-- a rule, and whether it fails
abbrev pub Check : Type 0
Check = RuleId × Bool

-- the first rule of the list that fails
abbrev pub first_failing : List Check → Option RuleId
first_failing [] = None
first_failing (c ∷ cs) = if c.1 then Some c.0 else first_failing cs

-- a rule that fails, and none before it in the list does
pub record IsFirstToFail (checks : List Check) (rule : RuleId) : Type 0 where
  pub passed : List Check
  pub later : List Check
  pub list_is : checks ≡ passed ++ (rule, true) ∷ later
  pub none_before : AllByRecursion (λ c. c.1 ≡ false) passed

-- none of the rules fails
abbrev pub AllPass : List Check → Type 0
AllPass checks = AllByRecursion (λ c. c.1 ≡ false) checks

-- the first of some rules that fails, or else of others
abbrev pub first_failing_or : Option RuleId → Option RuleId → Option RuleId
first_failing_or None other = other
first_failing_or (Some rule) other = Some rule
