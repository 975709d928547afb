-- The rules of a walk, and of each of its elements.
use Rattle.std.specs.Prelude.{ℕ, not, Bool, List, [], ◌∷◌, Option, None, Some, Result, Ok, Err}
use Rattle.std.specs.Prelude.{is_none, is_ok, if◌then◌else◌}
use Rattle.cs_names.specs.declared.rule_id.RuleId.{RuleId}
use Rattle.cs_names.specs.declared.rule_id.RuleId.TheVariants.{K5, K6, K7, K8}
use Rattle.cs_names.specs.Legal.{name_in}
use Rattle.cs_tree_model.specs.Tree.{Tree, number_in, parent_numbered}
use Rattle.cs_users.specs.declared.rights.Right.TheVariants.{Execute}
use Rattle.cs_users.specs.Rows.{Row}
use Rattle.cs_users.specs.Members.{same_name}
use Rattle.cs_permit.specs.declared.call.WalkCall.{WalkCall}
use Rattle.cs_permit.specs.Refusals.{Check, first_failing}
use Rattle.cs_permit.specs.Rules.{is_directory, is_gone, lacks_right, on_file}

-- the name `..`
abbrev pub is_up : List ℕ → Bool
is_up x = same_name x (46 ∷ 46 ∷ [])

-- the file to which a name leads from a directory: `..` to its parent, another legal name to its
-- entry
abbrev pub number_by_name : Tree → ℕ → List ℕ → Option ℕ
number_by_name t n x =
    if is_up x then parent_numbered t n else (if is_ok (name_in x) then number_in t n x else None)

-- one element of a walk: each, `..` too, needs a directory, search right in it, and the name
abbrev pub element_rules : Tree → List Row → List ℕ → ℕ → List ℕ → List Check
element_rules t us u n x =
    -- not a directory
    (K6, on_file t n (λ file. not (is_directory file)))
    -- no search right: no x on the directory
    ∷ (K7, lacks_right t us u Execute n)
    -- no such name
    ∷ (K8, is_none (number_by_name t n x))
    ∷ []

-- the rule that stops an element, or the file to which it leads
abbrev pub element_result : Option RuleId → Option ℕ → Result ℕ RuleId
element_result (Some rule) m = Err rule
element_result None None = Err K8
element_result None (Some m) = Ok m

-- the file to which an element leads, or the first rule that stops it
abbrev pub element : Tree → List Row → List ℕ → ℕ → List ℕ → Result ℕ RuleId
element t us u n x =
    element_result (first_failing (element_rules t us u n x)) (number_by_name t n x)

-- the rules of a walk's first element, if it has one
abbrev pub first_element : Tree → List Row → List ℕ → ℕ → List (List ℕ) → List Check
first_element t us u n [] = []
first_element t us u n (x ∷ xs) = element_rules t us u n x

-- a walk: only these rules refuse it
abbrev pub walk_rules : Tree → List Row → WalkCall → List Check
walk_rules t us c =
    -- file is gone
    (K5, is_gone t c.number)
    ∷ first_element t us c.user c.number c.names
