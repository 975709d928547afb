-- A walk is stopped at its first name by the first rule of it that fails.
use Rattle.std.proofs.Common.{◌≡◌, ℕ, List, [], ◌∷◌, true, false, Option, Some, None, refl, sym, ap, ◌∙◌}
use Rattle.std.proofs.lemmas.Bool.{true≢false}
use Rattle.std.specs.Prelude.{is_none}
use Rattle.std.specs.Option.{option_map}
use Rattle.cs_tree_model.specs.Record.{metadata_of_ref}
use Rattle.cs_tree_model.specs.declared.record.Metadata.{Metadata}
use Rattle.cs_tree_model.specs.declared.record.MetadataBuf.{MetadataBuf}
use Rattle.cs_names.specs.declared.rule_id.RuleId.{RuleId}
use Rattle.cs_tree_model.specs.Tree.{Tree}
use Rattle.cs_users.specs.Rows.{Row}
use Rattle.cs_permit.proofs.Elements.{last_fails}
use Rattle.cs_permit.specs.Refusals.{first_failing}
use Rattle.cs_permit.specs.Rules.{is_gone}
use Rattle.cs_permit.specs.Walks.{element_rules, first_element, number_by_name, element_result as led, walk_rules}
use Rattle.cs_permit.specs.declared.call.WalkCall.{WalkCall}
use Rattle.cs_run.specs.Walks.{WalkResult, go_on, stopped_first, walk_from, requested_walk}

first_by : (t : Tree) (n : ℕ) (rest : ℕ → WalkResult) (fails : Option RuleId) (m : Option ℕ) → (is_none m ≡ true → fails ≡ None → ⊥)
    → stopped_first (go_on rest t n (led fails m)) ≡ fails
first_by t n rest (Some rule) m there = refl
first_by t n rest None None there = absurd (there refl refl)
first_by t n rest None (Some m) there = refl

-- of the names from a file on
stopped_first-way : (t : Tree) (us : List Row) (u : List ℕ) (n : ℕ) (names : List (List ℕ))
    → stopped_first (walk_from t us u n names) ≡ first_failing (first_element t us u n names)
stopped_first-way t us u n [] = refl
stopped_first-way t us u n (x ∷ xs) =
    first_by t n (λ m. walk_from t us u m xs) (first_failing (element_rules t us u n x)) (number_by_name t n x)
    (last_fails _ _ (is_none (number_by_name t n x)))

-- a walk from a file that is there is refused if it is stopped at its first name
pub stopped_by_rules : (t : Tree) (us : List Row) (c : WalkCall) (w : WalkResult) → is_gone t c.number ≡ false → w ≡ requested_walk t us c
    → stopped_first w ≡ first_failing (walk_rules t us c)
stopped_by_rules t us c w there e =
    ap stopped_first e ∙ stopped_first-way t us c.user c.number c.names ∙ sym (rw there refl)

-- a file of which a record is known is there
pub not_gone : (o : Option Metadata) (file : Option MetadataBuf) → option_map metadata_of_ref o ≡ file → is_none o ≡ false
    → is_none file ≡ false
not_gone None file known there = absurd (true≢false there)
not_gone (Some m) file known there = ap is_none (sym known)
