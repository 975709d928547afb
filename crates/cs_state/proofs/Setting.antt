-- What sets the owner, group and permissions of each file, and of each directory, from rows of those that have any.
use Rattle.std.proofs.Common.{◌≡◌, ◌≢◌, ◌==◌, ◌∙◌, ℕ, ◌<◌, ◌≤◌, true, false, List, [], Option, None, Some, refl, sym, ap, subst, ⊎_elim, length}
use Rattle.std.proofs.lemmas.Bool.{cases_Bool, cases_eq, cases_lt, false≢true, eqb-true, ne_eqb}
use Rattle.std.proofs.lemmas.List.{get_or_past}
use Rattle.std.specs.Global.{Vec}
use Rattle.std.specs.Option.{option_map_or}
use Rattle.std.specs.Prelude.{IsSome}
use Rattle.cs_trace.specs.declared.operation.Target.TheVariants as targets
use Rattle.cs_micro.specs.declared.micro_op.MicroOp.{MicroOp}
use Rattle.cs_micro.specs.declared.micro_op.MicroOp.TheVariants.{SetAttr, Say}
use Rattle.cs_apm.specs.Rules.{op_at}
use Rattle.cs_state.specs.Owners.{directory_places, directory_set, rights_places, sets_directory, sets_rights}
use Rattle.cs_state.specs.Owners.{AreDirectoryRows, AreRightsRows, HasRightsRow}
use Rattle.cs_state.proofs.Including.{no_ids}

-- if a file has no row, nothing sets its rights
has_row : (rows : ℕ → Option (Vec ℕ)) (file : ℕ) (o : MicroOp) → HasRightsRow rows o → sets_rights file o ≡ true → IsSome (rows file)
has_row rows file (SetAttr (targets.File other) rights) has is = subst (λ n. IsSome (rows n)) (eqb-true other file is) has
has_row rows file _ has is = absurd (false≢true is)

module _ (ops : List MicroOp) (rows : ℕ → Option (Vec ℕ)) (are : AreRightsRows ops rows)
    (has : (k : ℕ) → k < length ops → HasRightsRow rows (op_at ops k)) where
  unset : (file : ℕ) → rows file ≡ None → (k : ℕ) → sets_rights file (op_at ops k) ≡ false
  unset file none k = ⊎_elim
      (λ (low : k < length ops). ⊎_elim
      (λ (yes : sets_rights file (op_at ops k) ≡ true). absurd
      (false≢true (subst IsSome none (has_row rows file (op_at ops k) (has k low) yes))))
      (λ (not : sets_rights file (op_at ops k) ≡ false). not)
      (cases_Bool (sets_rights file (op_at ops k))))
      (λ (high : length ops ≤ k). ap (sets_rights file) (get_or_past ops k Say high))
      (cases_lt k (length ops))

  pub rows_are : (file : ℕ) → option_map_or (λ row. row.items) (rows file) [] ≡ rights_places ops file
  rows_are file = by (rows file) refl
    where
      by : (o : Option (Vec ℕ)) → rows file ≡ o → option_map_or (λ row. row.items) o [] ≡ rights_places ops file
      by (Some row) is = are file row is
      by None is = sym (no_ids (λ k. sets_rights file (op_at ops k)) (unset file is) (length ops))

-- ---- the same of directories

module _ (ops : List MicroOp) (rows : ℕ → Option (Vec ℕ)) (are : AreDirectoryRows ops rows)
    (has : (k : ℕ) → k < length ops → (d : ℕ) → directory_set (op_at ops k) ≡ Some d → IsSome (rows d)) where
  directory_unset : (n : ℕ) → rows n ≡ None → (k : ℕ) → sets_directory n (op_at ops k) ≡ false
  directory_unset n none k = ⊎_elim
      (λ (low : k < length ops). by (directory_set (op_at ops k)) (has k low))
      (λ (high : length ops ≤ k). ap (sets_directory n) (get_or_past ops k Say high))
      (cases_lt k (length ops))
    where
      by : (o : Option ℕ) → ((d : ℕ) → o ≡ Some d → IsSome (rows d)) → option_map_or (λ d. d == n) o false ≡ false
      by None some = refl
      by (Some d) some = ⊎_elim
          (λ (same : d ≡ n). absurd (false≢true (subst IsSome (ap rows same ∙ none) (some d refl))))
          (λ (other : d ≢ n). ne_eqb d n other)
          (cases_eq d n)

  pub directory_rows_are : (directory : ℕ) → option_map_or (λ row. row.items) (rows directory) [] ≡ directory_places ops directory
  directory_rows_are directory = by (rows directory) refl
    where
      by : (o : Option (Vec ℕ)) → rows directory ≡ o → option_map_or (λ row. row.items) o [] ≡ directory_places ops directory
      by (Some row) is = are directory row is
      by None is = sym (no_ids (λ k. sets_directory directory (op_at ops k)) (directory_unset directory is) (length ops))
