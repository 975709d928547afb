-- The micro-operations that set the owner, group and permissions of a file or of a directory.
use Rattle.std.specs.Prelude.{◌≡◌, ◌==◌, ℕ, Bool, false, List, [], Option, None, Some, IsSome, length}
use Rattle.std.specs.BTreeMap.{BTreeMap, get}
use Rattle.std.specs.Global.{Vec}
use Rattle.std.specs.Option.{option_map_or}
use Rattle.std.specs.Ordering.{nat_cmp}
use Rattle.cs_entries.specs.declared.node.Node.TheVariants.{Directory}
use Rattle.cs_trace.specs.declared.operation.Target.TheVariants as targets
use Rattle.cs_micro.specs.declared.micro_op.MicroOp.{MicroOp}
use Rattle.cs_micro.specs.declared.micro_op.MicroOp.TheVariants.{CreateDirEntry, SetAttr}
use Rattle.cs_apm.specs.Rules.{op_at}
use Rattle.cs_state.specs.declared.owner_steps.OwnerSteps.{OwnerSteps}
use Rattle.cs_paths.specs.Marks.{numbers_that_pass}

-- the micro-operation sets owner, group and permissions of the file
abbrev pub sets_rights : ℕ → MicroOp → Bool
sets_rights n (SetAttr (targets.File file) rights) = file == n
sets_rights n _ = false

-- the places of the micro-operations that set those of the file
abbrev pub rights_places : List MicroOp → ℕ → List ℕ
rights_places ops file = numbers_that_pass (λ k. sets_rights file (op_at ops k)) (length ops)

-- the row with the number; empty if there is none
abbrev pub row_in : BTreeMap ℕ (Vec ℕ) → ℕ → List ℕ
row_in rows number = option_map_or (λ row. row.items) (get nat_cmp rows number) []

-- the directory whose owner, group and permissions it sets, also by making it
abbrev pub directory_set : MicroOp → Option ℕ
directory_set (CreateDirEntry e (Directory d) rights bytes) = Some d
directory_set (SetAttr (targets.Directory d path) rights) = Some d
directory_set _ = None

-- the micro-operation makes the directory, or sets its owner, group and permissions
abbrev pub sets_directory : ℕ → MicroOp → Bool
sets_directory n op = option_map_or (λ d. d == n) (directory_set op) false

-- the places of the micro-operations that do so to the directory
abbrev pub directory_places : List MicroOp → ℕ → List ℕ
directory_places ops directory =
    numbers_that_pass (λ k. sets_directory directory (op_at ops k)) (length ops)

-- each file, and each directory, has a row with the places of those that set its owner, group and
-- permissions
pub record AreOwnerSteps (ops : List MicroOp) (steps : OwnerSteps) : Type 0 where
  pub files : (file : ℕ) → row_in steps.rows file ≡ rights_places ops file
  pub directories : (directory : ℕ)
      → row_in steps.directories directory ≡ directory_places ops directory

-- each row has the places of its directory
abbrev pub AreDirectoryRows : List MicroOp → (ℕ → Option (Vec ℕ)) → Type 0
AreDirectoryRows ops rows =
    (directory : ℕ) (row : Vec ℕ) → rows directory ≡ Some row
    → row.items ≡ directory_places ops directory

-- each row has the places of its file
abbrev pub AreRightsRows : List MicroOp → (ℕ → Option (Vec ℕ)) → Type 0
AreRightsRows ops rows =
    (file : ℕ) (row : Vec ℕ) → rows file ≡ Some row → row.items ≡ rights_places ops file

-- the file whose owner, group and permissions it sets, if it does, has a row
abbrev pub HasRightsRow : (ℕ → Option (Vec ℕ)) → MicroOp → Type 0
HasRightsRow rows (SetAttr (targets.File file) rights) = IsSome (rows file)
HasRightsRow rows _ = Unit {0}
