-- Which earlier micro-operations one wants: without them nothing shows what it does.
use Rattle.std.specs.Prelude.{◌≡◌, ◌≢◌, ◌⊎◌, ◌<◌, ◌≤◌, ◌+◌, ◌==◌, ◌&&◌, nat_lt, ℕ, Bool, true}
use Rattle.std.specs.Prelude.{false}
use Rattle.std.specs.Prelude.{List, None, Some}
use Rattle.std.specs.FinMap.{get}
use Rattle.cs_entries.specs.declared.entry.Entry.{Entry}
use Rattle.cs_entries.specs.declared.node.Node.TheVariants.{Directory, File}
use Rattle.cs_entries.specs.Tables.{Table}
use Rattle.cs_micro.specs.declared.micro_op.MicroOp.{MicroOp}
use Rattle.cs_micro.specs.declared.micro_op.MicroOp.TheVariants.{CreateDirEntry, LinkDirEntry}
use Rattle.cs_micro.specs.declared.micro_op.MicroOp.TheVariants.{ChangeFileSize, WriteBlock}
use Rattle.cs_apm.specs.Atlases.{content_before}
use Rattle.cs_apm.specs.Rules.{op_at}
use Rattle.cs_apm.specs.Slots.{Slot}
use Rattle.cs_apm.specs.States.{start_state}
use Rattle.cs_plan.specs.Scenes.{Scene, micros_of}
use Rattle.cs_same_states.specs.Reaching.{changed_file}
use Rattle.cs_same_states.specs.Slots.{file_in}

-- it makes the file or the symbolic link
abbrev pub makes : ℕ → MicroOp → Bool
makes n (CreateDirEntry e (File kind file) rights bytes) = file == n
makes n _ = false

-- it links the file; so does the first half of a rename
abbrev pub links : ℕ → MicroOp → Bool
links n (LinkDirEntry e kind file old half) = file == n
links n _ = false

-- it gives the file a size above the offset
abbrev pub grows_above : ℕ → ℕ → MicroOp → Bool
grows_above n offset (ChangeFileSize file to) = file == n && nat_lt offset to
grows_above n offset _ = false

-- the file is in the slot
abbrev pub holds : ℕ → Slot → Bool
holds n (Some (File kind file)) = file == n
holds n (Some (Directory d)) = false
holds n None = false

-- the operation at place z, and no other, makes the file: no entry holds it at the start, and no
-- other operation makes or links it
pub record IsMaker (start : Table) (ops : List MicroOp) (n z : ℕ) : Type 0 where
  pub made : makes n (op_at ops z) ≡ true
  pub alone : (i : ℕ) → makes n (op_at ops i) ≡ true → i ≡ z
  pub linkless : (i : ℕ) → links n (op_at ops i) ≡ false
  pub absent : (e : Entry) → file_in (get start e) ≢ Some n

-- the operation at place z is the first that gives the file a size above an offset
pub record IsGrower (size : ℕ) (ops : List MicroOp) (n offset z : ℕ) : Type 0 where
  pub to : ℕ
  pub grows : op_at ops z ≡ ChangeFileSize n to
  pub before : (i to : ℕ) → i < z → op_at ops i ≡ ChangeFileSize n to → to ≤ offset
  pub small : size ≤ offset

-- what changes a file wants what makes the file
pub record WantsMaker (s : Scene) (z k : ℕ) : Type 0 where
  pub file : ℕ
  pub changes : changed_file (op_at (micros_of s).ops k) ≡ Some file
  pub maker : IsMaker (start_state s.trace).entries (micros_of s).ops file z

-- a write wants the first size above its offset
pub record WantsGrower (s : Scene) (z k : ℕ) : Type 0 where
  pub file : ℕ
  pub block : ℕ
  pub start : ℕ
  pub at : ℕ
  pub bytes : List ℕ
  pub writes : op_at (micros_of s).ops k ≡ WriteBlock file block start at bytes
  pub grower : IsGrower (content_before s.trace (micros_of s).ops file).size (micros_of s).ops file
      (start + at) z

abbrev pub Wants : Scene → ℕ → ℕ → Type 0
Wants s z k = (z < k) × (WantsMaker s z k ⊎ WantsGrower s z k)
