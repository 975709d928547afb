-- What is computed once from a trace, for the states of all its sets.
use Rattle.std.specs.Prelude.{◌≡◌, ◌<◌, ◌≤◌, ℕ, ◌+◌, ◌*◌, ◌++◌, Bool, List, [], Some}
use Rattle.std.specs.Prelude.{length, map, slice_get, slice_index_or}
use Rattle.std.specs.List.{All, list_any}
use Rattle.cs_entries.specs.declared.entry.Entry.{Entry}
use Rattle.cs_entries.specs.declared.node.Node.{Node}
use Rattle.cs_entries.specs.Legal.{IsTree}
use Rattle.cs_entries.specs.Tables.{held_in}
use Rattle.cs_start.specs.declared.rights.Rights.{Rights}
use Rattle.cs_trace.specs.Traces.{Trace, start_table}
use Rattle.cs_micro.specs.declared.micro_op.MicroOp.{MicroOp}
use Rattle.cs_micro.specs.declared.micro_op.MicroOp.TheVariants.{CreateDirEntry}
use Rattle.cs_micro.specs.Micros.{AreLegalFromStart, Micros}
use Rattle.cs_apm.specs.Contents.{IsSmall, changes_file}
use Rattle.cs_apm.specs.Rules.{op_at}
use Rattle.cs_apm.specs.States.{Content, content_at, content_of, content_of_bytes}
use Rattle.cs_apm.specs.States.{directories_of, files_made}
use Rattle.cs_apm.specs.States.{no_content, no_record, owners_of, start_state, state_of}
use Rattle.cs_apm.specs.Slots.{AreAscending, AreKnown, AreKnownSteps, AreSteps, Mirror, Slot}
use Rattle.cs_apm.specs.declared.tables.Tables.{Tables}
use Rattle.cs_apm.specs.declared.slot.Step.{Step}

-- every entry that the start has or a micro-operation touches, in order; what each holds at the
-- start; what each micro-operation does there; owner, group and permissions of the files, and of
-- the directories, as they are made; the place of the record of each of the start's files; the
-- place of the making of each further file; which files' size or bytes an operation changes
pub record Atlas : Type 0 where
  pub entries : List Entry
  pub slots : List Slot
  pub steps : List Step
  pub owners : List Rights
  pub directories : List Rights
  pub starts : List ℕ
  pub makings : List ℕ
  pub changed : List Bool

-- the record of each of the start's files has its content
pub record AreStarts (t : Trace) (starts : List ℕ) : Type 0 where
  pub long : length starts ≡ length t.files
  pub each : (n : ℕ) → n < length starts → slice_index_or starts n 0 < length t.records
  pub content : (n : ℕ) → n < length starts
      → content_of (slice_index_or t.records (slice_index_or starts n 0) no_record).1
      ≡ content_at t.records (slice_index_or t.files n [])

-- what is in the file that a micro-operation makes
abbrev pub content_made : MicroOp → Content
content_made (CreateDirEntry e node rights bytes) = content_of_bytes bytes
content_made _ = no_content

-- the micro-operations that make the files after the start's
pub record AreMakings (ops : List MicroOp) (makings : List ℕ) : Type 0 where
  pub made : map (λ k. content_made (op_at ops k)) makings ≡ files_made ops
  pub inside : All (λ k. k < length ops) makings

-- the flags of the files that an operation changes
pub record AreChanged (ops : List MicroOp) (n : ℕ) (changed : List Bool) : Type 0 where
  pub long : length changed ≡ n
  pub each : (file : ℕ) (flag : Bool) → slice_get changed file ≡ Some flag
      → flag ≡ list_any (changes_file file) ops

-- the atlas is of the trace and of its micro-operations
pub record IsAtlas (t : Trace) (m : Micros) (a : Atlas) : Type 0 where
  pub version : m.version ≡ t.version
  pub ascending : AreAscending a.entries
  pub few : length a.entries ≤ length t.records + 2 * length m.ops
  pub long : length a.slots ≡ length a.entries
  pub start : Mirror a.entries a.slots (start_table t)
  pub steps : AreSteps a.entries m.ops a.steps
  pub known : AreKnown (length a.directories) (length a.owners) a.slots
  pub known_steps : AreKnownSteps (length a.slots) (length a.directories) (length a.owners) a.steps
  pub owners : a.owners ≡ owners_of t m.ops
  pub directories : a.directories ≡ directories_of t m.ops
  pub starts : AreStarts t a.starts
  pub makings : AreMakings m.ops a.makings
  pub changed : AreChanged m.ops (length (owners_of t m.ops)) a.changed
  pub tree : IsTree (held_in (start_table t))
  pub legal : AreLegalFromStart t m
  pub small : All IsSmall m.ops

-- the files after the members of a set
unfoldable pub files_left : Trace → List MicroOp → List ℕ → List Content
files_left trace ops places = (state_of (start_state trace) ops places).files

-- owner, group and permissions of the files after them
unfoldable pub owners_left : Trace → List MicroOp → List ℕ → List Rights
owners_left trace ops places = (state_of (start_state trace) ops places).owners

-- owner, group and permissions of the directories after them
unfoldable pub directories_left : Trace → List MicroOp → List ℕ → List Rights
directories_left trace ops places = (state_of (start_state trace) ops places).directories

-- the file of the number at the start, or as it is made
abbrev pub content_before : Trace → List MicroOp → ℕ → Content
content_before trace ops n =
    slice_index_or (map (content_at trace.records) trace.files ++ files_made ops) n no_content

-- the tables as an atlas
abbrev pub atlas_in : Tables → Atlas
atlas_in t = record {
  entries = t.entries.items;
  slots = t.slots.items;
  steps = t.steps.items;
  owners = t.owners.items;
  directories = t.directories.items;
  starts = t.starts.items;
  makings = t.makings.items;
  changed = t.changed.items;
}
