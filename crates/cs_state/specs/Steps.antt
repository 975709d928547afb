-- The micro-operations that change a file: its size, and each of its pages.
use Rattle.std.specs.Prelude.{◌≡◌, ◌+◌, ◌*◌, ◌/◌, ◌%◌, ◌<◌, ◌≤◌, ◌&&◌, ◌==◌, nat_lt, ℕ, zero, suc}
use Rattle.std.specs.Prelude.{if◌then◌else◌, Bool, false, true, List, [], ◌∷◌, ◌++◌, cond, Option}
use Rattle.std.specs.Prelude.{None, Some, IsSome, length, take, fold, slice_get, slice_index_or}
use Rattle.std.specs.BTreeMap.{get}
use Rattle.std.specs.Global.{Vec}
use Rattle.std.specs.Option.{option_map_or}
use Rattle.std.specs.Ordering.{nat_cmp}
use Rattle.cs_micro.specs.declared.micro_op.MicroOp.{MicroOp}
use Rattle.cs_micro.specs.declared.micro_op.MicroOp.TheVariants.{ChangeFileSize, WriteBlock}
use Rattle.cs_trace.specs.declared.limits.TheConstants.{LARGE_FILE_BYTES}
use Rattle.cs_trace.specs.Traces.{Trace}
use Rattle.cs_apm.specs.Atlases.{content_before}
use Rattle.cs_apm.specs.Contents.{changes_file}
use Rattle.cs_apm.specs.Rules.{op_at}
use Rattle.cs_apm.specs.States.{Content, overwritten}
use Rattle.cs_state.specs.declared.file_steps.FileSteps.{FileSteps}
use Rattle.cs_state.specs.declared.file_steps.TheConstants.{PAGE_BYTES}
use Rattle.cs_paths.specs.Marks.{numbers_that_pass, mark_at}
use Rattle.cs_state.specs.Windows.{byte_of, size_after}

-- it changes the size of the file
abbrev pub resizes : ℕ → MicroOp → Bool
resizes n (ChangeFileSize file size) = file == n
resizes n _ = false

-- the byte is in the page
abbrev pub is_page : Option ℕ → ℕ → Bool
is_page None byte = false
is_page (Some page) byte = byte / PAGE_BYTES == page

-- it makes a file of this size shorter, or writes into the page, if there is one
abbrev pub reaches : Option ℕ → ℕ → MicroOp → Bool
reaches page size (ChangeFileSize file to) = nat_lt to size
reaches page size (WriteBlock file block start at bytes) = is_page page (start + at)
reaches page size _ = false

-- no file is too large, and all bytes of a write are in one page
abbrev pub IsFitting : MicroOp → Type 0
IsFitting (ChangeFileSize file to) = to ≤ LARGE_FILE_BYTES
IsFitting (WriteBlock file block start at bytes) =
    (start + at) % PAGE_BYTES + length bytes ≤ PAGE_BYTES
IsFitting _ = Unit {0}

-- the file's size when the first k of all micro-operations are done
abbrev pub size_before : ℕ → ℕ → List MicroOp → ℕ → ℕ
size_before n size ops zero = size
size_before n size ops (suc k) = size_after n (size_before n size ops k) (op_at ops k)

-- the micro-operation at the place makes the file shorter, or writes into the page
abbrev pub touches : ℕ → ℕ → List MicroOp → Option ℕ → ℕ → Bool
touches n size ops page k =
    changes_file n (op_at ops k) && reaches page (size_before n size ops k) (op_at ops k)

-- the places of the micro-operations that reach the page of the file
abbrev pub row_at : FileSteps → ℕ → List ℕ
row_at steps page = option_map_or (λ row. row.items) (get nat_cmp steps.pages page) steps.cuts.items

-- the lists of places are of the micro-operations that change file n, which has `size` bytes at
-- first
pub record AreFileSteps (n size : ℕ) (ops : List MicroOp) (steps : FileSteps) : Type 0 where
  pub sizes : steps.size_changes.items
      ≡ numbers_that_pass (λ k. resizes n (op_at ops k)) (length ops)
  pub rows : (page : ℕ)
      → row_at steps page ≡ numbers_that_pass (touches n size ops (Some page)) (length ops)

-- each file that some micro-operation changes has its lists of places
pub record AreAllSteps (t : Trace) (ops : List MicroOp) (changed : List Bool)
    (all : List FileSteps) : Type 0 where
  pub long : length all ≡ length changed
  pub each : (file : ℕ) (steps : FileSteps) → slice_get all file ≡ Some steps
      → slice_get changed file ≡ Some true
      → AreFileSteps file (length (content_before t ops file).bytes) ops steps

-- the elements of a list that pass the test
abbrev pub items_that_pass : (ℕ → Bool) → List ℕ → List ℕ
items_that_pass f [] = []
items_that_pass f (k ∷ ks) = cond (f k) (k ∷ []) [] ++ items_that_pass f ks

-- those of the places that reach the page, or make the file shorter, which has these sizes before
-- each micro-operation
abbrev pub places_reaching : List ℕ → List MicroOp → List ℕ → Option ℕ → List ℕ
places_reaching sizes ops places page =
    items_that_pass (λ k. reaches page (slice_index_or sizes k 0) (op_at ops k)) places

-- each row has the places that reach its page
abbrev pub AreRows : List ℕ → List MicroOp → List ℕ → (ℕ → Option (Vec ℕ)) → Type 0
AreRows sizes ops places rows =
    (page : ℕ) (row : Vec ℕ) → rows page ≡ Some row
    → row.items ≡ places_reaching sizes ops places (Some page)

-- the page that it writes into, if it writes, has a row
abbrev pub HasRow : (ℕ → Option (Vec ℕ)) → MicroOp → Type 0
HasRow rows (WriteBlock file block start at bytes) = IsSome (rows ((start + at) / PAGE_BYTES))
HasRow rows _ = Unit {0}

-- ---- a part of a file

-- what is left of a file that is cut, or written into
abbrev pub content_after_cut : Content → MicroOp → Content
content_after_cut f (ChangeFileSize file to) = record f { bytes = take to f.bytes }
content_after_cut f (WriteBlock file block start at bytes) = overwritten (start + at) bytes f
content_after_cut f _ = f

abbrev pub member_struck : List MicroOp → List Bool → Content → ℕ → Content
member_struck ops members f k = if mark_at members k then content_after_cut f (op_at ops k) else f

-- the file after the micro-operations at those of the places that are members
abbrev pub struck_by : List MicroOp → List Bool → Content → List ℕ → Content
struck_by ops members f places = fold (member_struck ops members) f places

-- the two have the same bytes in the page
abbrev pub AgreeIn : ℕ → Content → Content → Type 0
AgreeIn page f g =
    (i : ℕ) → page * PAGE_BYTES ≤ i → i < page * PAGE_BYTES + PAGE_BYTES → byte_of f i ≡ byte_of g i

-- the bytes of the part that are in the page are those of the file
abbrev pub IsPartIn : ℕ → ℕ → Content → List ℕ → Type 0
IsPartIn page offset f part =
    (k : ℕ) → k < length part → page * PAGE_BYTES ≤ offset + k
    → offset + k < page * PAGE_BYTES + PAGE_BYTES
    → slice_index_or part k 0 ≡ byte_of f (offset + k)

-- the members of a set, of which each has a mark
abbrev pub members_in : List Bool → List ℕ
members_in marks = numbers_that_pass (mark_at marks) (length marks)
