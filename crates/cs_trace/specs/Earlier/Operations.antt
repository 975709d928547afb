-- An operation of a trace by paths, as before version 4.
use Rattle.std.specs.Prelude.{◌≡◌, ◌≢◌, ◌⊎◌, ◌<◌, ◌≤◌, ℕ, ◌+◌, ◌==◌, List, [], ◌∷◌, ◌++◌, None}
use Rattle.std.specs.Prelude.{Some, length, max, slice_get, slice_set, fold, if◌then◌else◌}
use Rattle.std.specs.FinMap.{FinMap, get, insert, remove}
use Rattle.std.specs.Option.{option_map_or}
use Rattle.cs_names.specs.declared.limits.TheConstants.{FILE_BYTES}
use Rattle.cs_tree_model.specs.Tree.{Path, path_cmp, parent_path}
use Rattle.cs_trace.specs.Earlier.Covers as covers
use Rattle.cs_trace.specs.Earlier.Node.{Node}
use Rattle.cs_trace.specs.Earlier.Node.{Directory, File}
use Rattle.cs_trace.specs.Earlier.Operation.{Operation}
use Rattle.cs_start.specs.declared.rights.Rights.{Rights}
use Rattle.cs_trace.specs.Earlier.Operation.{Creat, Mkdir, Link, Unlink}
use Rattle.cs_trace.specs.Earlier.Operation.{Rmdir, Rename, Write, Truncate}
use Rattle.cs_trace.specs.Earlier.Operation.{SetAttr, Sync, Say}
use Rattle.cs_trace.specs.Earlier.Target as targets

-- what is at each path
abbrev pub Paths : Type 0
Paths = FinMap path_cmp Node

-- ---- what an operation leaves

-- what is at p moves to q
abbrev pub moved : Path → Path → Paths → Paths
moved p q m = option_map_or (λ node. insert (remove m p) q node) (get m p) m

abbrev pub paths_after : Paths → Operation → Paths
paths_after m (Creat p file rights) = insert m p (File file)
paths_after m (Mkdir p rights) = insert m p Directory
paths_after m (Link p file) = insert m p (File file)
paths_after m (Unlink p) = remove m p
paths_after m (Rmdir p) = remove m p
paths_after m (Rename p q) = moved p q m
paths_after m _ = m

-- the size of a file that had so many bytes, after a write
abbrev pub written_size : ℕ → ℕ → List ℕ → ℕ
written_size size offset bytes =
    if length bytes == 0 then size else max size (offset + length bytes)

-- each file's size by its number: a new file has no byte
abbrev pub sizes_after : List ℕ → Operation → List ℕ
sizes_after sizes (Creat p file rights) = sizes ++ 0 ∷ []
sizes_after sizes (Write file size offset bytes) =
    slice_set sizes file (written_size size offset bytes)
sizes_after sizes (Truncate file size to) = slice_set sizes file to
sizes_after sizes _ = sizes

-- how many records an operation makes
abbrev pub made_by : Operation → ℕ
made_by (Creat p file rights) = 1
made_by (Mkdir p rights) = 1
made_by (Link p file) = 1
made_by _ = 0

-- ---- when an operation is legal

abbrev pub IsDirectoryAt : Paths → Path → Type 0
IsDirectoryAt m p = get m p ≡ Some Directory

abbrev pub IsFileAt : Paths → Path → Type 0
IsFileAt m p = (file : ℕ) × (get m p ≡ Some (File file))

-- the directory has no entry
abbrev pub IsEmptyAt : Paths → Path → Type 0
IsEmptyAt m d = (p : Path) → p ≢ [] → parent_path p ≡ d → get m p ≡ None

-- a new entry may be made at the path
abbrev pub IsFree : Paths → Path → Type 0
IsFree m p = (get m p ≡ None) × IsDirectoryAt m (parent_path p)

-- a file may be moved to the path: it is free, or a file's that is replaced
abbrev pub MayTake : Paths → Path → Type 0
MayTake m q = ((get m q ≡ None) ⊎ IsFileAt m q) × IsDirectoryAt m (parent_path q)

-- the file of the number is at some path
abbrev pub Stands : Paths → ℕ → Type 0
Stands m file = (p : Path) × (get m p ≡ Some (File file))

-- the file of the number has this size
abbrev pub HasSize : List ℕ → ℕ → ℕ → Type 0
HasSize sizes file size = slice_get sizes file ≡ Some size

-- three octal digits
abbrev pub IsOctal : Rights → Type 0
IsOctal rights = rights.permissions ≤ 511

-- the operation is legal if these are the paths and the sizes of the files: a new file has the next
-- number, a file or directory that is changed, waited for or gets one more path is there,
-- permissions are three octal digits, and no operation leaves a file that is too large
abbrev pub IsLegal : Paths → List ℕ → Operation → Type 0
IsLegal m sizes (Creat p file rights) = IsFree m p × (file ≡ length sizes) × IsOctal rights
IsLegal m sizes (Mkdir p rights) = IsFree m p × IsOctal rights
IsLegal m sizes (Link p file) = IsFree m p × Stands m file × (file < length sizes)
IsLegal m sizes (Unlink p) = IsFileAt m p
IsLegal m sizes (Rmdir p) = (p ≢ []) × IsDirectoryAt m p × IsEmptyAt m p
IsLegal m sizes (Rename p q) = IsFileAt m p × MayTake m q
IsLegal m sizes (Write file size offset bytes) =
    Stands m file × HasSize sizes file size
    × (0 < length bytes → offset + length bytes ≤ FILE_BYTES)
IsLegal m sizes (Truncate file size to) =
    Stands m file × HasSize sizes file size × (to ≤ FILE_BYTES)
IsLegal m sizes (SetAttr (targets.File file) before after) =
    Stands m file × (file < length sizes) × IsOctal after
IsLegal m sizes (SetAttr (targets.Directory p) before after) = IsDirectoryAt m p × IsOctal after
IsLegal m sizes (Sync covers.All) = Unit {0}
IsLegal m sizes (Sync (covers.File file)) = Stands m file × (file < length sizes)
IsLegal m sizes (Sync (covers.Range file offset count)) = Stands m file × (file < length sizes)
IsLegal m sizes (Sync (covers.Directory p)) = IsDirectoryAt m p
IsLegal m sizes Say = Unit {0}

-- each operation is legal in what those before it leave
abbrev pub AreLegal : Paths → List ℕ → List Operation → Type 0
AreLegal m sizes [] = Unit {0}
AreLegal m sizes (o ∷ ops) =
    IsLegal m sizes o × AreLegal (paths_after m o) (sizes_after sizes o) ops

-- what all of them leave
abbrev pub paths_after_all : Paths → List Operation → Paths
paths_after_all = fold paths_after

abbrev pub sizes_after_all : List ℕ → List Operation → List ℕ
sizes_after_all = fold sizes_after

-- ---- paths in directories

-- the root is a directory, and each other path is in one
pub record AreNested (m : Paths) : Type 0 where
  pub root : IsDirectoryAt m []
  pub nested : (p : Path) (node : Node)
      → get m p ≡ Some node → p ≢ [] → IsDirectoryAt m (parent_path p)
