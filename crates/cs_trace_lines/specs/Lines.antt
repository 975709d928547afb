-- What a line of a trace says by itself, through what `serde_json` reads as a value.
use Rattle.std.specs.Prelude.{ℕ, ◌==◌, ◌&&◌, Bool, false, true, List, [], ◌∷◌}
use Rattle.std.specs.Prelude.{nat_eq, is_none, is_some, codes, Option}
use Rattle.std.specs.Prelude.{Some, None, option_and_then, if◌then◌else◌}
use Rattle.std.specs.Cmp.Lexicographic.{pointwise}
use Rattle.std.specs.Option.{option_map, option_map_or}
use Rattle.serde_json.specs.Data.{Data, Items, item, no_items}
use Rattle.serde_json.specs.Read.{read}
use Rattle.cs_trace_lines.specs.declared.profile.Profile.{Profile}
use Rattle.cs_trace_lines.specs.declared.profile.Profile.TheVariants.{Blocks, Ordered, Journal}
use Rattle.cs_trace_lines.specs.declared.start.StartKind.{StartKind}
use Rattle.cs_trace_lines.specs.declared.start.StartKind.TheVariants as kind
use Rattle.cs_trace_lines.specs.declared.verb.Verb.{Verb}
use Rattle.cs_trace_lines.specs.declared.verb.Verb.TheVariants as verb
use Rattle.cs_trace_lines.specs.declared.version.BlockSize.{BlockSize}
use Rattle.cs_trace_lines.specs.declared.version.Version.{Version}
use Rattle.cs_trace_lines.specs.declared.version.Version.TheVariants.{First, Second, Third, Fourth}
use Rattle.cs_trace_lines.specs.Fields.{Field, Array, Number, Other, Text, Fields, fields_in}
use Rattle.cs_trace_lines.specs.Fields.{has_keys}
use Rattle.cs_trace_lines.specs.Sparse.{Part, are_apart, laid_out}
use Rattle.cs_trace_lines.specs.Versions.{block_size_of_bytes, is_fourth, is_third_or_later}
use Rattle.cs_trace_lines.specs.Values.{Claims, text_in, whole_number_in, content_in, target_in}
use Rattle.cs_trace_lines.specs.Values.{mode_in, claims_in, symlink_claims_in, has_only}

-- what is in a file, or where a symbolic link leads; a directory begins empty
pub data StartContent : Type 0 where
  OfDirectory : StartContent
  -- its bytes
  OfFile : List ℕ → StartContent
  -- its target
  OfSymlink : List ℕ → StartContent

-- a file, a symbolic link or a directory at the start, with its path as a text
pub record StartLine : Type 0 where
  pub path : List ℕ
  pub claims : Claims
  pub content : StartContent

-- what a chmod or a chown sets: the permissions, or the owner and the group
pub data Change : Type 0 where
  Mode : ℕ → Change
  Owner : List ℕ → List ℕ → Change

-- an operation, with its paths as texts
pub data OperationLine : Type 0 where
  Creat : List ℕ → Claims → OperationLine
  Mkdir : List ℕ → Claims → OperationLine
  -- its path and its target
  Symlink : List ℕ → Claims → List ℕ → OperationLine
  Unlink : List ℕ → OperationLine
  Rmdir : List ℕ → OperationLine
  Rename : List ℕ → List ℕ → OperationLine
  -- a file's path, and one more for it
  Link : List ℕ → List ℕ → OperationLine
  -- its offset and its bytes
  Write : List ℕ → ℕ → List ℕ → OperationLine
  -- its length
  Truncate : List ℕ → ℕ → OperationLine
  SetAttr : List ℕ → Change → OperationLine
  Fsync : List ℕ → OperationLine
  Fdatasync : List ℕ → OperationLine
  -- where the range begins, and its length
  FsyncRange : List ℕ → ℕ → ℕ → OperationLine
  Sync : OperationLine
  Say : List ℕ → OperationLine

-- a line; one with an unknown word has nothing more
pub data Line : Type 0 where
  -- the version, and the root's owner, group and permissions
  Header : Version → Claims → Line
  Start : StartLine → Line
  -- one more path of a file at the start, and a path that it has
  StartLink : List ℕ → List ℕ → Line
  Operation : OperationLine → Line
  UnknownStart : Line
  UnknownOperation : Line

-- ---- headers

-- what the file system keeps in order, by its name
abbrev pub profile_named : List ℕ → Option Profile
profile_named name =
    if pointwise nat_eq name (codes "blocks") then Some Blocks
    else (if pointwise nat_eq name (codes "ordered") then Some Ordered
    else (if pointwise nat_eq name (codes "journal") then Some Journal
    else None))

abbrev pub profile_in : Option Field → Option Profile
profile_in profile = option_and_then profile_named (text_in profile)

-- a profile of the versions before the fourth
abbrev pub is_early : Profile → Bool
is_early Blocks = true
is_early Ordered = true
is_early Journal = false

abbrev pub early_profile_in : Option Field → Option Profile
early_profile_in profile =
    option_and_then (λ p. if is_early p then Some p else None) (profile_in profile)

abbrev pub block_size_in : Option Field → Option BlockSize
block_size_in block = option_and_then block_size_of_bytes (whole_number_in block)

-- the version of a header's number
abbrev pub version_of : Fields → ℕ → Option Version
version_of f number =
    if number == 1 then Some First
    else (if number == 2 then option_map Second (early_profile_in f.profile)
    else (if number == 3 then
    option_and_then (λ profile. option_map (Third profile) (block_size_in f.block))
    (early_profile_in f.profile)
    else (if number == 4 then
    option_and_then (λ profile. option_map (Fourth profile) (block_size_in f.block))
    (profile_in f.profile)
    else None)))

abbrev pub version_in : Fields → Option Version
version_in f = option_and_then (version_of f) (whole_number_in f.trace)

-- how many keys a header has, a note not counted
abbrev pub header_key_count : Version → ℕ
header_key_count First = 4
header_key_count (Second profile) = 5
header_key_count (Third profile block) = 6
header_key_count (Fourth profile block) = 6

-- a header of this version, with exactly its keys
abbrev pub header_with : Fields → Version → Option Line
header_with f version =
    if has_only version (header_key_count version) f then option_map (Header version) (claims_in f)
    else None

abbrev pub header_in : Fields → Option Line
header_in f = option_and_then (header_with f) (version_in f)

-- ---- files in parts

-- a part has its offset and its bytes, and nothing else
abbrev pub part_of : Version → Fields → Option Part
part_of version f =
    if has_keys 2 f && is_none f.note then
    option_and_then (λ at. option_map (λ bytes. record { at = at; bytes = bytes })
    (content_in version f)) (whole_number_in f.at)
    else None

abbrev pub part_in : Version → Data → Option Part
part_in version d = option_and_then (part_of version) (fields_in d)

-- the parts of a list, one after another
abbrev pub parts_of : Version → Items → Option (List Part)
parts_of version no_items = Some []
parts_of version (item d ds) =
    option_and_then (λ p. option_map (λ ps. p ∷ ps) (parts_of version ds)) (part_in version d)

abbrev pub parts_by : Version → Field → Option (List Part)
parts_by version (Text s) = None
parts_by version (Number n) = None
parts_by version (Array ds) = parts_of version ds
parts_by version Other = None

abbrev pub parts_in : Version → Option Field → Option (List Part)
parts_in version parts = option_and_then (parts_by version) parts

-- the bytes of a file with `count` bytes, if its parts ascend, don't overlap and are in the file
abbrev pub laid_out_if : ℕ → List Part → Option (List ℕ)
laid_out_if count parts = if are_apart 0 count parts then Some (laid_out count parts) else None

abbrev pub bytes_by_parts : Version → Option Field → Option Field → Option (List ℕ)
bytes_by_parts version count parts =
    option_and_then (λ count. option_and_then (laid_out_if count) (parts_in version parts))
    (whole_number_in count)

-- the bytes of a file at the start: in parts, if the version has them, or as a whole
abbrev pub file_bytes_in : Version → Fields → Option (List ℕ)
file_bytes_in version f =
    if is_some f.parts then
    (if is_fourth version then bytes_by_parts version f.length f.parts else None)
    else content_in version f

-- ---- start lines

-- the kind of this name; links are of the third version, and symbolic links of the fourth
abbrev pub kind_in : Version → List ℕ → Option StartKind
kind_in version name =
    if pointwise nat_eq name (codes "dir") then Some kind.Directory
    else (if pointwise nat_eq name (codes "file") then Some kind.File
    else (if pointwise nat_eq name (codes "link") && is_third_or_later version then Some kind.Link
    else (if pointwise nat_eq name (codes "symlink") && is_fourth version then Some kind.Symlink
    else None)))

-- how many keys its line has, with `start`, but without a note; a file in parts has one more
abbrev pub start_key_count : Fields → StartKind → ℕ
start_key_count f kind.Directory = 5
start_key_count f kind.File = if is_some f.parts then 7 else 6
start_key_count f kind.Link = 3
start_key_count f kind.Symlink = 5

-- a file, a symbolic link or a directory
abbrev pub start_with : Option Claims → Option Field → StartContent → Option Line
start_with claims path content =
    option_and_then (λ path.
    option_map (λ claims. Start (record { path = path; claims = claims; content = content }))
    claims) (text_in path)

-- what a line of this kind has under its keys
abbrev pub start_under : Version → Fields → StartKind → Option Line
start_under version f kind.Directory = start_with (claims_in f) f.path OfDirectory
start_under version f kind.File =
    option_and_then (λ bytes. start_with (claims_in f) f.path (OfFile bytes))
    (file_bytes_in version f)
start_under version f kind.Symlink =
    option_and_then (λ target. start_with (symlink_claims_in f) f.path (OfSymlink target))
    (target_in f.target)
start_under version f kind.Link =
    option_and_then (λ path. option_map (StartLink path) (text_in f.from)) (text_in f.path)

-- a line of this kind, with exactly its keys
abbrev pub start_line_with : Version → Fields → StartKind → Option Line
start_line_with version f kind =
    if has_only version (start_key_count f kind) f then start_under version f kind else None

-- a start line; one of no known kind says no more
abbrev pub start_line_named : Version → Fields → List ℕ → Option Line
start_line_named version f name =
    option_map_or (start_line_with version f) (kind_in version name) (Some UnknownStart)

abbrev pub start_line_in : Version → Fields → Option Line
start_line_in version f = option_and_then (start_line_named version f) (text_in f.start)

-- ---- operations

-- the operation of this name
abbrev pub verb_named : List ℕ → Option Verb
verb_named name =
    if pointwise nat_eq name (codes "creat") then Some verb.Creat
    else (if pointwise nat_eq name (codes "mkdir") then Some verb.Mkdir
    else (if pointwise nat_eq name (codes "symlink") then Some verb.Symlink
    else (if pointwise nat_eq name (codes "unlink") then Some verb.Unlink
    else (if pointwise nat_eq name (codes "rmdir") then Some verb.Rmdir
    else (if pointwise nat_eq name (codes "rename") then Some verb.Rename
    else (if pointwise nat_eq name (codes "link") then Some verb.Link
    else (if pointwise nat_eq name (codes "write") then Some verb.Write
    else (if pointwise nat_eq name (codes "truncate") then Some verb.Truncate
    else (if pointwise nat_eq name (codes "chmod") then Some verb.Chmod
    else (if pointwise nat_eq name (codes "chown") then Some verb.Chown
    else (if pointwise nat_eq name (codes "fsync") then Some verb.Fsync
    else (if pointwise nat_eq name (codes "fdatasync") then Some verb.Fdatasync
    else (if pointwise nat_eq name (codes "fsync_range") then Some verb.FsyncRange
    else (if pointwise nat_eq name (codes "sync") then Some verb.Sync
    else (if pointwise nat_eq name (codes "say") then Some verb.Say
    else None)))))))))))))))

-- chmod and chown are of the second version on, links and syncs of a range of the third, symbolic
-- links and syncs of data of the fourth
abbrev pub belongs_to : Version → Verb → Bool
belongs_to First verb.Chmod = false
belongs_to First verb.Chown = false
belongs_to version verb.Link = is_third_or_later version
belongs_to version verb.FsyncRange = is_third_or_later version
belongs_to version verb.Symlink = is_fourth version
belongs_to version verb.Fdatasync = is_fourth version
belongs_to version v = true

-- the operation of this name in a trace of this version
abbrev pub verb_in : Version → List ℕ → Option Verb
verb_in version name =
    option_and_then (λ v. if belongs_to version v then Some v else None) (verb_named name)

-- how many keys its line has, with `op`, but without a note
abbrev pub key_count : Verb → ℕ
key_count verb.Creat = 5
key_count verb.Mkdir = 5
key_count verb.Symlink = 5
key_count verb.Unlink = 2
key_count verb.Rmdir = 2
key_count verb.Rename = 3
key_count verb.Link = 3
key_count verb.Write = 4
key_count verb.Truncate = 3
key_count verb.Chmod = 3
key_count verb.Chown = 4
key_count verb.Fsync = 2
key_count verb.Fdatasync = 2
key_count verb.FsyncRange = 4
key_count verb.Sync = 1
key_count verb.Say = 2

-- what the operation has under its keys
abbrev pub operation_of : Version → Verb → Fields → Option OperationLine
operation_of version verb.Creat f =
    option_and_then (λ path. option_map (Creat path) (claims_in f)) (text_in f.path)
operation_of version verb.Mkdir f =
    option_and_then (λ path. option_map (Mkdir path) (claims_in f)) (text_in f.path)
operation_of version verb.Symlink f =
    option_and_then (λ path.
    option_and_then (λ target.
    option_map (λ claims. Symlink path claims target) (symlink_claims_in f))
    (target_in f.target)) (text_in f.path)
operation_of version verb.Unlink f = option_map Unlink (text_in f.path)
operation_of version verb.Rmdir f = option_map Rmdir (text_in f.path)
operation_of version verb.Rename f =
    option_and_then (λ from. option_map (Rename from) (text_in f.to)) (text_in f.from)
operation_of version verb.Link f =
    option_and_then (λ from. option_map (Link from) (text_in f.to)) (text_in f.from)
operation_of version verb.Write f =
    option_and_then (λ path.
    option_and_then (λ offset.
    option_map (Write path offset) (content_in version f))
    (whole_number_in f.offset)) (text_in f.path)
operation_of version verb.Truncate f =
    option_and_then (λ path. option_map (Truncate path) (whole_number_in f.length)) (text_in f.path)
operation_of version verb.Chmod f =
    option_and_then (λ path.
    option_map (λ permissions. SetAttr path (Mode permissions)) (mode_in f.mode)) (text_in f.path)
operation_of version verb.Chown f =
    option_and_then (λ path.
    option_and_then (λ owner.
    option_map (λ group. SetAttr path (Owner owner group)) (text_in f.group))
    (text_in f.owner)) (text_in f.path)
operation_of version verb.Fsync f = option_map Fsync (text_in f.path)
operation_of version verb.Fdatasync f = option_map Fdatasync (text_in f.path)
operation_of version verb.FsyncRange f =
    option_and_then (λ path.
    option_and_then (λ offset.
    option_map (FsyncRange path offset)
    (whole_number_in f.length)) (whole_number_in f.offset)) (text_in f.path)
operation_of version verb.Sync f = Some Sync
operation_of version verb.Say f = option_map Say (text_in f.text)

-- an operation with exactly its keys
abbrev pub operation_with : Version → Fields → Verb → Option Line
operation_with version f v =
    if has_only version (key_count v) f then option_map Operation (operation_of version v f)
    else None

-- an operation; one of no known name says no more
abbrev pub operation_named : Version → Fields → List ℕ → Option Line
operation_named version f name =
    option_map_or (operation_with version f) (verb_in version name) (Some UnknownOperation)

abbrev pub operation_in : Version → Fields → Option Line
operation_in version f = option_and_then (operation_named version f) (text_in f.op)

-- ---- lines; None if they are Syntax

-- a line has exactly one of the keys `trace`, `start` and `op`
abbrev pub line_by : Version → Fields → Option Field → Option Field → Option Field → Option Line
line_by version f (Some trace) None None = header_in f
line_by version f None (Some start) None = start_line_in version f
line_by version f None None (Some op) = operation_in version f
line_by version f _ _ _ = None

abbrev pub line_of : Version → Fields → Option Line
line_of version f = line_by version f f.trace f.start f.op

-- what the text of a line says in a trace of this version
unfoldable pub line_in : Version → List ℕ → Option Line
line_in version text = option_and_then (line_of version) (option_and_then fields_in (read text))
