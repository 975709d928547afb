-- What a line of a trace said by itself before version 4.
use Rattle.std.specs.Prelude.{ℕ, ◌+◌, ◌-◌, ◌*◌, ◌==◌, ◌||◌, ◌&&◌, Bool, false, true, List, [], ◌∷◌}
use Rattle.std.specs.Prelude.{nat_eq, nat_le, codes, Option, Some, None, option_and_then}
use Rattle.std.specs.Prelude.{if◌then◌else◌}
use Rattle.std.specs.Cmp.Lexicographic.{pointwise}
use Rattle.std.specs.Option.{option_map, option_map_or}
use Rattle.std.specs.List.{list_all}
use Rattle.std.specs.Result.{result_ok}
use Rattle.serde_json.specs.Read.{read}
use Rattle.serde_json.specs.Find.{as_u64}
use Rattle.hex.specs.Hex.{decode_of}
use Rattle.cs_trace_lines.specs.declared.profile.Profile.{Profile}
use Rattle.cs_trace_lines.specs.declared.profile.Profile.TheVariants.{Blocks, Ordered}
use Rattle.cs_trace_lines.specs.Earlier.StartKind.{StartKind}
use Rattle.cs_trace_lines.specs.Earlier.StartKind as kind
use Rattle.cs_trace_lines.specs.Earlier.Verb.{Verb}
use Rattle.cs_trace_lines.specs.Earlier.Verb as verb
use Rattle.cs_trace_lines.specs.declared.version.BlockSize.{BlockSize}
use Rattle.cs_trace_lines.specs.Earlier.Version.{Version}
use Rattle.cs_trace_lines.specs.Earlier.Version.{First, Second, Third}
use Rattle.cs_trace_lines.specs.Earlier.Fields.{Field, Number, Other, Text, Fields, fields_in, has_keys}
use Rattle.cs_trace_lines.specs.Earlier.Fields.{text_of}
use Rattle.cs_trace_lines.specs.Earlier.Version.{is_third}
use Rattle.cs_trace_lines.specs.Versions.{block_size_of_bytes}

-- owner, group and permissions as a line has them
pub record Claims : Type 0 where
  pub owner : List ℕ
  pub group : List ℕ
  pub permissions : ℕ

-- a file with its bytes at the start, or a directory, with its path as a text
pub record StartLine : Type 0 where
  pub path : List ℕ
  pub claims : Claims
  pub content : Option (List ℕ)

-- what a chmod or a chown sets: the permissions, or the owner and the group
pub data Change : Type 0 where
  Mode : ℕ → Change
  Owner : List ℕ → List ℕ → Change

-- an operation, with its paths as texts
pub data OperationLine : Type 0 where
  Creat : List ℕ → Claims → OperationLine
  Mkdir : List ℕ → Claims → OperationLine
  Unlink : List ℕ → OperationLine
  Rmdir : List ℕ → OperationLine
  Rename : List ℕ → List ℕ → OperationLine
  -- a file's path, and one more for it
  Link : List ℕ → List ℕ → OperationLine
  -- its offset and its bytes
  Write : List ℕ → ℕ → List ℕ → OperationLine
  -- its length
  Truncate : List ℕ → ℕ → OperationLine
  SetAttr : List ℕ → Change → OperationLine
  Fsync : List ℕ → OperationLine
  -- where the range begins, and its length
  FsyncRange : List ℕ → ℕ → ℕ → OperationLine
  Sync : OperationLine
  Say : List ℕ → OperationLine

-- a line; one with an unknown word has nothing more
pub data Line : Type 0 where
  -- the version, and who has the root
  Header : Version → Claims → Line
  Start : StartLine → Line
  -- one more path of a file at the start, and a path that it has
  StartLink : List ℕ → List ℕ → Line
  Operation : OperationLine → Line
  UnknownStart : Line
  UnknownOperation : Line

-- spaces, tabs and carriage returns only
abbrev pub is_blank : List ℕ → Bool
is_blank line = list_all (λ c. c == 32 || c == 9 || c == 13) line

-- ---- the parts of a line

-- the text of a field that is in the line
abbrev pub text_in : Option Field → Option (List ℕ)
text_in field = option_and_then text_of field

-- a whole number below 2^64, written without sign, point and exponent
abbrev pub whole_number_of : Field → Option ℕ
whole_number_of (Text s) = None
whole_number_of (Number n) = as_u64 n
whole_number_of Other = None

-- the same of a field that is in the line
abbrev pub whole_number_in : Option Field → Option ℕ
whole_number_in field = option_and_then whole_number_of field

abbrev pub is_octal : ℕ → Bool
is_octal c = nat_le 48 c && nat_le c 55

-- three octal digits
abbrev pub permissions_in : List ℕ → Option ℕ
permissions_in [] = None
permissions_in (a ∷ []) = None
permissions_in (a ∷ b ∷ []) = None
permissions_in (a ∷ b ∷ c ∷ []) =
    if is_octal a && is_octal b && is_octal c then Some ((a - 48) * 64 + (b - 48) * 8 + (c - 48))
    else None
permissions_in (a ∷ b ∷ c ∷ d ∷ more) = None

-- the bytes that hexadecimal digits spell
abbrev pub bytes_in : Option Field → Option (List ℕ)
bytes_in field = option_and_then (λ text. result_ok (decode_of text)) (text_in field)

-- the bytes under one of two keys: digits, or a text if the version has them
abbrev pub content_by : Version → Option Field → Option Field → Option (List ℕ)
content_by version None text = if is_third version then text_in text else None
content_by version (Some bytes) text = bytes_in (Some bytes)

abbrev pub content_in : Version → Fields → Option (List ℕ)
content_in version f = content_by version f.bytes f.text

-- the permissions of a mode
abbrev pub mode_in : Option Field → Option ℕ
mode_in mode = option_and_then permissions_in (text_in mode)

-- owner, group and mode
abbrev pub claims_in : Fields → Option Claims
claims_in f =
    option_and_then (λ owner.
    option_and_then (λ group.
    option_map (λ permissions. record { owner = owner; group = group; permissions = permissions })
    (mode_in f.mode)) (text_in f.group)) (text_in f.owner)

-- a note is a text, if the version has notes
abbrev pub may_note : Version → Option Field → Bool
may_note version None = true
may_note version (Some (Text s)) = is_third version
may_note version (Some (Number n)) = false
may_note version (Some Other) = false

-- exactly so many keys, a note not counted
abbrev pub has_only : Version → ℕ → Fields → Bool
has_only version count f = has_keys count f && may_note version f.note

-- ---- headers

-- what the file system keeps in order, by its name
abbrev pub profile_named : List ℕ → Option Profile
profile_named name =
    if pointwise nat_eq name (codes "blocks") then Some Blocks
    else (if pointwise nat_eq name (codes "ordered") then Some Ordered
    else None)

abbrev pub profile_in : Option Field → Option Profile
profile_in profile = option_and_then profile_named (text_in profile)

abbrev pub block_size_in : Option Field → Option BlockSize
block_size_in block = option_and_then block_size_of_bytes (whole_number_in block)

-- the version of a header's number
abbrev pub version_of : Fields → ℕ → Option Version
version_of f number =
    if number == 1 then Some First
    else (if number == 2 then option_map Second (profile_in f.profile)
    else (if number == 3 then
    option_and_then (λ profile. option_map (Third profile) (block_size_in f.block))
    (profile_in f.profile)
    else None))

abbrev pub version_in : Fields → Option Version
version_in f = option_and_then (version_of f) (whole_number_in f.trace)

-- how many keys a header has, a note not counted
abbrev pub header_key_count : Version → ℕ
header_key_count First = 4
header_key_count (Second profile) = 5
header_key_count (Third profile block) = 6

-- a header of this version, with exactly its keys
abbrev pub header_with : Fields → Version → Option Line
header_with f version =
    if has_only version (header_key_count version) f then option_map (Header version) (claims_in f)
    else None

abbrev pub header_in : Fields → Option Line
header_in f = option_and_then (header_with f) (version_in f)

-- ---- start lines

-- the kind of this name; links are of the third version
abbrev pub kind_in : Version → List ℕ → Option StartKind
kind_in version name =
    if pointwise nat_eq name (codes "dir") then Some kind.Directory
    else (if pointwise nat_eq name (codes "file") then Some kind.File
    else (if pointwise nat_eq name (codes "link") && is_third version then Some kind.Link
    else None))

-- how many keys its line has, with `start`, but without a note
abbrev pub start_key_count : StartKind → ℕ
start_key_count kind.Directory = 5
start_key_count kind.File = 6
start_key_count kind.Link = 3

-- a file with its bytes, or a directory
abbrev pub start_with : Fields → Option (List ℕ) → Option Line
start_with f content =
    option_and_then (λ path.
    option_map (λ claims. Start (record { path = path; claims = claims; content = content }))
    (claims_in f)) (text_in f.path)

-- what a line of this kind has under its keys
abbrev pub start_under : Version → Fields → StartKind → Option Line
start_under version f kind.Directory = start_with f None
start_under version f kind.File =
    option_and_then (λ bytes. start_with f (Some bytes)) (content_in version f)
start_under version f kind.Link =
    option_and_then (λ path. option_map (StartLink path) (text_in f.from)) (text_in f.path)

-- a line of this kind, with exactly its keys
abbrev pub start_line_with : Version → Fields → StartKind → Option Line
start_line_with version f kind =
    if has_only version (start_key_count kind) f then start_under version f kind else None

-- a start line; one of no known kind says no more
abbrev pub start_line_named : Version → Fields → List ℕ → Option Line
start_line_named version f name =
    option_map_or (start_line_with version f) (kind_in version name) (Some UnknownStart)

abbrev pub start_line_in : Version → Fields → Option Line
start_line_in version f = option_and_then (start_line_named version f) (text_in f.start)

-- ---- operations

-- the operation of this name
abbrev pub verb_named : List ℕ → Option Verb
verb_named name =
    if pointwise nat_eq name (codes "creat") then Some verb.Creat
    else (if pointwise nat_eq name (codes "mkdir") then Some verb.Mkdir
    else (if pointwise nat_eq name (codes "unlink") then Some verb.Unlink
    else (if pointwise nat_eq name (codes "rmdir") then Some verb.Rmdir
    else (if pointwise nat_eq name (codes "rename") then Some verb.Rename
    else (if pointwise nat_eq name (codes "link") then Some verb.Link
    else (if pointwise nat_eq name (codes "write") then Some verb.Write
    else (if pointwise nat_eq name (codes "truncate") then Some verb.Truncate
    else (if pointwise nat_eq name (codes "chmod") then Some verb.Chmod
    else (if pointwise nat_eq name (codes "chown") then Some verb.Chown
    else (if pointwise nat_eq name (codes "fsync") then Some verb.Fsync
    else (if pointwise nat_eq name (codes "fsync_range") then Some verb.FsyncRange
    else (if pointwise nat_eq name (codes "sync") then Some verb.Sync
    else (if pointwise nat_eq name (codes "say") then Some verb.Say
    else None)))))))))))))

-- chmod and chown are of the second version on, links and syncs of a range of the third
abbrev pub belongs_to : Version → Verb → Bool
belongs_to First verb.Chmod = false
belongs_to First verb.Chown = false
belongs_to version verb.Link = is_third version
belongs_to version verb.FsyncRange = is_third version
belongs_to version v = true

-- the operation of this name in a trace of this version
abbrev pub verb_in : Version → List ℕ → Option Verb
verb_in version name =
    option_and_then (λ v. if belongs_to version v then Some v else None) (verb_named name)

-- how many keys its line has, with `op`, but without a note
abbrev pub key_count : Verb → ℕ
key_count verb.Creat = 5
key_count verb.Mkdir = 5
key_count verb.Unlink = 2
key_count verb.Rmdir = 2
key_count verb.Rename = 3
key_count verb.Link = 3
key_count verb.Write = 4
key_count verb.Truncate = 3
key_count verb.Chmod = 3
key_count verb.Chown = 4
key_count verb.Fsync = 2
key_count verb.FsyncRange = 4
key_count verb.Sync = 1
key_count verb.Say = 2

-- what the operation has under its keys
abbrev pub operation_of : Version → Verb → Fields → Option OperationLine
operation_of version verb.Creat f =
    option_and_then (λ path. option_map (Creat path) (claims_in f)) (text_in f.path)
operation_of version verb.Mkdir f =
    option_and_then (λ path. option_map (Mkdir path) (claims_in f)) (text_in f.path)
operation_of version verb.Unlink f = option_map Unlink (text_in f.path)
operation_of version verb.Rmdir f = option_map Rmdir (text_in f.path)
operation_of version verb.Rename f =
    option_and_then (λ from. option_map (Rename from) (text_in f.to)) (text_in f.from)
operation_of version verb.Link f =
    option_and_then (λ from. option_map (Link from) (text_in f.to)) (text_in f.from)
operation_of version verb.Write f =
    option_and_then (λ path.
    option_and_then (λ offset.
    option_map (Write path offset) (content_in version f))
    (whole_number_in f.offset)) (text_in f.path)
operation_of version verb.Truncate f =
    option_and_then (λ path. option_map (Truncate path) (whole_number_in f.length)) (text_in f.path)
operation_of version verb.Chmod f =
    option_and_then (λ path.
    option_map (λ permissions. SetAttr path (Mode permissions)) (mode_in f.mode)) (text_in f.path)
operation_of version verb.Chown f =
    option_and_then (λ path.
    option_and_then (λ owner.
    option_map (λ group. SetAttr path (Owner owner group)) (text_in f.group))
    (text_in f.owner)) (text_in f.path)
operation_of version verb.Fsync f = option_map Fsync (text_in f.path)
operation_of version verb.FsyncRange f =
    option_and_then (λ path.
    option_and_then (λ offset.
    option_map (FsyncRange path offset)
    (whole_number_in f.length)) (whole_number_in f.offset)) (text_in f.path)
operation_of version verb.Sync f = Some Sync
operation_of version verb.Say f = option_map Say (text_in f.text)

-- an operation with exactly its keys
abbrev pub operation_with : Version → Fields → Verb → Option Line
operation_with version f v =
    if has_only version (key_count v) f then option_map Operation (operation_of version v f)
    else None

-- an operation; one of no known name says no more
abbrev pub operation_named : Version → Fields → List ℕ → Option Line
operation_named version f name =
    option_map_or (operation_with version f) (verb_in version name) (Some UnknownOperation)

abbrev pub operation_in : Version → Fields → Option Line
operation_in version f = option_and_then (operation_named version f) (text_in f.op)

-- ---- lines; None if they are Syntax

-- a line has exactly one of the keys `trace`, `start` and `op`
abbrev pub line_by : Version → Fields → Option Field → Option Field → Option Field → Option Line
line_by version f (Some trace) None None = header_in f
line_by version f None (Some start) None = start_line_in version f
line_by version f None None (Some op) = operation_in version f
line_by version f _ _ _ = None

abbrev pub line_of : Version → Fields → Option Line
line_of version f = line_by version f f.trace f.start f.op

-- what the text of a line says in a trace of this version
unfoldable pub line_in : Version → List ℕ → Option Line
line_in version text = option_and_then (line_of version) (option_and_then fields_in (read text))
