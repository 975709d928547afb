-- Entries of directories, what they hold, and the operations that change them.
use Rattle.std.specs.Prelude.{◌≡◌, ◌==◌, ◌&&◌, ◌||◌, ℕ, zero, suc, Bool, true, false, cond}
use Rattle.std.specs.Prelude.{Option, None, Some}
use Rattle.cs_names.specs.Texts.{same_bytes}
pub use Rattle.cs_entries.specs.declared.entry.Entry.{Entry}
use Rattle.cs_entries.specs.declared.node.FileKind.{FileKind}
use Rattle.cs_entries.specs.declared.node.Node.{Node}
use Rattle.cs_entries.specs.declared.node.Node.TheVariants.{Directory, File}

-- what each entry holds: a directory, a file or a symbolic link, by its number
abbrev pub Entries : Type 0
Entries = Entry → Option Node

abbrev pub entry_eq : Entry → Entry → Bool
entry_eq e f = e.directory == f.directory && same_bytes e.name f.name

-- an operation on entries: the entries that it touches, what it puts or takes there, and what it
-- replaces
pub data EntryOp : Type 0 where
  Create : Entry → Node → EntryOp
  -- one more entry for a file
  Link : Entry → FileKind → ℕ → EntryOp
  Delete : Entry → Node → EntryOp
  -- from an entry to another, what it moves, and what was there
  Move : Entry → Entry → Node → Option Node → EntryOp
  -- no entry is touched
  Other : EntryOp

abbrev pub put : Entries → Entry → Option Node → Entries
put m e held = λ q. cond (entry_eq e q) held (m q)

-- what each entry holds after it
abbrev pub after : Entries → EntryOp → Entries
after m (Create e node) = put m e (Some node)
after m (Link e kind file) = put m e (Some (File kind file))
after m (Delete e node) = put m e None
after m (Move a b node old) = put (put m a None) b (m a)
after m Other = m

abbrev pub touches : EntryOp → Entry → Bool
touches (Create e node) q = entry_eq e q
touches (Link e kind file) q = entry_eq e q
touches (Delete e node) q = entry_eq e q
touches (Move a b node old) q = entry_eq a q || entry_eq b q
touches Other q = false

-- it removes the directory: a delete of it, or a move that replaces it
abbrev pub Removes : EntryOp → ℕ → Type 0
Removes (Delete e (Directory c)) d = c ≡ d
Removes (Move a b node (Some (Directory c))) d = c ≡ d
Removes _ d = ⊥

-- it moves a directory
abbrev pub MovesDirectory : EntryOp → Type 0
MovesDirectory (Move a b (Directory d) old) = Unit {0}
MovesDirectory _ = ⊥

-- what the entries hold after the first k operations that the set has
abbrev pub state : (ℕ → Bool) → Entries → (ℕ → EntryOp) → ℕ → Entries
state has start ops zero = start
state has start ops (suc k) =
    λ e. cond (has k) (after (state has start ops k) (ops k) e) (state has start ops k e)

abbrev pub all : ℕ → Bool
all i = true
