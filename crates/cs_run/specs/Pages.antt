-- What a read gives: bytes of a file, or as many whole entries of a directory as fit (read(5)).
use Rattle.std.specs.Prelude.{◌≡◌, ℕ, ◌+◌, ◌<◌, ◌≤◌, ◌-◌, ◌==◌, nat_le, min, if◌then◌else◌, List}
use Rattle.std.specs.Prelude.{[], ◌∷◌, ◌++◌, Option, None, Some, length, option_copied, unwrap_or}
use Rattle.std.specs.Prelude.{IfSome, slice_get}
use Rattle.std.specs.List.{flat_map}
use Rattle.cs_fids.specs.declared.place.Place.{Place}
use Rattle.cs_permit.specs.declared.call.ReadCall.{ReadCall}
use Rattle.cs_permit.specs.Reads.{name_before}
use Rattle.cs_permit.specs.Rules.{is_directory, on_file}
use Rattle.cs_permit.specs.Shown.{entry_bytes}
use Rattle.cs_run.specs.declared.page.Page.{Page as InMemory}
use Rattle.cs_tree_model.specs.Nexts.{names_after}
use Rattle.cs_tree_model.specs.Tree.{NameBytes, Tree, bytes_at}

-- Entries' bytes, and the last name among them.
pub record Page : Type 0 where
  pub bytes : List ℕ
  pub last : Option NameBytes

-- what a page in memory says
abbrev pub page_of : InMemory → Page
page_of p = record { bytes = p.bytes.items; last = option_copied p.last }

-- no entry after that name
abbrev pub no_more : Option NameBytes → Page
no_more last = record { bytes = []; last = last }

-- some bytes, and the page that follows
abbrev pub with_bytes_first : List ℕ → Page → Page
with_bytes_first bytes page = record page { bytes = bytes ++ page.bytes }

-- as many whole entries as fit into the room, of these names of a directory after the last one
abbrev pub page : Tree → ℕ → ℕ → Option NameBytes → List NameBytes → Page
page tree directory room last [] = no_more last
page tree directory room last (x ∷ xs) =
    if nat_le (length (entry_bytes tree directory x)) room
    then with_bytes_first (entry_bytes tree directory x)
    (page tree directory (room - length (entry_bytes tree directory x)) (Some x) xs)
    else no_more last

-- the same of all names of the directory after the last one
abbrev pub page_after : Tree → ℕ → ℕ → Option NameBytes → Page
page_after tree directory room last =
    page tree directory room last (names_after tree directory last)

-- a page has the whole entries of a front of the names, which fit; the entry of the next name, if
-- any, doesn't fit after them
pub record IsFullest (tree : Tree) (d room : ℕ) (names : List NameBytes) (p : Page) : Type 0 where
  pub front : List NameBytes
  pub rest : List NameBytes
  pub whole : names ≡ front ++ rest
  pub entries : p.bytes ≡ flat_map (entry_bytes tree d) front
  pub fits : length p.bytes ≤ room
  pub next : IfSome (slice_get rest 0) (λ x. room < length p.bytes + length (entry_bytes tree d x))

-- What a read gives: bytes, and the place of a directory's next read, if that moved.
pub record DataRead : Type 0 where
  pub bytes : List ℕ
  pub place : Option Place

-- the end of a read that gave some bytes; no end is above the greatest offset
abbrev pub end_after : ℕ → ℕ → ℕ
end_after start count = min (start + count) 0xFFFFFFFFFFFFFFFF

-- the place of a directory's next read; a read without an entry leaves the place as it was
abbrev pub place_after : ReadCall → Page → Option Place
place_after call p =
    if length p.bytes == 0 then None
    else Some (record { end = end_after call.offset (length p.bytes); last = p.last })

-- the whole entries of a directory that fit, after the last name given
abbrev pub entries_given : Tree → ReadCall → DataRead
entries_given tree call =
    let p = page_after tree call.number call.count (name_before call) in
    record { bytes = p.bytes; place = place_after call p }

-- at most so many bytes of a file, from the offset on
abbrev pub bytes_given : Tree → ReadCall → DataRead
bytes_given tree call =
    record { bytes = unwrap_or (bytes_at tree call.number call.offset call.count) []; place = None }

-- what a read gives
abbrev pub data_read : Tree → ReadCall → DataRead
data_read tree call =
    if on_file tree call.number is_directory then entries_given tree call else bytes_given tree call
