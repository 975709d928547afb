-- The entries at which directories were made, as a reader keeps them; for private clauses.
use Rattle.std.specs.Prelude.{◌≡◌, ◌<◌, ◌≤◌, List, None, Some, length, map}
use Rattle.std.specs.FinMap.{get}
use Rattle.std.specs.String.{string_bytes}
use Rattle.cs_entries.specs.declared.entry.Entry.{Entry}
use Rattle.cs_entries.specs.Paths.{entry_in}
use Rattle.cs_entries.specs.Tables.{Table}
use Rattle.cs_entries.specs.declared.node.Node.TheVariants.{Directory}
use Rattle.cs_trace.specs.Operations.{place_of}
use Rattle.cs_trace.specs.declared.homes.Home.{Home}

abbrev pub home_of : Home → Entry
home_of h = entry_in h.directory (string_bytes h.name)

abbrev pub homes_in : List Home → List Entry
homes_in = map home_of

-- what the table has at the entry: the first place of it in the list, if it is there
pub record IsFirst (t : Table) (homes : List Entry) (e : Entry) : Type 0 where
  pub some : place_of e homes < length homes → get t e ≡ Some (Directory (place_of e homes))
  pub none : length homes ≤ place_of e homes → get t e ≡ None

abbrev pub AreFirst : Table → List Entry → Type 0
AreFirst t homes = (e : Entry) → IsFirst t homes e
