-- When entries are a tree, and when an operation is legal in them.
use Rattle.std.specs.Prelude.{◌≡◌, ◌≢◌, ℕ, zero, suc, Option, None, Some}
use Rattle.cs_entries.specs.Entries.{Entries, Entry}
use Rattle.cs_entries.specs.Entries.{EntryOp, Create, Link, Delete, Move, Other}
use Rattle.cs_entries.specs.declared.node.Node.{Node}
use Rattle.cs_entries.specs.declared.node.Node.TheVariants.{Directory, File}

-- so many entries lead from the root down to the directory, each of which passes
abbrev pub Way : Entries → (Entry → Type 0) → ℕ → ℕ → Type 0
Way m passes zero d = d ≡ 0
Way m passes (suc n) d =
    (f : Entry) × (m f ≡ Some (Directory d)) × (passes f) × Way m passes n f.directory

abbrev pub Any : Entry → Type 0
Any e = Unit {0}

abbrev pub IsReached : Entries → (Entry → Type 0) → ℕ → Type 0
IsReached m passes d = (n : ℕ) × Way m passes n d

abbrev pub IsHeld : Entries → ℕ → Type 0
IsHeld m d = (e : Entry) × (m e ≡ Some (Directory d))

abbrev pub IsEmpty : Entries → ℕ → Type 0
IsEmpty m d = (e : Entry) → e.directory ≡ d → m e ≡ None

abbrev pub HasEntry : Entries → ℕ → Type 0
HasEntry m d = (e : Entry) × (node : Node) × (e.directory ≡ d) × (m e ≡ Some node)

-- each entry is reached from the root, a directory has one entry, and the root has none
pub record IsTree (m : Entries) : Type 0 where
  pub reached : (e : Entry) (node : Node) → m e ≡ Some node → IsReached m Any e.directory
  pub one : (e f : Entry) (d : ℕ) → m e ≡ Some (Directory d) → m f ≡ Some (Directory d) → e ≡ f
  pub root : (e : Entry) → m e ≢ Some (Directory 0)

-- if what is put is a directory, it isn't the root, and no entry holds it yet
abbrev pub IsNew : Entries → Node → Type 0
IsNew m (Directory d) = (d ≢ 0) × ((f : Entry) → m f ≢ Some (Directory d))
IsNew m (File kind file) = Unit {0}

-- if this is a directory, it has no entry
abbrev pub IsBare : Entries → Option Node → Type 0
IsBare m held = (d : ℕ) → held ≡ Some (Directory d) → IsEmpty m d

abbrev pub IsLegal : Entries → EntryOp → Type 0
IsLegal m (Create e node) = (m e ≡ None) × IsReached m Any e.directory × IsNew m node
IsLegal m (Link e kind file) =
    ((d : ℕ) → m e ≢ Some (Directory d)) × IsReached m Any e.directory
IsLegal m (Delete e node) = (m e ≡ Some node) × IsBare m (Some node)
IsLegal m (Move a b node old) =
    (a ≢ b) × (m a ≡ Some node) × (m b ≡ old) × IsBare m old
    × IsReached m (λ f. f ≢ a) b.directory
IsLegal m Other = Unit {0}
