-- Which operation needs which, by the rules that speak of entries, as tests.
use Rattle.std.specs.Prelude.{◌≡◌, ◌-◌, ◌+◌, ◌==◌, ◌&&◌, ◌||◌, not, nat_lt, ℕ, Bool, true, false, List, [], ◌∷◌, Some}
use Rattle.std.specs.List.{list_any, range_with_len}
use Rattle.cs_entries.specs.Entries.{Entry, touches}
use Rattle.cs_entries.specs.Entries.{EntryOp, Create, Link, Delete, Move, Other}
use Rattle.cs_entries.specs.declared.node.Node.TheVariants.{Directory}

abbrev pub entries_touched : EntryOp → List Entry
entries_touched (Create e node) = e ∷ []
entries_touched (Link e kind file) = e ∷ []
entries_touched (Delete e node) = e ∷ []
entries_touched (Move a b node old) = a ∷ b ∷ []
entries_touched Other = []

-- it makes the directory
abbrev pub makes : EntryOp → ℕ → Bool
makes (Create e (Directory c)) d = c == d
makes _ d = false

-- it removes the directory
abbrev pub removes : EntryOp → ℕ → Bool
removes (Delete e (Directory c)) d = c == d
removes (Move a b node (Some (Directory c))) d = c == d
removes _ d = false

abbrev pub moves_directory : EntryOp → Bool
moves_directory (Move a b (Directory d) old) = true
moves_directory _ = false

-- P2: both touch one entry
abbrev pub shares_entry : EntryOp → EntryOp → Bool
shares_entry a b = list_any (touches a) (entries_touched b)

-- the places after i and before j
abbrev pub places_between : ℕ → ℕ → List ℕ
places_between i j = range_with_len (i + 1) (j - (i + 1))

-- i is the latest before j that makes the directory
unfoldable pub is_latest : (ℕ → EntryOp) → ℕ → ℕ → ℕ → Bool
is_latest ops i j d =
    makes (ops i) d && not (list_any (λ k. makes (ops k) d) (places_between i j))

-- P3: i is the latest before j that makes the directory in which j touches an entry
abbrev pub makes_directory : (ℕ → EntryOp) → ℕ → ℕ → Bool
makes_directory ops i j = list_any (λ e. is_latest ops i j e.directory) (entries_touched (ops j))

-- P4: b removes a directory in which a touches an entry
abbrev pub empties : EntryOp → EntryOp → Bool
empties a b = list_any (λ e. removes b e.directory) (entries_touched a)

abbrev pub needs : (ℕ → EntryOp) → ℕ → ℕ → Bool
needs ops i j =
    nat_lt i j
    && (shares_entry (ops i) (ops j) || makes_directory ops i j || empties (ops i) (ops j)
    || moves_directory (ops i) && moves_directory (ops j))

-- with each place the set has what it needs
abbrev pub IsClosed : (ℕ → ℕ → Bool) → (ℕ → Bool) → Type 0
IsClosed needs has = (i j : ℕ) → has j ≡ true → needs i j ≡ true → has i ≡ true
