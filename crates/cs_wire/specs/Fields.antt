-- The fields of messages: what each holds, and its one spelling.
use Rattle.std.specs.Prelude.{ℕ, ◌<◌, ◌≤◌, ◌+◌, ◌^◌, ◌≡◌, Bool, true, false, not, ◌&&◌, ◌||◌, ◌==◌}
use Rattle.std.specs.Prelude.{nat_lt, if◌then◌else◌, Option, Some, None, List, [], ◌∷◌, ◌++◌}
use Rattle.std.specs.Prelude.{length}
use Rattle.std.specs.List.{flat_map, list_any, AllByRecursion}
use Rattle.std.specs.Int.{w8, w16, w32, w64, to_le_bytes}
use Rattle.std.specs.Str.{is_utf8}
use Rattle.cs_names.specs.declared.limits.TheConstants.{WALK_NAMES}

infixr 20 ◌▸◌
-- The shape of what a message holds: a field, or fields in a row.
pub data Shape : Type 0 where
  -- no field
  Nothing : Shape
  -- a number of one byte, of two, four or eight, the low byte first
  One : Shape
  Two : Shape
  Four : Shape
  Eight : Shape
  -- two bytes of length, and that many bytes of text
  Text : Shape
  -- four bytes of length, and that many bytes
  Raw : Shape
  -- a count of two bytes, at most as many as a walk can have, and that many
  Several : Shape → Shape
  -- two bytes of length, and an entry of that length
  Boxed : Shape → Shape
  -- one after the other
  ◌▸◌ : Shape → Shape → Shape

-- what such a field holds
abbrev pub Value : Shape → Type 0
Value Nothing = Unit {0}
Value One = ℕ
Value Two = ℕ
Value Four = ℕ
Value Eight = ℕ
Value Text = List ℕ
Value Raw = List ℕ
Value (Several s) = List (Value s)
Value (Boxed s) = Value s
Value (s ▸ t) = Value s × Value t

-- there is an item
abbrev pub has_some : {A : Type 0} → List A → Bool
has_some items = not (length items == 0)

-- the field holds a byte of a text or of data, or an item of a list
abbrev pub holds_bytes : (s : Shape) → Value s → Bool
holds_bytes Text v = has_some v
holds_bytes Raw v = has_some v
holds_bytes (Several s) v = has_some v
holds_bytes (Boxed s) v = holds_bytes s v
holds_bytes (s ▸ t) v = holds_bytes s v.0 || holds_bytes t v.1
holds_bytes number v = false

-- valid UTF-8 without NUL
unfoldable pub is_text : List ℕ → Bool
is_text bytes = is_utf8 bytes && not (list_any (λ b. b == 0) bytes)

-- an entry: its length without these two bytes, and its fields
abbrev pub entry : List ℕ → List ℕ
entry fields = to_le_bytes w16 (length fields) ++ fields

-- the bytes of a field that holds this
unfoldable pub bytes_of_field : (s : Shape) → Value s → List ℕ
bytes_of_field Nothing v = []
bytes_of_field One v = to_le_bytes w8 v
bytes_of_field Two v = to_le_bytes w16 v
bytes_of_field Four v = to_le_bytes w32 v
bytes_of_field Eight v = to_le_bytes w64 v
bytes_of_field Text v = to_le_bytes w16 (length v) ++ v
bytes_of_field Raw v = to_le_bytes w32 (length v) ++ v
bytes_of_field (Several s) v = to_le_bytes w16 (length v) ++ flat_map (bytes_of_field s) v
bytes_of_field (Boxed s) v =
    to_le_bytes w16 (length (entry (bytes_of_field s v))) ++ entry (bytes_of_field s v)
bytes_of_field (s ▸ t) v = bytes_of_field s v.0 ++ bytes_of_field t v.1

-- a field can hold this
abbrev pub IsIn : (s : Shape) → Value s → Type 0
IsIn Nothing v = Unit {0}
IsIn One v = v < 2 ^ 8
IsIn Two v = v < 2 ^ 16
IsIn Four v = v < 2 ^ 32
IsIn Eight v = v < 2 ^ 64
IsIn Text v = (length v < 2 ^ 16) × (is_text v ≡ true)
IsIn Raw v = length v < 2 ^ 32
IsIn (Several s) v = (length v ≤ WALK_NAMES) × AllByRecursion (IsIn s) v
IsIn (Boxed s) v = IsIn s v × (length (entry (bytes_of_field s v)) < 2 ^ 16)
IsIn (s ▸ t) v = IsIn s v.0 × IsIn t v.1

-- the sum, if both are there
abbrev pub sum_if_both : Option ℕ → Option ℕ → Option ℕ
sum_if_both (Some n) (Some m) = Some (n + m)
sum_if_both (Some n) None = None
sum_if_both None m = None

-- the number, if the test holds
abbrev pub number_if : Bool → ℕ → Option ℕ
number_if holds n = if holds then Some n else None

-- how many bytes a list's items take, if each can be spelled
unfoldable pub sizes_of : {A : Type 0} → (A → Option ℕ) → List A → Option ℕ
sizes_of size [] = Some 0
sizes_of size (v ∷ vs) = sum_if_both (size v) (sizes_of size vs)

-- an entry's size above its fields', if it is less than 65,536
abbrev pub entry_size : Option ℕ → Option ℕ
entry_size (Some n) = number_if (nat_lt (n + 2) (2 ^ 16)) (n + 2)
entry_size None = None

-- how many bytes the field takes, if it can hold this
unfoldable pub size_of : (s : Shape) → Value s → Option ℕ
size_of Nothing v = Some 0
size_of One v = number_if (nat_lt v (2 ^ 8)) 1
size_of Two v = number_if (nat_lt v (2 ^ 16)) 2
size_of Four v = number_if (nat_lt v (2 ^ 32)) 4
size_of Eight v = number_if (nat_lt v (2 ^ 64)) 8
size_of Text v = number_if (nat_lt (length v) (2 ^ 16) && is_text v) (length v + 2)
size_of Raw v = number_if (nat_lt (length v) (2 ^ 32)) (length v + 4)
size_of (Several s) v =
    if nat_lt WALK_NAMES (length v) then None else sum_if_both (Some 2) (sizes_of (size_of s) v)
size_of (Boxed s) v = sum_if_both (Some 2) (entry_size (size_of s v))
size_of (s ▸ t) v = sum_if_both (size_of s v.0) (size_of t v.1)
