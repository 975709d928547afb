-- How messages follow one another in a stream: each begins with its size, in four bytes, the low
-- one first, and the size counts all of the message, these four bytes among it (intro(5)).
use Rattle.std.specs.Prelude.{◌≡◌, ℕ, ◌<◌, ◌≤◌, nat_lt, if◌then◌else◌, Option, Some, None, List}
use Rattle.std.specs.Prelude.{◌++◌, length, take, IsSomeAnd, MatchOption, ⊤}
use Rattle.std.specs.Int.{w32, from_le_bytes}
use Rattle.std.specs.List.{concat, AllByRecursion}
use Rattle.cs_names.specs.declared.limits.TheConstants.{MESSAGE_BYTES}

-- the size in front, if its four bytes are there
unfoldable pub size_in : List ℕ → Option ℕ
size_in bytes = if nat_lt (length bytes) 4 then None else Some (from_le_bytes w32 (take 4 bytes))

-- a whole message: as long as its size says, with room for size, type and tag, and no longer than a
-- message may be
pub record IsWhole (message : List ℕ) : Type 0 where
  pub sized : size_in message ≡ Some (length message)
  pub at_least : 7 ≤ length message
  pub at_most : length message ≤ MESSAGE_BYTES

-- a message of which something is still to come: bytes of its size, or bytes that its size counts
abbrev pub IsUnfinished : List ℕ → Type 0
IsUnfinished bytes =
    MatchOption (size_in bytes) ⊤
    (λ size. (7 ≤ size) × (size ≤ MESSAGE_BYTES) × (length bytes < size))

-- a size in front that is below that of any message
abbrev pub IsUndersized : List ℕ → Type 0
IsUndersized bytes = IsSomeAnd (size_in bytes) (λ size. size < 7)

-- a size in front that is above that of any message
abbrev pub IsOversized : List ℕ → Type 0
IsOversized bytes = IsSomeAnd (size_in bytes) (λ size. MESSAGE_BYTES < size)

-- the bytes are these whole messages, one after the other, and the rest
pub record Begins (bytes : List ℕ) (messages : List (List ℕ)) (rest : List ℕ) : Type 0 where
  pub each : AllByRecursion IsWhole messages
  pub parts : bytes ≡ concat messages ++ rest

-- the bytes don't begin with a whole message
abbrev pub HasNoWhole : List ℕ → Type 0
HasNoWhole bytes = (message rest : List ℕ) → IsWhole message → bytes ≡ message ++ rest → ⊥

-- the whole messages of these bytes are these, and this rest has no more of them
pub record Holds (bytes : List ℕ) (messages : List (List ℕ)) (rest : List ℕ) : Type 0 where
  pub begins : Begins bytes messages rest
  pub stops : HasNoWhole rest
