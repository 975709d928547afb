-- A stream that comes in pieces, and whose messages are taken in between.
use Rattle.std.specs.Prelude.{◌≡◌, ℕ, List, [], ◌∷◌, ◌++◌}
use Rattle.cs_wire.specs.Framing.{IsWhole}

-- A call of a framer: it took a piece, or gave a message.
pub data Call : Type 0 where
  Fed : (piece : List ℕ) → Call
  Gave : (message : List ℕ) → Call

-- the pieces, joined
abbrev pub bytes_fed : List Call → List ℕ
bytes_fed [] = []
bytes_fed (Fed piece ∷ calls) = piece ++ bytes_fed calls
bytes_fed (Gave message ∷ calls) = bytes_fed calls

-- the messages
abbrev pub messages_given : List Call → List (List ℕ)
messages_given [] = []
messages_given (Fed piece ∷ calls) = messages_given calls
messages_given (Gave message ∷ calls) = message ∷ messages_given calls

-- the bytes that are left after these calls, one after the other: a piece comes last, and a whole
-- message goes first
abbrev pub Leaves : List ℕ → List Call → List ℕ → Type 0
Leaves left [] rest = rest ≡ left
Leaves left (Fed piece ∷ calls) rest = Leaves (left ++ piece) calls rest
Leaves left (Gave message ∷ calls) rest =
    (after : List ℕ) × (IsWhole message × (left ≡ message ++ after) × Leaves after calls rest)
