-- Reading from left to right, up to the first fault.
use Rattle.std.specs.Prelude.{ℕ, zero, suc, List, [], ◌∷◌, length, take, drop, Option, Some, None}
use Rattle.std.specs.Prelude.{Result, Ok, Err, nat_lt, ◌==◌, if◌then◌else◌}
use Rattle.std.specs.Int.{Width, w8, w16, w32, w64, byte_len, from_le_bytes}
use Rattle.cs_names.specs.declared.limits.TheConstants.{WALK_NAMES}
use Rattle.cs_wire.specs.declared.fault.WireFault.{WireFault}
use Rattle.cs_wire.specs.declared.fault.WireFault.TheVariants.{Short, SizeLies, UnknownType}
use Rattle.cs_wire.specs.declared.fault.WireFault.TheVariants.{BadText, TooManyNames, Trailing}
use Rattle.cs_wire.specs.Fields.{Shape, Nothing, One, Two, Four, Eight, Text, Raw, Several, Boxed}
use Rattle.cs_wire.specs.Fields.{◌▸◌, Value, is_text}
use Rattle.cs_wire.specs.Messages.{Side, Message}

-- the next step, if none failed so far
infixl 10 ◌>>=◌
abbrev pub ◌>>=◌ : {A B : Type 0} → Result A WireFault → (A → Result B WireFault)
    → Result B WireFault
(Ok x) >>= f = f x
(Err e) >>= f = Err e

-- so many bytes, and those after them
abbrev pub front_at : ℕ → List ℕ → Result (List ℕ × List ℕ) WireFault
front_at n bytes = if nat_lt (length bytes) n then Err Short else Ok (take n bytes, drop n bytes)

-- a number, the low byte first, and the bytes after it
abbrev pub number_at : Width → List ℕ → Result (ℕ × List ℕ) WireFault
number_at w bytes = do
  front ← front_at (byte_len w) bytes
  Ok (from_le_bytes w front.0, front.1)

-- a text, and the bytes after it
unfoldable pub text_at : List ℕ → Result (List ℕ × List ℕ) WireFault
text_at bytes = do
  count ← number_at w16 bytes
  text ← front_at count.0 count.1
  if is_text text.0 then Ok text else Err BadText

-- a count of bytes and these, and the bytes after them
unfoldable pub raw_at : List ℕ → Result (List ℕ × List ℕ) WireFault
raw_at bytes = do
  count ← number_at w32 bytes
  front_at count.0 count.1

-- the same field, so many times
unfoldable pub times_at : {A : Type 0} → (List ℕ → Result (A × List ℕ) WireFault) → ℕ → List ℕ
    → Result (List A × List ℕ) WireFault
times_at read zero bytes = Ok ([], bytes)
times_at read (suc n) bytes = do
  first ← read bytes
  others ← times_at read n first.1
  Ok (first.0 ∷ others.0, others.1)

-- a count and that many fields, and the bytes after them
unfoldable pub several_at : {A : Type 0} → (List ℕ → Result (A × List ℕ) WireFault) → List ℕ
    → Result (List A × List ℕ) WireFault
several_at read bytes = do
  count ← number_at w16 bytes
  if nat_lt WALK_NAMES count.0 then Err TooManyNames else times_at read count.0 count.1

-- that no byte is left
abbrev pub end_at : List ℕ → Result (Unit {0}) WireFault
end_at bytes = if length bytes == 0 then Ok tt else Err Trailing

-- what was read, if no byte is left
abbrev pub or_trailing : {A : Type 0} → Result (A × List ℕ) WireFault → Result A WireFault
or_trailing read = read >>= λ x. if length x.1 == 0 then Ok x.0 else Err Trailing

-- what runs past the end of an entry, or leaves bytes in it, says that the entry's sizes lie
abbrev pub or_size_lies : {A : Type 0} → Result A WireFault → Result A WireFault
or_size_lies (Ok x) = Ok x
or_size_lies (Err Short) = Err SizeLies
or_size_lies (Err Trailing) = Err SizeLies
or_size_lies (Err e) = Err e

-- a size that is the length of what follows it, and fields in all of that
unfoldable pub sized_in : {A : Type 0} → (List ℕ → Result (A × List ℕ) WireFault) → List ℕ
    → Result A WireFault
sized_in read bytes = do
  size ← number_at w16 bytes
  if size.0 == length size.1 then or_trailing (read size.1) else Err SizeLies

-- an entry in all of the bytes
abbrev pub entry_in : {A : Type 0} → (List ℕ → Result (A × List ℕ) WireFault) → List ℕ
    → Result A WireFault
entry_in read bytes = or_size_lies (sized_in read bytes)

-- a length and an entry of that length, and the bytes after it
unfoldable pub boxed_at : {A : Type 0} → (List ℕ → Result (A × List ℕ) WireFault) → List ℕ
    → Result (A × List ℕ) WireFault
boxed_at read bytes = do
  count ← number_at w16 bytes
  front ← front_at count.0 count.1
  value ← entry_in read front.0
  Ok (value, front.1)

-- the value that the bytes begin with, and the bytes after it
unfoldable pub field_at : (s : Shape) → List ℕ → Result (Value s × List ℕ) WireFault
field_at Nothing bytes = Ok (tt, bytes)
field_at One bytes = number_at w8 bytes
field_at Two bytes = number_at w16 bytes
field_at Four bytes = number_at w32 bytes
field_at Eight bytes = number_at w64 bytes
field_at Text bytes = text_at bytes
field_at Raw bytes = raw_at bytes
field_at (Several s) bytes = several_at (field_at s) bytes
field_at (Boxed s) bytes = boxed_at (field_at s) bytes
field_at (s ▸ t) bytes = do
  first ← field_at s bytes
  second ← field_at t first.1
  Ok ((first.0, second.0), second.1)

-- type, tag and the fields' bytes of what is as long as its size says
unfoldable pub header_at : List ℕ → Result (ℕ × ℕ × List ℕ) WireFault
header_at bytes = if nat_lt (length bytes) 7 then Err Short else do
  size ← number_at w32 bytes
  number ← number_at w8 size.1
  tag ← number_at w16 number.1
  if size.0 == length bytes then Ok (number.0, tag.0, tag.1) else Err SizeLies

-- a type that the table has
abbrev pub kind_or_unknown : {K : Type 0} → Option K → Result K WireFault
kind_or_unknown (Some kind) = Ok kind
kind_or_unknown None = Err UnknownType

-- a message of that type and tag, whose fields are all of the bytes
unfoldable pub all_of : {K : Type 0} → (side : Side K) → K → ℕ → List ℕ
    → Result (Message side) WireFault
all_of side kind tag bytes = do
  fields ← or_trailing (field_at (side.layout kind) bytes)
  Ok (record { kind = kind; tag = tag; fields = fields })

-- the message that all of the bytes are, or the first fault
unfoldable pub message_of : {K : Type 0} → (side : Side K) → List ℕ
    → Result (Message side) WireFault
message_of side bytes = do
  header ← header_at bytes
  kind ← kind_or_unknown (side.kind_of header.0)
  all_of side kind header.1 header.2
