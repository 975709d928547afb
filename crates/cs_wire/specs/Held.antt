-- The buffer of a framer.
use Rattle.std.specs.Prelude.{ℕ, ◌+◌, List, ◌++◌, length, take, drop}

-- The bytes that came, how many of them were given, and the bytes of the room after them.
pub record Held : Type 0 where
  pub bytes : List ℕ
  pub place : ℕ
  pub room : List ℕ

-- the bytes that were not given yet
abbrev pub pending_bytes : Held → List ℕ
pending_bytes held = drop held.place held.bytes

-- how many bytes the buffer is long
abbrev pub size_of : Held → ℕ
size_of held = length held.bytes + length held.room

-- the room with these bytes in it from its front on; it stays as long as it is
abbrev pub room_with : List ℕ → List ℕ → List ℕ
room_with room bytes = take (length room) (bytes ++ drop (length bytes) room)

-- so many bytes of the room have come
abbrev pub after_advance : Held → ℕ → Held
after_advance held count = record {
  bytes = held.bytes ++ take count held.room;
  place = held.place;
  room = drop count held.room;
}
