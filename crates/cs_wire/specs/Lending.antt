-- What a framer is after its room was lent and written to.
use Rattle.std.specs.Prelude.{ℕ, List}
use Rattle.std.specs.Borrow.{Lends, MutBor, Fml, Array, u8}
use Rattle.cs_wire.specs.Held.{Held, room_with}
use Rattle.cs_wire.specs.contracts.framer.Framer.{the_row}

-- the bytes that are there at the end of the loan are the room
abbrev pub LendsRoom : MutBor Held → MutBor (List ℕ) → Fml
LendsRoom s r = Lends the_row (Array u8 0) s r (λ w. record s.now { room = room_with s.now.room w })
