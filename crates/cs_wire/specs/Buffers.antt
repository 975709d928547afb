-- What a framer answers to a call for the next message.
use Rattle.std.specs.Prelude.{◌≡◌, ℕ, ◌+◌, List, ◌++◌, length, take, ◌≤◌, Result, Ok, Err, Option}
use Rattle.std.specs.Prelude.{Some, None}
use Rattle.std.specs.Borrow.{Bor}
use Rattle.cs_wire.specs.declared.framer.FrameFault.{FrameFault}
use Rattle.cs_wire.specs.declared.framer.FrameFault.TheVariants.{Undersize, Oversize, Cut}
use Rattle.cs_wire.specs.Framing.{IsWhole, IsUnfinished, IsUndersized, IsOversized}
use Rattle.cs_wire.specs.Held.{Held, pending_bytes}

-- the whole message in front is given, and the place is then after it; no byte moves
pub record GoesOn (message : List ℕ) (old new : Held) : Type 0 where
  pub whole : IsWhole message
  pub front : pending_bytes old ≡ message ++ pending_bytes new
  pub moves : new ≡ record old { place = old.place + length message }

-- what a call for the next message answers of the bytes that are left, and what it leaves
abbrev pub NextGives : Result (Option (Bor (List ℕ))) FrameFault → Held → Held → Type 0
NextGives (Ok (Some message)) old new = GoesOn message.now old new
NextGives (Ok None) old new = IsUnfinished (pending_bytes old) × (new ≡ old)
NextGives (Err Undersize) old new = IsUndersized (pending_bytes old) × (new ≡ old)
NextGives (Err Oversize) old new = IsOversized (pending_bytes old) × (new ≡ old)
NextGives (Err Cut) old new = ⊥

-- the size of the whole message that the bytes begin with, None if it isn't there, or why there is
-- none
abbrev pub FrontIs : Result (Option ℕ) FrameFault → List ℕ → Type 0
FrontIs (Ok (Some size)) bytes =
    (size ≤ length bytes) × IsWhole (take size bytes) × (length (take size bytes) ≡ size)
FrontIs (Ok None) bytes = IsUnfinished bytes
FrontIs (Err Undersize) bytes = IsUndersized bytes
FrontIs (Err Oversize) bytes = IsOversized bytes
FrontIs (Err Cut) bytes = ⊥
