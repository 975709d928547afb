-- What calls that read answer.
use Rattle.std.specs.Prelude.{◌≡◌, ◌≢◌, ◌++◌, [], true, List, ℕ, Result, Ok, Err, IsOkAnd}
use Rattle.cs_wire.specs.declared.fault.WireFault.{WireFault}
use Rattle.cs_wire.specs.declared.fault.WireFault.TheVariants as faults
use Rattle.cs_wire.specs.Messages.{Side, Message, Fits, spelling, takes_memory}
use Rattle.cs_wire.specs.Reading.{message_of}

-- the fault is the first one of reading, which is never out of memory
abbrev pub IsFault : {Y : Type 0} → WireFault → Result Y WireFault → Type 0
IsFault e read = (read ≡ Err e) × (e ≢ faults.Memory)

-- what a call answered, seen by view, is what reading gives
abbrev pub IsSeenAs : {X Y : Type 0} → (X → Y) → Result X WireFault → Result Y WireFault → Type 0
IsSeenAs view (Ok x) read = read ≡ Ok (view x)
IsSeenAs view (Err e) read = IsFault e read

-- what a call answered, seen by view, and the rest of the bytes that it leaves, are what reading
-- gives; after a fault any rest may be left
abbrev pub IsFrontSeenAs : {X Y : Type 0} → (X → Y) → Result X WireFault → List ℕ
    → Result (Y × List ℕ) WireFault → Type 0
IsFrontSeenAs view (Ok x) rest read = read ≡ Ok (view x, rest)
IsFrontSeenAs view (Err e) rest read = IsFault e read

-- the message that was read takes memory
abbrev pub ReadsSome : {K : Type 0} {side : Side K} → Result (Message side) WireFault → Type 0
ReadsSome read = IsOkAnd read (λ m. takes_memory m ≡ true)

-- the bytes are a message that takes memory
abbrev pub TakesMemory : {K : Type 0} → Side K → List ℕ → Type 0
TakesMemory side bytes = ReadsSome (message_of side bytes)

-- the fault is the first one of reading; memory ran out only if what is read takes some
abbrev pub FailsLast : {K : Type 0} {side : Side K} → WireFault → Result (Message side) WireFault
    → Type 0
FailsLast e read = (e ≢ faults.Memory → read ≡ Err e) × (e ≡ faults.Memory → ReadsSome read)

-- what a call answered, seen by view, is what reading gives, and out of memory comes last
abbrev pub IsSeenAsOrMemory : {X K : Type 0} {side : Side K} → (X → Message side)
    → Result X WireFault → Result (Message side) WireFault → Type 0
IsSeenAsOrMemory view (Ok x) read = read ≡ Ok (view x)
IsSeenAsOrMemory view (Err e) read = FailsLast e read

-- the fault is the first one of reading, unless memory ran out
abbrev pub Fails : {Y : Type 0} → WireFault → Result Y WireFault → Type 0
Fails faults.Memory read = Unit {0}
Fails e read = read ≡ Err e

-- what a call answered, seen by view, is what reading gives, unless memory ran out
abbrev pub Gives : {X Y : Type 0} → (X → Y) → Result X WireFault → Result Y WireFault → Type 0
Gives view (Ok x) read = read ≡ Ok (view x)
Gives view (Err e) read = Fails e read

-- what is written of a message that fits, into an empty vector, is read back as that message,
-- unless memory ran out
abbrev pub IsReadBack : {K M : Type 0} → (side : Side K) → (M → Message side) → Type 0
IsReadBack {K} {M} side view =
    (m : M) (written : List ℕ) (answer : Result M WireFault) → Fits (view m)
    → written ≡ [] ++ spelling (view m) → Gives view answer (message_of side written)
    → Gives view answer (Ok (view m))
