-- The result of reading a users file again.
use Rattle.std.specs.Prelude.{◌≡◌, List, Result, Ok, Err, IsOk, MatchResult}
use Rattle.cs_users.specs.Rows.{Row}
use Rattle.cs_users.specs.declared.fault.UsersFault.{UsersFault}
use Rattle.cs_users.specs.declared.fault.UsersFault.TheVariants.{Memory}

-- a file of these rows has no fault, or there is no memory; one with this fault is refused by it
abbrev pub Loads : Result (List Row) UsersFault → Result Unit UsersFault → Type 0
Loads file (Ok _) = IsOk file
Loads file (Err fault) = MatchResult file (λ _. fault ≡ Memory) (λ first. fault ≡ first)
