-- A picks file: an array of places a line.
use Rattle.std.specs.Prelude.{ℕ, ◌+◌, List, [], ◌∷◌, ◌++◌, Option, None, Some, option_map, Result}
use Rattle.std.specs.Prelude.{Ok, Err}
use Rattle.cs_names.specs.Pieces.{pieces}
use Rattle.cs_inputs.specs.PickLines.{pick_in}
use Rattle.cs_inputs.specs.declared.picks_fault.PicksFault.{PicksFault}
use Rattle.cs_inputs.specs.declared.picks_fault.PicksFault.TheVariants.{Syntax}

-- an empty line has no pick, and any other line has one
abbrev pub picks_on : List ℕ → Option (List (List ℕ))
picks_on [] = Some []
picks_on (c ∷ line) = option_map (λ pick. pick ∷ []) (pick_in (c ∷ line))

-- picks in front of others, if there are no faults
abbrev pub with_picks_first : List (List ℕ) → Result (List (List ℕ)) PicksFault
    → Result (List (List ℕ)) PicksFault
with_picks_first picks (Ok others) = Ok (picks ++ others)
with_picks_first picks (Err fault) = Err fault

-- those of the line of that number, in front of those of later lines
abbrev pub with_line : ℕ → Option (List (List ℕ)) → Result (List (List ℕ)) PicksFault
    → Result (List (List ℕ)) PicksFault
with_line number None later = Err (Syntax number)
with_line number (Some picks) later = with_picks_first picks later

-- the picks of lines, of which the first has the number; or the number of the first that is no
-- array of places
abbrev pub picks_from : ℕ → List (List ℕ) → Result (List (List ℕ)) PicksFault
picks_from number [] = Ok []
picks_from number (line ∷ lines) = with_line number (picks_on line) (picks_from (number + 1) lines)

-- lines are cut at line feeds and counted from 1
unfoldable pub picks_in : List ℕ → Result (List (List ℕ)) PicksFault
picks_in bytes = picks_from 1 (pieces 10 bytes)
