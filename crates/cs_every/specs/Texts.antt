-- Sets as lines of a picks file, and their number.
use Rattle.std.specs.Prelude.{ℕ, ◌^◌, List, [], ◌∷◌, ◌++◌, codes, decimal, nat_lt, if◌then◌else◌}
use Rattle.std.specs.List.{flat_map}

-- a comma and the number of each place
abbrev pub others_text : List ℕ → List ℕ
others_text places = flat_map (λ k. codes "," ++ decimal k) places

-- an array with commas between, and a line feed
abbrev pub pick_line : List ℕ → List ℕ
pick_line [] = codes "[]\n"
pick_line (place ∷ places) =
    codes "[" ++ (decimal place ++ (others_text places ++ codes "]\n"))

abbrev pub picks_text : List (List ℕ) → List ℕ
picks_text sets = flat_map pick_line sets

-- a number below 2 ^ 64, or that it is more, and a line feed
abbrev pub count_text : ℕ → List ℕ
count_text count =
    (if nat_lt count (2 ^ 64) then decimal count else codes "more than 18446744073709551615") ++ codes "\n"
