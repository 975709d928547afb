-- The key of the run that a tree's name means.
use Rattle.std.specs.Prelude.{ℕ, ◌+◌, ◌-◌, ◌*◌, ◌&&◌, nat_le, Bool, fold, List, length}
use Rattle.std.specs.Prelude.{Option, None, Some, if◌then◌else◌}
use Rattle.std.specs.Char.{is_ascii_digit}
use Rattle.std.specs.List.{list_all}
use Rattle.cs_names.specs.Legal.{is_run_name}
use Rattle.cs_registry.specs.Keys.{Key}

-- the number that decimal digits mean
abbrev pub number_in : List ℕ → ℕ
number_in digits = fold (λ n digit. 10 * n + (digit - 48)) 0 digits

-- at most five decimal digits, as a state's number has
abbrev pub are_few_digits : List ℕ → Bool
are_few_digits bytes = nat_le (length bytes) 5 && list_all is_ascii_digit bytes

-- the key of the run that a tree's name means, if its parts are a number and a run's name
abbrev pub key_in : List ℕ → List ℕ → Option Key
key_in state name =
    if are_few_digits state && is_run_name name
    then Some (record { number = number_in state; name = name })
    else None
