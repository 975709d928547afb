-- Names in the texts of a message.
use Rattle.std.specs.Prelude.{ℕ, List, Option}
use Rattle.std.specs.Result.{result_ok}
use Rattle.cs_names.specs.Legal.{name_in, user_name_in}

-- the name of a user that the bytes are, if they are one
abbrev pub user_in : List ℕ → Option (List ℕ)
user_in bytes = result_ok (user_name_in bytes)

-- the name of a file that the bytes are, if they are one
abbrev pub file_in : List ℕ → Option (List ℕ)
file_in bytes = result_ok (name_in bytes)
