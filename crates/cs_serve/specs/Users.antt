-- Which lists of users a server loads.
use Rattle.std.specs.Prelude.{◌≡◌, ◌⊎◌, IsSome, List, Ok}
use Rattle.cs_inputs.specs.declared.inputs.Inputs.{Inputs}
use Rattle.cs_options.specs.declared.serve.Serving.{Serving}
use Rattle.cs_users.specs.Reading.{users_in}
use Rattle.cs_users.specs.Rows.{Row}

-- the list that the users file of the inputs spells
abbrev pub AreGiven : Inputs → List Row → Type 0
AreGiven inputs users = users_in inputs.users.now ≡ Ok users

-- that list, and any other only if the file is read again
abbrev pub MayBeLoaded : Inputs → Serving → List Row → Type 0
MayBeLoaded inputs serving users = AreGiven inputs users ⊎ IsSome serving.reload
