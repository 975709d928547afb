-- A line of a picks file, through what `serde_json` reads as a value: an array of places.
use Rattle.std.specs.Prelude.{ℕ, ◌^◌, nat_lt, if◌then◌else◌, List, [], ◌∷◌, Option, None, Some}
use Rattle.std.specs.Prelude.{option_map, option_and_then}
use Rattle.std.specs.Str.{is_utf8}
use Rattle.serde_json.specs.Data.{Data, Items, no_items, item}
use Rattle.serde_json.specs.Find.{as_array, as_number, as_u64}
use Rattle.serde_json.specs.Read.{read}

-- what fits 32 bits
abbrev pub number_of_32_bits : ℕ → Option ℕ
number_of_32_bits number = if nat_lt number (2 ^ 32) then Some number else None

-- a whole number without sign, point or exponent, of at most 32 bits
abbrev pub place_of : Data → Option ℕ
place_of value = option_and_then number_of_32_bits (option_and_then as_u64 (as_number value))

-- a place in front of others
abbrev pub with_place : Option ℕ → Option (List ℕ) → Option (List ℕ)
with_place None others = None
with_place (Some place) others = option_map (λ places. place ∷ places) others

-- each item is a place
abbrev pub places_of : Items → Option (List ℕ)
places_of no_items = Some []
places_of (item value values) = with_place (place_of value) (places_of values)

-- the places that an array has
abbrev pub places_in : Data → Option (List ℕ)
places_in value = option_and_then places_of (as_array value)

-- the places that a line has
unfoldable pub pick_in : List ℕ → Option (List ℕ)
pick_in line = if is_utf8 line then option_and_then places_in (read line) else None
