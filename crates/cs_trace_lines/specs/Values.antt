-- What the values under a line's keys say.
use Rattle.std.specs.Prelude.{ℕ, ◌+◌, ◌-◌, ◌*◌, ◌==◌, ◌||◌, ◌&&◌, Bool, false, true, List, [], ◌∷◌}
use Rattle.std.specs.Prelude.{nat_le, nat_lt, length, Option}
use Rattle.std.specs.Prelude.{Some, None, option_and_then, if◌then◌else◌}
use Rattle.std.specs.Option.{option_map}
use Rattle.std.specs.List.{list_all}
use Rattle.std.specs.Result.{result_ok}
use Rattle.serde_json.specs.Find.{as_u64}
use Rattle.hex.specs.Hex.{decode_of}
use Rattle.cs_trace_lines.specs.declared.values.TheConstants.{TARGET_BYTES}
use Rattle.cs_trace_lines.specs.declared.version.Version.{Version}
use Rattle.cs_trace_lines.specs.Fields.{Field, Array, Number, Other, Text, Fields}
use Rattle.cs_trace_lines.specs.Fields.{has_keys, text_of}
use Rattle.cs_trace_lines.specs.Versions.{is_third_or_later}

-- owner, group and permissions as a line has them
pub record Claims : Type 0 where
  pub owner : List ℕ
  pub group : List ℕ
  pub permissions : ℕ

-- spaces, tabs and carriage returns only
abbrev pub is_blank : List ℕ → Bool
is_blank line = list_all (λ c. c == 32 || c == 9 || c == 13) line

-- ---- the parts of a line

-- the text of a field that is in the line
abbrev pub text_in : Option Field → Option (List ℕ)
text_in field = option_and_then text_of field

-- a whole number below 2^64, written without sign, point and exponent
abbrev pub whole_number_of : Field → Option ℕ
whole_number_of (Text s) = None
whole_number_of (Number n) = as_u64 n
whole_number_of (Array ds) = None
whole_number_of Other = None

-- the whole number in a field; None if it has another value, or isn't there
abbrev pub whole_number_in : Option Field → Option ℕ
whole_number_in field = option_and_then whole_number_of field

abbrev pub is_octal : ℕ → Bool
is_octal c = nat_le 48 c && nat_le c 55

-- three octal digits
abbrev pub permissions_in : List ℕ → Option ℕ
permissions_in [] = None
permissions_in (a ∷ []) = None
permissions_in (a ∷ b ∷ []) = None
permissions_in (a ∷ b ∷ c ∷ []) =
    if is_octal a && is_octal b && is_octal c then Some ((a - 48) * 64 + (b - 48) * 8 + (c - 48))
    else None
permissions_in (a ∷ b ∷ c ∷ d ∷ more) = None

-- the bytes that hexadecimal digits spell
abbrev pub bytes_in : Option Field → Option (List ℕ)
bytes_in field = option_and_then (λ text. result_ok (decode_of text)) (text_in field)

-- the bytes under one of two keys: digits, or a text if the version has them
abbrev pub content_by : Version → Option Field → Option Field → Option (List ℕ)
content_by version None text = if is_third_or_later version then text_in text else None
content_by version (Some bytes) text = bytes_in (Some bytes)

abbrev pub content_in : Version → Fields → Option (List ℕ)
content_in version f = content_by version f.bytes f.text

-- where a symbolic link leads is a text of 1 to TARGET_BYTES bytes without NUL
abbrev pub is_without_nul : List ℕ → Bool
is_without_nul text = list_all (λ c. nat_lt 0 c) text

abbrev pub is_target : List ℕ → Bool
is_target text =
    nat_lt 0 (length text) && nat_le (length text) TARGET_BYTES && is_without_nul text

abbrev pub target_in : Option Field → Option (List ℕ)
target_in target =
    option_and_then (λ text. if is_target text then Some text else None) (text_in target)

-- the permissions of a mode
abbrev pub mode_in : Option Field → Option ℕ
mode_in mode = option_and_then permissions_in (text_in mode)

-- owner, group and mode
abbrev pub claims_in : Fields → Option Claims
claims_in f =
    option_and_then (λ owner.
    option_and_then (λ group.
    option_map (λ permissions. record { owner = owner; group = group; permissions = permissions })
    (mode_in f.mode)) (text_in f.group)) (text_in f.owner)

-- the owner and the group of a symbolic link, whose line has no mode: all permissions
abbrev pub symlink_claims_in : Fields → Option Claims
symlink_claims_in f =
    option_and_then (λ owner.
    option_map (λ group. record { owner = owner; group = group; permissions = 511 })
    (text_in f.group)) (text_in f.owner)

-- a note is a text, if the version has notes
abbrev pub may_note : Version → Option Field → Bool
may_note version None = true
may_note version (Some (Text s)) = is_third_or_later version
may_note version (Some (Number n)) = false
may_note version (Some (Array ds)) = false
may_note version (Some Other) = false

-- exactly so many keys, a note not counted
abbrev pub has_only : Version → ℕ → Fields → Bool
has_only version count f = has_keys count f && may_note version f.note
