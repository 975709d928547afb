-- A script: what connections do, and the users files that are taken, a line each.
use Rattle.std.specs.Prelude.{ℕ, ◌+◌, ◌*◌, ◌==◌, ◌&&◌, Bool, nat_le, nat_lt, List, [], ◌∷◌}
use Rattle.std.specs.Prelude.{◌++◌, codes, length, Option, Some, None, Result, Ok, Err, option_map}
use Rattle.std.specs.Prelude.{option_and_then, if◌then◌else◌}
use Rattle.std.specs.Io.BufRead.{strip_last}
use Rattle.std.specs.Result.{result_ok}
use Rattle.std.specs.Char.{is_ascii_digit}
use Rattle.std.specs.List.{list_all}
use Rattle.std.specs.Str.Parse.{digits_value}
use Rattle.hex.specs.Hex.{decode_of}
use Rattle.cs_names.specs.Pieces.{pieces}
use Rattle.cs_names.specs.Texts.{same_bytes}
use Rattle.cs_names.specs.declared.limits.TheConstants.{CONNECTIONS, MESSAGE_BYTES, SCRIPT_LINES}
use Rattle.cs_inputs.specs.PickLines.{number_of_32_bits}
use Rattle.cs_inputs.specs.declared.fault.ProgramFault.{ProgramFault}
use Rattle.cs_inputs.specs.declared.fault.ProgramFault.TheVariants.{Script}
use Rattle.cs_script.specs.declared.script.Action.{Action}
use Rattle.cs_script.specs.declared.script.Action.TheVariants.{Send, HangUp}
use Rattle.cs_script.specs.declared.script.ScriptLine.{ScriptLine}
use Rattle.cs_script.specs.declared.script.ScriptLine.TheVariants.{Act, Reload}

-- ---- words

-- one digit or more, and nothing else
abbrev pub is_decimal : List ℕ → Bool
is_decimal text = nat_lt 0 (length text) && list_all is_ascii_digit text

-- a number of 32 bits, of nothing but digits
abbrev pub number_in : List ℕ → Option ℕ
number_in text = if is_decimal text then number_of_32_bits (digits_value 10 text) else None

-- the number of a connection
abbrev pub conn_in : List ℕ → Option ℕ
conn_in text =
    option_and_then (λ conn. if nat_lt conn CONNECTIONS then Some conn else None) (number_in text)

-- at least so many bytes
abbrev pub at_least : ℕ → List ℕ → Option (List ℕ)
at_least count bytes = if nat_le count (length bytes) then Some bytes else None

-- at least so many bytes in hexadecimal
abbrev pub bytes_in : ℕ → List ℕ → Option (List ℕ)
bytes_in count digits = option_and_then (at_least count) (result_ok (decode_of digits))

-- a message in hexadecimal, of 7 bytes at least
abbrev pub sent_in : List ℕ → Option (List ℕ)
sent_in digits = if nat_le (length digits) (2 * MESSAGE_BYTES) then bytes_in 7 digits else None

-- `hangup`, or a message
abbrev pub action_in : List ℕ → Option Action
action_in word =
    if same_bytes word (codes "hangup") then Some HangUp else option_map Send (sent_in word)

-- ---- lines

abbrev pub act_from : Option ℕ → Option ℕ → Option Action → Option ScriptLine
act_from (Some conn) (Some moment) (Some action) =
    Some (Act (record { conn = conn; moment = moment; action = action }))
act_from (Some conn) (Some moment) None = None
act_from (Some conn) None action = None
act_from None moment action = None

-- `reload` and a users file of one byte at least; or the number of a connection, a moment, and what
-- the connection does
abbrev pub line_of : List (List ℕ) → Option ScriptLine
line_of [] = None
line_of (first ∷ []) = None
line_of (first ∷ second ∷ []) =
    if same_bytes first (codes "reload") then option_map Reload (bytes_in 1 second) else None
line_of (first ∷ second ∷ third ∷ []) =
    act_from (conn_in first) (number_in second) (action_in third)
line_of (first ∷ second ∷ third ∷ fourth ∷ others) = None

-- with one space between the words
abbrev pub line_in : List ℕ → Option ScriptLine
line_in text = line_of (pieces 32 text)

-- the line of that number, which is none past the limit
abbrev pub line_at : ℕ → List ℕ → Option ScriptLine
line_at number text = if nat_le number SCRIPT_LINES then line_in text else None

-- ---- the script

-- lines in front of others, if there is no fault
abbrev pub with_lines_first : List ScriptLine → Result (List ScriptLine) ProgramFault
    → Result (List ScriptLine) ProgramFault
with_lines_first lines (Ok others) = Ok (lines ++ others)
with_lines_first lines (Err fault) = Err fault

abbrev pub with_line : ℕ → Option ScriptLine → Result (List ScriptLine) ProgramFault
    → Result (List ScriptLine) ProgramFault
with_line number None later = Err (Script number)
with_line number (Some line) later = with_lines_first (line ∷ []) later

-- the lines that texts spell, of which the first has the number; or the number of the first that
-- spells none
abbrev pub lines_from : ℕ → List (List ℕ) → Result (List ScriptLine) ProgramFault
lines_from number [] = Ok []
lines_from number (text ∷ texts) =
    with_line number (line_at number text) (lines_from (number + 1) texts)

-- lines are cut at line feeds and counted from 1; a line feed at the very end makes no line more
abbrev pub script_in : List ℕ → Result (List ScriptLine) ProgramFault
script_in bytes =
    if length bytes == 0 then Ok [] else lines_from 1 (pieces 10 (strip_last 10 bytes))
