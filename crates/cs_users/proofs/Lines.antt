-- The lines of a file, one after another.
use Rattle.std.proofs.Common.{◌≡◌, ℕ, ◌+◌, ◌-◌, ◌≤◌, Bool, true, false, ◌||◌, All, List, [], ◌∷◌, ◌++◌, length, take, drop, refl, sym, ap}
use Rattle.std.proofs.Common.{subst, ◌∙◌, arith}
use Rattle.std.specs.Prelude.{◌==◌, if◌then◌else◌}
use Rattle.std.proofs.Math.Seq.{take-add}
use Rattle.std.proofs.lemmas.List.{length-drop, length-take-le, drop-drop}
use Rattle.cs_names.specs.Pieces.{pieces, put_first}
use Rattle.cs_names.specs.Texts.{is_text}
use Rattle.cs_users.specs.declared.fault.UsersFault.{UsersFault}
use Rattle.cs_users.specs.Reading.{IsText, fault_of_line, first_fault, names, or_else, row_in, rows_in, rows_or_fault}
use Rattle.std.specs.List.{cons_option, list_any}
use Rattle.std.specs.Option.{option_map_or}
use Rattle.std.specs.Prelude.{Option, None, Some, Ok, Err, IfSome, option_to_list}
use Rattle.std.proofs.lemmas.List.{append-nil, take-append-drop}
use Rattle.std.proofs.lemmas.List.Elements.{All-drop, All-head, filter_map-append}
use Rattle.cs_users.specs.Members.{is_known, same_name}
use Rattle.cs_users.specs.Rows.{Row}
use Rattle.cs_users.proofs.Texts.{IsText-from_is_text, IsText-pieces, IsText-row_in}

length-put_first : (b : ℕ) (cut : List (List ℕ)) (n : ℕ) → length cut ≤ n + 1 → length (put_first b cut) ≤ (n + 1) + 1
length-put_first b [] n h = omega arith
length-put_first b (piece ∷ others) n h = omega arith

length-step : (c b : ℕ) (t : Bool) (bs : List ℕ) → length (pieces c bs) ≤ length bs + 1
    → length (if t then [] ∷ pieces c bs else put_first b (pieces c bs)) ≤ length (b ∷ bs) + 1
length-step c b true bs h = omega arith
length-step c b false bs h = let more = length-put_first b (pieces c bs) (length bs) h in omega arith

-- there are at most as many pieces as bytes, and one more
pub length-pieces : (c : ℕ) (bs : List ℕ) → length (pieces c bs) ≤ length bs + 1
length-pieces c [] = omega arith
length-pieces c (b ∷ bs) = length-step c b (b == c) bs (length-pieces c bs)

-- a line follows so many
pub within_more : (lines left rest : List (List ℕ)) (n : ℕ) (line : List ℕ) → left ≡ drop n lines → left ≡ line ∷ rest
    → n + 1 ≤ length lines
within_more lines left rest n line d e = let known : length (line ∷ rest) ≡ length lines - n =
    ap length (sym e ∙ d) ∙ length-drop n lines in omega arith

pub dropped_more : (lines left rest : List (List ℕ)) (n : ℕ) (line : List ℕ) → left ≡ drop n lines → left ≡ line ∷ rest
    → rest ≡ drop (n + 1) lines
dropped_more lines left rest n line d e = ap (drop 1) (sym e ∙ d) ∙ drop-drop 1 n lines

taken_more : (lines left rest : List (List ℕ)) (n : ℕ) (line : List ℕ) → left ≡ drop n lines → left ≡ line ∷ rest
    → take (n + 1) lines ≡ take n lines ++ line ∷ []
taken_more lines left rest n line d e = take-add n 1 lines ∙ ap (λ (xs : List (List ℕ)). take n lines ++ take 1 xs) (sym d ∙ e)

-- after a good line the first bad one is among those that follow
pub first_fault-more : (lines left rest : List (List ℕ)) (n : ℕ) (line : List ℕ) (rows : List Row) (whole : Option UsersFault)
    → left ≡ drop n lines → left ≡ line ∷ rest
    → rows ≡ rows_in (take n lines) → fault_of_line rows (n + 1) line ≡ None → first_fault (take n lines) left ≡ whole
    → first_fault (take (n + 1) lines) rest ≡ whole
first_fault-more lines left rest n line rows whole d e before fine same =
    let good = subst (λ (taken : List Row). fault_of_line taken (n + 1) line ≡ None) before fine in
    let some = within_more lines left rest n line d e in
    let counted : length (take n lines) ≡ n = length-take-le n lines (omega arith) in
    let first : or_else (fault_of_line (rows_in (take n lines)) (length (take n lines) + 1) line)
    (first_fault (take n lines ++ line ∷ []) rest) ≡ whole = ap (first_fault (take n lines)) (sym e) ∙ same in
    let second : or_else (fault_of_line (rows_in (take n lines)) (n + 1) line) (first_fault (take n lines ++ line ∷ []) rest) ≡ whole =
    subst (λ (k : ℕ). or_else (fault_of_line (rows_in (take n lines)) (k + 1) line) (first_fault (take n lines ++ line ∷ []) rest) ≡ whole)
    counted first in
    let later : first_fault (take n lines ++ line ∷ []) rest ≡ whole =
    subst (λ (fault : Option UsersFault). or_else fault (first_fault (take n lines ++ line ∷ []) rest) ≡ whole) good second in
    subst (λ (before : List (List ℕ)). first_fault before rest ≡ whole) (sym (taken_more lines left rest n line d e)) later

known_by : (spelled : Option Row) (rows : List Row) (others : Bool) (name : List ℕ) → is_known rows name ≡ others
    → is_known (cons_option spelled rows) name ≡ (option_map_or (λ row. same_name row.name name) spelled false || others)
known_by None rows others name h = h
known_by (Some row) rows others name h = ap (λ (b : Bool). same_name row.name name || b) h

-- the rows of the lines have a name if one of the lines has it
pub is_known-rows_in : (lines : List (List ℕ)) (name : List ℕ) → is_known (rows_in lines) name ≡ list_any (names name) lines
is_known-rows_in [] name = refl
is_known-rows_in (line ∷ lines) name =
    known_by (row_in line) (rows_in lines) (list_any (names name) lines) name (is_known-rows_in lines name)

row_alone : (spelled : Option Row) → cons_option spelled [] ≡ option_to_list spelled
row_alone None = refl
row_alone (Some row) = refl

-- one more line, and the row that it spells
pub rows_in-more : (lines left rest : List (List ℕ)) (n : ℕ) (line : List ℕ) (rows more : List Row) → left ≡ drop n lines
    → left ≡ line ∷ rest → rows ≡ rows_in (take n lines)
    → more ≡ rows ++ option_to_list (row_in line) → more ≡ rows_in (take (n + 1) lines)
rows_in-more lines left rest n line rows more d e before kept =
    let whole : rows_in (take (n + 1) lines) ≡ rows_in (take n lines) ++ rows_in (line ∷ []) =
    ap rows_in (taken_more lines left rest n line d e) ∙ filter_map-append row_in (take n lines) (line ∷ []) in
    let alone = row_alone (row_in line) in
    cc

-- at the end every line is taken
take-all : (lines left : List (List ℕ)) (n : ℕ) → left ≡ drop n lines → left ≡ [] → take n lines ≡ lines
take-all lines left n d e =
    let whole = take-append-drop n lines in
    sym (append-nil (take n lines)) ∙ ap (λ (xs : List (List ℕ)). take n lines ++ xs) (sym e ∙ d) ∙ whole

-- and there is no fault
pub rows_or_fault-end : (lines left : List (List ℕ)) (n : ℕ) (rows : List Row) → left ≡ drop n lines → left ≡ []
    → first_fault (take n lines) left ≡ first_fault [] lines → rows ≡ rows_in (take n lines)
    → rows_or_fault lines ≡ Ok rows
rows_or_fault-end lines left n rows d e same taken =
    let good : first_fault [] lines ≡ None = sym same ∙ ap (first_fault (take n lines)) e in
    ap (λ (fault : Option UsersFault). option_map_or Err fault (Ok (rows_in lines))) good ∙ ap Ok
    (sym (taken ∙ ap rows_in (take-all lines left n d e)))

-- each of the lines that are left is a text
pub IsText-line : (text : List ℕ) (left rest : List (List ℕ)) (n : ℕ) (line : List ℕ) → is_text text ≡ true → left ≡ drop n (pieces 10 text)
    → left ≡ line ∷ rest → IfSome (row_in line) (λ row. IsText row.name)
IsText-line text left rest n line h d e =
    let texts = IsText-pieces 10 text (omega arith) (IsText-from_is_text text h) in
    IsText-row_in line (All-head IsText line rest (subst (All IsText) (sym d ∙ e) (All-drop IsText n (pieces 10 text) texts)))
