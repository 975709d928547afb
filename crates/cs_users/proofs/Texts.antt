-- The pieces of a text are texts.
use Rattle.std.proofs.Common.{◌≡◌, ℕ, ◌<◌, Bool, true, false, ◌||◌, List, [], ◌∷◌, ◌++◌, get_or, refl, sym, ap, subst, ◌∙◌, arith, All}
use Rattle.std.proofs.Common.{⊎_elim}
use Rattle.std.specs.Prelude.{◌==◌, not, if◌then◌else◌, Option, None, IfSome}
use Rattle.std.specs.Char.{encode_utf8}
use Rattle.std.specs.List.{list_any}
use Rattle.std.specs.Str.{is_utf8, encode_utf8_all, all_scalars}
use Rattle.std.specs.Cmp.{nat_eq_equiv}
use Rattle.std.proofs.lemmas.Bool.{cases_Bool, and_parts, or_parts}
use Rattle.std.proofs.lemmas.Bool.Decides.{nat_tests}
use Rattle.std.proofs.lemmas.List.{append-nil, get_or_default}
use Rattle.std.proofs.lemmas.List.Elements.{All-cons, All-head, All-nil, All-tail}
use Rattle.std.proofs.lemmas.List.Folds.{Any-from_list_any, list_any-append}
use Rattle.std.proofs.lemmas.Str.{IsUtf8-append, IsUtf8-encode, IsUtf8-from_is_utf8, IsUtf8-nil, encode_ascii, inside_one}
use Rattle.cs_names.specs.Texts.{has_nul, is_text}
use Rattle.cs_names.specs.Pieces.{pieces, put_first}
use Rattle.cs_users.specs.Reading.{IsText, is_skipped, row_in, row_of_fields}
use Rattle.cs_users.specs.Rows.{Row}

IsText-nil : IsText []
IsText-nil = record { utf8 = IsUtf8-nil; no_nul = refl }

IsText-append : (bs cs : List ℕ) → IsText bs → IsText cs → IsText (bs ++ cs)
IsText-append bs cs t u = record {
  utf8 = IsUtf8-append bs cs t.utf8 u.utf8;
  no_nul = list_any-append (λ c. c == 0) bs cs ∙ ap (λ (b : Bool). b || has_nul cs) t.no_nul ∙ u.no_nul;
}

first_by : (separates : Bool) (b : ℕ) (cut : List (List ℕ)) → (first : List ℕ) × (others : List (List ℕ))
    × ((if separates then [] ∷ cut else put_first b cut) ≡ first ∷ others)
first_by true b cut = ([], cut, refl)
first_by false b [] = (b ∷ [], [], refl)
first_by false b (piece ∷ cut) = (b ∷ piece, cut, refl)

-- there is a first piece
first_piece : (sep : ℕ) (bs : List ℕ) → (first : List ℕ) × (others : List (List ℕ)) × (pieces sep bs ≡ first ∷ others)
first_piece sep [] = ([], [], refl)
first_piece sep (b ∷ bs) = first_by (b == sep) b (pieces sep bs)

-- bytes that don't separate go to the first piece
pieces-past : (sep : ℕ) (xs rest first : List ℕ) (others : List (List ℕ)) → list_any (λ b. b == sep) xs ≡ false
    → pieces sep rest ≡ first ∷ others → pieces sep (xs ++ rest) ≡ (xs ++ first) ∷ others
pieces-past sep [] rest first others h e = e
pieces-past sep (x ∷ xs) rest first others h e =
    let told = or_parts (x == sep) (list_any (λ b. b == sep) xs) h in
    ap (λ (t : Bool). if t then [] ∷ pieces sep (xs ++ rest) else put_first x (pieces sep (xs ++ rest))) told.0 ∙ ap (put_first x)
    (pieces-past sep xs rest first others told.1 e)

pieces-separated : (sep : ℕ) (bs : List ℕ) → pieces sep (sep ∷ bs) ≡ [] ∷ pieces sep bs
pieces-separated sep bs = ap (λ (t : Bool). if t then [] ∷ pieces sep bs else put_first sep (pieces sep bs)) (nat_eq_equiv.refl sep)

-- only the separator itself has its byte
separates : (sep c : ℕ) → sep < 128 → list_any (λ b. b == sep) (encode_utf8 c) ≡ true → c ≡ sep
separates sep c low h =
    let a = Any-from_list_any (λ b. b == sep) (encode_utf8 c) h in
    let same : a.1 ≡ sep = grind (arith, nat_tests, a.4) in
    let read : get_or (encode_utf8 c) a.0 0 ≡ sep = get_or_default (encode_utf8 c) a.0 0 a.1 a.2 ∙ a.3 ∙ same in
    inside_one c [] (encode_utf8 c) a.0 (sym (append-nil (encode_utf8 c))) a.2 (omega (arith, read)) ∙ read

-- one character before them: it is the separator, or part of the first piece
texts_past : (sep c : ℕ) (bs : List ℕ) → sep < 128 → IsText (encode_utf8 c) → All IsText (pieces sep bs)
    → All IsText (pieces sep (encode_utf8 c ++ bs))
texts_past sep c bs low front rest =
    ⊎_elim
    (λ y.
    let sole : encode_utf8 c ≡ sep ∷ [] = ap encode_utf8 (separates sep c low y) ∙ encode_ascii sep low in
    subst (λ (l : List ℕ). All IsText (pieces sep (l ++ bs))) (sym sole)
    (subst (All IsText) (sym (pieces-separated sep bs)) (All-cons IsText [] (pieces sep bs) IsText-nil rest)))
    (λ n.
    let cut = first_piece sep bs in
    let texts = subst (All IsText) cut.2 rest in
    subst (All IsText) (sym (pieces-past sep (encode_utf8 c) bs cut.0 cut.1 n cut.2))
    (All-cons IsText (encode_utf8 c ++ cut.0) cut.1 (IsText-append (encode_utf8 c) cut.0 front (All-head IsText cut.0 cut.1 texts))
    (All-tail IsText cut.0 cut.1 texts)))
    (cases_Bool (list_any (λ b. b == sep) (encode_utf8 c)))

all_texts : (sep : ℕ) → sep < 128 → (cs : List ℕ) → all_scalars cs ≡ true → has_nul (encode_utf8_all cs) ≡ false
    → All IsText (pieces sep (encode_utf8_all cs))
all_texts sep low [] scalars clean = All-cons IsText [] [] IsText-nil (All-nil IsText)
all_texts sep low (c ∷ cs) scalars clean =
    let scalar = and_parts _ (all_scalars cs) scalars in
    let no_nul =
    or_parts (has_nul (encode_utf8 c)) (has_nul (encode_utf8_all cs))
    (sym (list_any-append (λ b. b == 0) (encode_utf8 c) (encode_utf8_all cs)) ∙ clean) in
    texts_past sep c (encode_utf8_all cs) low (record {
      utf8 = IsUtf8-encode c scalar.0;
      no_nul = no_nul.0;
    }) (all_texts sep low cs scalar.1 no_nul.1)

-- the pieces of a text are texts
pub IsText-pieces : (sep : ℕ) (bs : List ℕ) → sep < 128 → IsText bs → All IsText (pieces sep bs)
IsText-pieces sep bs low text =
    subst (λ (l : List ℕ). All IsText (pieces sep l)) text.utf8.1.1
    (all_texts sep low text.utf8.0 text.utf8.1.0 (subst (λ (l : List ℕ). has_nul l ≡ false) (sym text.utf8.1.1) text.no_nul))

name_text : (fields : List (List ℕ)) → All IsText fields → IfSome (row_of_fields fields) (λ row. IsText row.name)
name_text [] texts = tt
name_text (id ∷ []) texts = tt
name_text (id ∷ name ∷ []) texts = tt
name_text (id ∷ name ∷ leader ∷ []) texts = tt
name_text (id ∷ name ∷ leader ∷ members ∷ []) texts = texts 1 [] (omega arith)
name_text (id ∷ name ∷ leader ∷ members ∷ more ∷ others) texts = tt

unless_skipped : (skipped : Bool) (spelled : Option Row) (P : Row → Type 0) → IfSome spelled P
    → IfSome (if skipped then None else spelled) P
unless_skipped true spelled P h = tt
unless_skipped false spelled P h = h

-- a name on a line that is a text is one
pub IsText-row_in : (line : List ℕ) → IsText line → IfSome (row_in line) (λ row. IsText row.name)
IsText-row_in line text =
    unless_skipped (is_skipped line) (row_of_fields (pieces 58 line)) (λ row. IsText row.name)
    (name_text (pieces 58 line) (IsText-pieces 58 line (omega arith) text))

not_true : (b : Bool) → not b ≡ true → b ≡ false
not_true true h = absurd (cc)
not_true false h = refl

pub IsText-from_is_text : (bs : List ℕ) → is_text bs ≡ true → IsText bs
IsText-from_is_text bs h =
    let both = and_parts (is_utf8 bs) (not (has_nul bs)) h in
    record { utf8 = IsUtf8-from_is_utf8 bs both.0; no_nul = not_true (has_nul bs) both.1 }
