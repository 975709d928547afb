-- Rows that have names of their own.
use Rattle.std.proofs.Common.{◌≡◌, ◌≢◌, ℕ, suc, ◌<◌, Bool, true, false, cond, ◌&&◌, ◌||◌, List, [], ◌∷◌, ◌++◌, length, refl, sym, subst, ap}
use Rattle.std.proofs.Common.{◌∙◌, arith}
use Rattle.std.specs.Prelude.{Option, Some, slice_index_or, AllPairs, All}
use Rattle.std.specs.Cmp.Lexicographic.{bytes_decides}
use Rattle.std.specs.List.{find, list_any}
use Rattle.std.specs.Option.{option_map_or}
use Rattle.std.proofs.lemmas.Bool.{false_from_ne_true}
use Rattle.std.proofs.lemmas.List.Folds.{Any-from_list_any, list_any_at, list_any_none}
use Rattle.std.proofs.lemmas.List.Elements.{All-push}
use Rattle.std.proofs.lemmas.List.Quantifiers.{all_pairs_push}
use Rattle.cs_names.specs.Legal.{IsUserName}
use Rattle.cs_users.specs.Members.{is_known, same_name}
use Rattle.cs_users.specs.Rows.{Row, AreNamed}

-- a name that no row has, under another spelling of the same
pub other_before : (rows : List Row) (row : Row) (name : List ℕ) → is_known rows row.name ≡ false → same_name row.name name ≡ true
    → is_known rows name ≡ false
other_before rows row name new same = subst (λ (n : List ℕ). is_known rows n ≡ false) ((bytes_decides row.name name).0 same) new

apart_at : (rows : List Row) (row : Row) → is_known rows row.name ≡ false → (k : ℕ) (d : Row) → k < length rows
    → (slice_index_or rows k d).name ≢ row.name
apart_at rows row new k d within same =
    absurd (cc
    (list_any_at (λ r. same_name r.name row.name) rows k d within ((bytes_decides (slice_index_or rows k d).name row.name).1 same), new))

-- one more row, of a legal name that no row had
pub AreNamed-push : (rows : List Row) (row : Row) → AreNamed rows → IsUserName row.name → is_known rows row.name ≡ false
    → AreNamed (rows ++ row ∷ [])
AreNamed-push rows row named legal new = record {
  legal = All-push (λ r. IsUserName r.name) rows row named.legal legal;
  distinct = all_pairs_push (λ r later. r.name ≢ later.name) rows row named.distinct (apart_at rows row new);
}

pair_tail : (row : Row) (rows : List Row) → AllPairs (λ r later. r.name ≢ later.name) (row ∷ rows)
    → AllPairs (λ r later. r.name ≢ later.name) rows
pair_tail row rows pairs i j d before within = pairs (suc i) (suc j) d (omega arith) (omega arith)

others_differ : (row : Row) (rows : List Row) → AllPairs (λ r later. r.name ≢ later.name) (row ∷ rows)
    → All (λ later. row.name ≢ later.name) rows
others_differ row rows pairs k d within = pairs 0 (suc k) d (omega arith) (omega arith)

none_of : (p : Row → Bool) (row : Row) (rows : List Row) (name : List ℕ) → All (λ later. row.name ≢ later.name) rows
    → same_name row.name name ≡ true → list_any (λ r. same_name r.name name && p r) rows ≡ false
none_of p row rows name differ same = list_any_none (λ r. same_name r.name name && p r) rows (λ k d within.
    let other : same_name (slice_index_or rows k d).name name ≡ false =
    false_from_ne_true _
    (λ e. differ k d within ((bytes_decides row.name name).0 same ∙ sym ((bytes_decides (slice_index_or rows k d).name name).0 e))) in
    ap (λ (b : Bool). b && p (slice_index_or rows k d)) other)

or-false : (a b : Bool) → b ≡ false → (a || b) ≡ a
or-false true b h = refl
or-false false b h = h

-- the first row of that name, if there is one
abbrev pub row_named : List Row → List ℕ → Option Row
row_named rows name = find (λ row. same_name row.name name) rows

asked_by : (named : Bool) (p : Row → Bool) (row : Row) (others : Bool) (rest : Option Row) → others ≡ option_map_or p rest false
    → (named ≡ true → others ≡ false)
    → ((named && p row) || others) ≡ option_map_or p (cond named (Some row) rest) false
asked_by true p row others rest e none = or-false (p row) others (none refl)
asked_by false p row others rest e none = e

asked_along : (p : Row → Bool) (rows : List Row) (name : List ℕ) → AllPairs (λ r later. r.name ≢ later.name) rows
    → list_any (λ r. same_name r.name name && p r) rows ≡ option_map_or p (row_named rows name) false
asked_along p [] name pairs = refl
asked_along p (row ∷ rows) name pairs =
    asked_by (same_name row.name name) p row (list_any (λ r. same_name r.name name && p r) rows) (row_named rows name)
    (asked_along p rows name (pair_tail row rows pairs)) (none_of p row rows name (others_differ row rows pairs))

-- what holds of each row of a name holds of the one row of that name
pub list_any-named : (p : Row → Bool) (rows : List Row) (name : List ℕ) → AreNamed rows
    → list_any (λ r. same_name r.name name && p r) rows ≡ option_map_or p (row_named rows name) false
list_any-named p rows name named = asked_along p rows name named.distinct

-- a name that a row has is legal
pub IsUserName-known : (rows : List Row) (name : List ℕ) → AreNamed rows → is_known rows name ≡ true → IsUserName name
IsUserName-known rows name named known =
    let a = Any-from_list_any (λ r. same_name r.name name) rows known in
    let same : (slice_index_or rows a.0 a.1).name ≡ name = ap (λ (r : Row). r.name) a.3 ∙ (bytes_decides a.1.name name).0 a.4 in
    subst IsUserName same (named.legal a.0 a.1 a.2)
