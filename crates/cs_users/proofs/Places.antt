-- The places of the rows, and what is found there.
use Rattle.std.proofs.Common.{◌≡◌, ℕ, suc, ◌+◌, ◌<◌, ◌≤◌, Bool, true, false, cond, not, ◌||◌, List, Vec, [], ◌∷◌, ◌++◌, length, get_or}
use Rattle.std.proofs.Common.{refl, sym, ap, ◌∙◌, ⊎_elim, arith, take}
use Rattle.std.specs.Prelude.{Option, Some, None, nat_eq, nat_lt, ◌==◌, slice_index_or}
use Rattle.std.specs.Global.{Global}
use Rattle.std.specs.HashMap.{HashMap, UpdatesBy}
use Rattle.std.specs.Cmp.Lexicographic.{bytes_decides, pointwise}
use Rattle.std.specs.declared.hash.BuildHasherDefault.{BuildHasherDefault}
use Rattle.std.specs.declared.hash.FoldHasher.{FoldHasher}
use Rattle.std.specs.List.{find, list_any, position, position_or_len, slice_get}
use Rattle.std.specs.Option.{is_some, option_map_or}
use Rattle.std.proofs.lemmas.Bool.{cases_Bool, cases_lt, or_parts}
use Rattle.std.proofs.lemmas.Bool.Decides.{nat_tests}
use Rattle.std.proofs.lemmas.List.{get_or-take, length-take, length_push}
use Rattle.std.proofs.lemmas.List.Folds.{find_at, list_any_at, list_any_none, position_or_len_push}
use Rattle.std.proofs.lemmas.List.Quantifiers.{position-Some}
use Rattle.std.proofs.lemmas.List.Sums.{prefix_len-le-length}
use Rattle.std.proofs.lemmas.Option.{slice_get_read, slice_get-get_or}
use Rattle.cs_names.specs.Legal.{IsUserName}
use Rattle.cs_users.specs.Groups.{name_at, place_of}
use Rattle.cs_users.specs.Members.{is_known, same_name}
use Rattle.cs_users.specs.Places.{IsIndexed}
use Rattle.cs_users.specs.Rows.{Row, AreNamed}
use Rattle.cs_users.proofs.Keys.{get_by_bytes, get_by_bytes-updated}
use Rattle.cs_users.proofs.Naming.{AreNamed-push, other_before}

chosen : (within : Bool) (n place : ℕ) → cond within (Some n) None ≡ Some place → n ≡ place
chosen true n place e = cc
chosen false n place e = absurd (cc)

-- the element at the first place that passes is the first element that passes
pub find-at_place : {X : Type 0} (p : X → Bool) (xs : List X) (place : ℕ) (x : X) → position p xs ≡ Some place
    → x ≡ slice_index_or xs place x → find p xs ≡ Some x
find-at_place {X} p xs place x e is =
    let first = chosen (nat_lt (position_or_len p xs) (length xs)) (position_or_len p xs) place e in
    find_at p xs ∙ ap (slice_get xs) first ∙ slice_get_read xs (length xs) place x refl (position-Some p xs place x e).0 is

absent : {X : Type 0} (p : X → Bool) (xs : List X) → list_any p xs ≡ false → position_or_len p xs ≡ length xs
absent p [] h = refl
absent p (x ∷ xs) h =
    let told = or_parts (p x) (list_any p xs) h in
    let rest = absent p xs told.1 in
    grind (arith, told.0, rest)

placed : (first more all many : ℕ) (passes : Bool) → first ≤ all → more ≡ cond (first == all) (all + cond passes 0 1) first → many ≡ all + 1
    → (passes ≡ true → first ≡ all)
    → cond passes (Some all) (cond (nat_lt first all) (Some first) None) ≡ cond (nat_lt more many) (Some more) None
placed first more all many true within is counted new = let last = new refl in grind (arith, nat_tests, last)
placed first more all many false within is counted new = grind (arith, nat_tests)

found_more : (rows : List Row) (row : Row) (name : List ℕ) → is_known rows row.name ≡ false
    → cond (same_name row.name name) (Some (length rows)) (position (λ r. same_name r.name name) rows)
    ≡ position (λ r. same_name r.name name) (rows ++ row ∷ [])
found_more rows row name new =
    placed (position_or_len (λ r. same_name r.name name) rows) (position_or_len (λ r. same_name r.name name) (rows ++ row ∷ []))
    (length rows) (length (rows ++ row ∷ [])) (same_name row.name name)
    (prefix_len-le-length _ rows)
    (position_or_len_push (λ r. same_name r.name name) rows row)
    (length_push rows row)
    (λ same. absent (λ r. same_name r.name name) rows (other_before rows row name new same))

abbrev Index : Type 0
Index = HashMap (Vec ℕ Global) ℕ (BuildHasherDefault FoldHasher)

push_found : (rows : List Row) (row : Row) (old new : Index) → IsIndexed rows old → IsUserName row.name → is_known rows row.name ≡ false
    → ((name : List ℕ) → get_by_bytes new name ≡ cond (same_name row.name name) (Some (length rows)) (get_by_bytes old name))
    → IsIndexed (rows ++ row ∷ []) new
push_found rows row old new indexed legal fresh updated = record {
  named = AreNamed-push rows row indexed.named legal fresh;
  found = λ name. updated name ∙ ap (λ (o : Option ℕ). cond (same_name row.name name) (Some (length rows)) o) (indexed.found name) ∙
      found_more rows row name fresh;
}

-- one more row, of a legal name that no row had, and its place under its name
pub IsIndexed-inserted : (rows : List Row) (row : Row) (key : List ℕ) (place : ℕ) (old new : Index) → IsIndexed rows old → key ≡ row.name
    → IsUserName row.name → is_known rows row.name ≡ false → place ≡ length rows
    → UpdatesBy (λ x y. pointwise nat_eq x.items y.items) (λ k. pointwise nat_eq key k.items) old new (Some place)
    → IsIndexed (rows ++ row ∷ []) new
IsIndexed-inserted rows row key place old new indexed same legal fresh last updates =
    push_found rows row old new indexed legal fresh (λ name.
    get_by_bytes-updated key old new (Some place) updates name
    ∙ ap (λ (k : List ℕ). cond (same_name k name) (Some place) (get_by_bytes old name)) same
    ∙ ap (λ (n : ℕ). cond (same_name row.name name) (Some n) (get_by_bytes old name)) last)

within_by : (passes : Bool) (first all : ℕ) (others : Bool) → nat_lt first all ≡ others
    → nat_lt (cond (not passes) (1 + first) 0) (suc all) ≡ (passes || others)
within_by true first all others h = grind (arith, nat_tests)
within_by false first all others h = grind (arith, nat_tests, h)

within : {X : Type 0} (p : X → Bool) (xs : List X) → nat_lt (position_or_len p xs) (length xs) ≡ list_any p xs
within p [] = refl
within p (x ∷ xs) = within_by (p x) (position_or_len p xs) (length xs) (list_any p xs) (within p xs)

is_some_by : (there : Bool) (place : ℕ) → is_some (cond there (Some place) None) ≡ there
is_some_by true place = refl
is_some_by false place = refl

-- a name has a place if it is known
pub is_some-place_of : (rows : List Row) (name : List ℕ) → is_some (place_of rows name) ≡ is_known rows name
is_some-place_of rows name = is_some_by _ _ ∙ within (λ row. same_name row.name name) rows

-- the row at the place of a name, and that it is there
pub row_at_place : (rows : List Row) (name : List ℕ) (place : ℕ) (d : Row) → place_of rows name ≡ Some place → (place < length rows)
    × ((slice_index_or rows place d).name ≡ name)
row_at_place rows name place d e =
    let at = position-Some (λ row. same_name row.name name) rows place d e in
    (at.0, (bytes_decides (slice_index_or rows place d).name name).0 at.1)

-- no two places have one name
pub one_place : (rows : List Row) (j k : ℕ) (d : Row) → AreNamed rows → j < length rows → k < length rows
    → (slice_index_or rows j d).name ≡ (slice_index_or rows k d).name → j ≡ k
one_place rows j k d named below within same =
    ⊎_elim
    (λ (before : j < k). absurd (named.distinct j k d before within same))
    (λ (behind : k ≤ j). ⊎_elim
    (λ (before : k < j). absurd (named.distinct k j d before below (sym same)))
    (λ (equal : j ≤ k). omega arith)
    (cases_lt k j))
    (cases_lt j k)

the_place : (rows : List Row) (k : ℕ) (d : Row) (place : Option ℕ) → AreNamed rows → k < length rows → is_some place ≡ true
    → place_of rows (slice_index_or rows k d).name ≡ place → place ≡ Some k
the_place rows k d None named within there e = absurd cc
the_place rows k d (Some j) named within there e =
    let at = row_at_place rows (slice_index_or rows k d).name j d e in
    ap Some (one_place rows j k d named at.0 within at.1)

-- a row is at the place of its name
pub place_of-row : (rows : List Row) (k : ℕ) (d : Row) → AreNamed rows → k < length rows
    → place_of rows (slice_index_or rows k d).name ≡ Some k
place_of-row rows k d named low =
    let name = (slice_index_or rows k d).name in
    let known = list_any_at (λ row. same_name row.name name) rows k d low ((bytes_decides name name).1 refl) in
    the_place rows k d (place_of rows name) named low (is_some-place_of rows name ∙ known) refl

-- the name at a place is that of the row there
pub name_at-row : (rows : List Row) (k : ℕ) (d : Row) → k < length rows → name_at rows k ≡ (slice_index_or rows k d).name
name_at-row rows k d low = ap (λ (o : Option Row). option_map_or (λ row. row.name) o []) (slice_get-get_or rows k d low)

-- the name at the place of a name is that name
pub name_at-place_of : (rows : List Row) (name : List ℕ) (place : ℕ) (d : Row) → place_of rows name ≡ Some place → name_at rows place ≡ name
name_at-place_of rows name place d e =
    let at = row_at_place rows name place d e in
    name_at-row rows place d at.0 ∙ at.1

-- no row before a row has its name
pub unknown_before : (rows : List Row) (i : ℕ) (row : Row) → AreNamed rows → i < length rows → ((d : Row) → row ≡ get_or rows i d)
    → is_known (take i rows) row.name ≡ false
unknown_before rows i row named low is =
    list_any_none (λ r. same_name r.name row.name) (take i rows) (λ k d within. ⊎_elim
    (λ (same : same_name (get_or (take i rows) k d).name row.name ≡ true).
    let before : k < i = let long = length-take i rows in omega arith in
    let equal = (bytes_decides (get_or (take i rows) k d).name row.name).0 same in
    absurd (named.distinct k i d before low
    (ap (λ (r : Row). r.name) (sym (get_or-take i rows k d before)) ∙ equal ∙ ap (λ (r : Row). r.name) (is d))))
    (λ differs. differs)
    (cases_Bool (same_name (get_or (take i rows) k d).name row.name)))
