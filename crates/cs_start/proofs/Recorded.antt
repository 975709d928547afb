-- The records of the start, one by one and with one more.
use Rattle.std.proofs.Common.{◌≡◌, ◌<◌, ◌≤◌, ⊎_elim, Bool, true, false, ℕ, zero, suc, ◌+◌, List, [], ◌∷◌, ◌++◌, Option, None, Some, length, refl, sym, ap, ◌∙◌}
use Rattle.std.proofs.Common.{add-zero, get_or, option_map, subst, take, arith}
use Rattle.std.proofs.lemmas.Bool.{false≢true}
use Rattle.std.proofs.lemmas.List.{length-map, map-append, take_more_same}
use Rattle.std.proofs.lemmas.Option.{get_or_from_slice_get, same_Some, slice_get_cases, slice_get_within}
use Rattle.std.proofs.lemmas.Slice.Eq.{bytes_eq-Decides, slice_eq-Decides}
use Rattle.std.specs.Bool.{Decides}
use Rattle.std.specs.List.{slice_get}
use Rattle.std.specs.Str.{bytes_eq}
use Rattle.cs_names.specs.Paths.{path_eq}
use Rattle.cs_tree_model.specs.Fresh.{fresh_record, with_numbers_from}
use Rattle.cs_tree_model.specs.Maps.Values.{map_entries}
use Rattle.cs_tree_model.specs.Tree.{Path}
use Rattle.cs_tree_model.specs.declared.record.Record.{Record}
use Rattle.cs_start.specs.Entries.{record_of, with_records}
use Rattle.cs_start.specs.Starts.{AreLegalEntries, IsLegalPath, record_at, start_records, whole_path, with_whole_paths}
use Rattle.cs_start.specs.declared.entry.StartEntry.{StartEntry}
use Rattle.cs_start.specs.declared.start_records.StartPath.{StartPath}
use Rattle.cs_start.proofs.Numbered.{numbers_length, records-append}

abbrev pub Kept : Type 0
Kept = StartPath × StartEntry

-- what the list has at a place
abbrev pub at_place : Path → ℕ → Kept → Path × Record
at_place d k e = record_at k d e.0 e.1

-- ---- one by one

pub length-start : (d : Path) (es : List Kept) → length (start_records d es) ≡ length es
length-start d es = numbers_length 0 (with_whole_paths d es) ∙ length-map es (λ e. (whole_path d e.0, e.1))

get_from : (n : ℕ) (d : Path) (es : List Kept) (k : ℕ)
    → slice_get (with_numbers_from n (map_entries record_of (with_whole_paths d es))) k ≡ option_map (at_place d (n + k)) (slice_get es k)
get_from n d [] k = refl
get_from n d (e ∷ es) zero = ap (λ m. Some (at_place d m e)) (sym (add-zero n))
get_from n d (e ∷ es) (suc k) =
    let next : n + 1 + k ≡ n + suc k = omega arith in
    get_from (n + 1) d es k ∙ ap (λ m. option_map (at_place d m) (slice_get es k)) next

pub get-start : (d : Path) (es : List Kept) (k : ℕ) → slice_get (start_records d es) k ≡ option_map (at_place d k) (slice_get es k)
get-start d es k =
    let none : 0 + k ≡ k = omega arith in
    get_from 0 d es k ∙ ap (λ m. option_map (at_place d m) (slice_get es k)) none

pub start-at : (d : Path) (es : List Kept) (k : ℕ) (e : Kept) → slice_get es k ≡ Some e
    → slice_get (start_records d es) k ≡ Some (at_place d k e)
start-at d es k e at = get-start d es k ∙ ap (option_map (at_place d k)) at

pub legal_at : (es : List Kept) (k : ℕ) (e : Kept) → AreLegalEntries es → slice_get es k ≡ Some e → IsLegalPath e.0
legal_at [] k e legal at = absurd (cc)
legal_at (f ∷ es) zero e legal at = subst (λ (g : Kept). IsLegalPath g.0) (same_Some f e at) legal.0
legal_at (f ∷ es) (suc k) e legal at = legal_at es k e legal.1 at

-- ---- one more

pub start-push : (d : Path) (es : List Kept) (e : Kept)
    → start_records d (es ++ e ∷ []) ≡ with_records (start_records d es) ((whole_path d e.0, e.1) ∷ [])
start-push d es e =
    ap (with_records []) (map-append (λ (f : Kept). (whole_path d f.0, f.1)) es (e ∷ []))
    ∙ sym (records-append [] (with_whole_paths d es) ((whole_path d e.0, e.1) ∷ []))

pub legal-push : (es : List Kept) (e : Kept) → AreLegalEntries es → IsLegalPath e.0 → AreLegalEntries (es ++ e ∷ [])
legal-push [] e all one = (one, tt)
legal-push (f ∷ es) e all one = (all.0, legal-push es e all.1 one)

-- ---- whether two are equal

-- one more element is equal
pub take-next : {X : Type 0} (xs ys : List X) (k : ℕ) → k < length xs → take k xs ≡ take k ys → slice_get xs k ≡ slice_get ys k
    → take (k + 1) xs ≡ take (k + 1) ys
take-next {X} xs ys k low old same = ⊎_elim
    (λ (found : (x : X) × (k < length xs) × (slice_get xs k ≡ Some x) × (get_or xs k x ≡ x)).
    let beside : slice_get ys k ≡ Some found.0 = sym same ∙ found.2 in
    take_more_same xs ys k found.0 low (slice_get_within ys k found.0 beside) old
    (found.3 ∙ sym (get_or_from_slice_get ys k found.0 found.0 beside)))
    (λ (past : (length xs ≤ k) × (slice_get xs k ≡ None)). absurd (omega (arith, low, past.0)))
    (slice_get_cases xs k).1

pub same-entry : (k : ℕ) (d q : Path) (p r : StartPath) (e f : StartEntry) → record_of e ≡ record_of f → whole_path d p ≡ whole_path q r
    → record_at k d p e ≡ record_at k q r f
same-entry k d q p r e f records paths = λ i. (paths i, fresh_record k (records i))

pub same-record : (k : ℕ) (d q : Path) (p r : StartPath) (e f : StartEntry) → record_at k d p e ≡ record_at k q r f
    → record_of e ≡ record_of f
same-record k d q p r e f same = ap (λ (s : Path × Record). fresh_record 0 s.1) same

-- ---- tests

pub text_decides : (xs ys : List ℕ) (r : Bool) → r ≡ bytes_eq xs ys → Decides r (xs ≡ ys)
text_decides xs ys r is = subst (λ s. Decides s (xs ≡ ys)) (sym is) (bytes_eq-Decides xs ys)

pub path_decides : (p q : Path) (r : Bool) → r ≡ path_eq p q → Decides r (p ≡ q)
path_decides p q r is = slice_eq-Decides bytes_eq-Decides p q r is

-- a first test that is true, and a second one
pub second_decides : {P Q R : Type 0} (a b : Bool) → Decides a P → a ≡ true → Decides b Q → (P → Q → R) → (R → P × Q) → Decides b R
second_decides a b first is second to from = (λ t. to (first.0 is) (second.0 t), λ r. second.1 (from r).1)

-- a first test that is false
pub first_decides : {P R : Type 0} (a : Bool) → Decides a P → a ≡ false → (R → P) → Decides a R
first_decides a first is from = (λ t. absurd (false≢true (sym is ∙ t)), λ r. first.1 (from r))

-- the paths at two places
pub places_decide : (r : Bool) (o u : Option (Path × Record)) (a b : Path × Record) → o ≡ Some a → u ≡ Some b → Decides r (a.0 ≡ b.0)
    → Decides r (option_map (λ e. e.0) o ≡ option_map (λ e. e.0) u)
places_decide r o u a b here there decides =
    let one : option_map (λ (e : Path × Record). e.0) o ≡ Some a.0 = ap (option_map (λ e. e.0)) here in
    let two : option_map (λ (e : Path × Record). e.0) u ≡ Some b.0 = ap (option_map (λ e. e.0)) there in
    (λ t. one ∙ ap Some (decides.0 t) ∙ sym two, λ same. decides.1 (same_Some a.0 b.0 (sym one ∙ same ∙ two)))
