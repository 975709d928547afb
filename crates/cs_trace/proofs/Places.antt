-- The places of the records at the paths that files were made at.
use Rattle.std.proofs.Common.{◌≡◌, ◌≢◌, ◌<◌, ◌≤◌, ⊎_elim, ℕ, zero, suc, ◌+◌, Bool, true, false, List, [], ◌∷◌, ◌++◌, Option, None, Some, get_or, length, map}
use Rattle.std.proofs.Common.{refl, sym, ap, ◌∙◌, subst, add-zero, option_map, arith}
use Rattle.std.proofs.lemmas.Bool.{eqb-true, eq-eqb, false≢true}
use Rattle.std.proofs.lemmas.List.{ext_get_or, get_or-append-add, get_or-map, get_or-replicate, get_or-set_other, get_or-set_same}
use Rattle.std.proofs.lemmas.List.{get_or_append_left, length-map, length-set}
use Rattle.std.proofs.lemmas.List.{length-replicate}
use Rattle.std.proofs.lemmas.Option.{slice_get-map, slice_get_cases}
use Rattle.std.specs.FinMap.{entries}
use Rattle.std.specs.List.{slice_get}
use Rattle.std.specs.Option.{option_or}
use Rattle.std.specs.Prelude.{◌&&◌, ◌==◌, if◌then◌else◌, replicate, slice_set}
use Rattle.cs_tree_model.specs.Fresh.{with_numbers_from}
use Rattle.cs_tree_model.specs.Listing.{IsListing}
use Rattle.cs_tree_model.specs.Maps.Values.{entries-map_values, map_entries}
use Rattle.cs_tree_model.specs.Tree.{Path, path_cmp}
use Rattle.cs_tree_model.specs.declared.record.Record.{Record}
use Rattle.cs_start.specs.Entries.{StartEntries, nodes_in, record_of, records_in}
use Rattle.cs_start.specs.Owned.{is_own, number_of, or_root, own_in, own_paths, with_place, with_places}
use Rattle.cs_trace.specs.State.{State}
use Rattle.cs_trace.specs.Traces.{IsFileNumbered, IsTrace, Trace, path_at, trace_of_state}
use Rattle.cs_start.specs.declared.entry.StartEntry.{StartEntry}
use Rattle.cs_entries.specs.declared.node.Node.{Node}
use Rattle.cs_start.proofs.Owned.{Listed, length-own_paths}

-- ---- one entry

length-placed_by : (own : Bool) (ps : List ℕ) (number k : ℕ) → length (if own then slice_set ps number k else ps) ≡ length ps
length-placed_by true ps number k = length-set ps number k
length-placed_by false ps number k = refl

length-with_place : (ps : List ℕ) (k : ℕ) (e : StartEntry) → length (with_place ps k e) ≡ length ps
length-with_place ps k e = length-placed_by e.own ps (number_of e.node) k

length-with_places : (ps : List ℕ) (k : ℕ) (es : Listed) → length (with_places ps k es) ≡ length ps
length-with_places ps k [] = refl
length-with_places ps k (e ∷ es) = length-with_places (with_place ps k e.1) (k + 1) es ∙ length-with_place ps k e.1

-- this path, or another
abbrev path_or : Option Path → Path → Path
path_or None p = p
path_or (Some q) p = q

or_both : (o q : Option Path) (x p : Path) → x ≡ path_or q p → path_or o x ≡ path_or (option_or o q) p
or_both None q x p is = is
or_both (Some y) q x p is = refl

module _ {X : Type 0} (all : List (Path × X)) (n : ℕ) where
  placed_by : (own same : Bool) (number k : ℕ) (p : Path) (ps : List ℕ) → n < length ps → path_at all k ≡ p → number == n ≡ same
      → path_at all (get_or (if own then slice_set ps number k else ps) n 0)
      ≡ path_or (if own && same then Some p else None) (path_at all (get_or ps n 0))
  placed_by false same number k p ps low here is = refl
  placed_by true true number k p ps low here is =
      let at : number ≡ n = eqb-true _ _ is in
      ap (λ m. path_at all (get_or (slice_set ps m k) n 0)) at
      ∙ ap (path_at all) (get_or-set_same ps n k 0 low) ∙ here
  placed_by true false number k p ps low here is =
      ap (path_at all) (get_or-set_other ps number n k 0 (λ same. false≢true (sym is ∙ eq-eqb number n (sym same))))

  -- the place of the last entry with an own file of this number, or what was there before
  place_of : (k : ℕ) (es : Listed) (ps : List ℕ) → n < length ps → ((j : ℕ) → path_at all (k + j) ≡ path_at es j)
      → path_at all (get_or (with_places ps k es) n 0) ≡ path_or (own_in n es) (path_at all (get_or ps n 0))
  place_of k [] ps low at = refl
  place_of k (e ∷ es) ps low at =
      let here : path_at all k ≡ e.0 = ap (path_at all) (sym (add-zero k)) ∙ at 0 in
      place_of (k + 1) es (with_place ps k e.1) (subst (λ l. n < l) (sym (length-with_place ps k e.1)) low)
      (λ j. let next : k + 1 + j ≡ k + suc j = omega arith in ap (path_at all) next ∙ at (suc j))
      ∙ or_both (own_in n es) (if is_own n e.1 then Some e.0 else None) _ (path_at all (get_or ps n 0))
      (placed_by e.1.own (number_of e.1.node == n) (number_of e.1.node) k e.0 ps low here refl)

-- ---- all entries

same_paths : (k : ℕ) (es : Listed) (j : ℕ) → path_at (with_numbers_from k (map_entries record_of es)) j ≡ path_at es j
same_paths k [] j = refl
same_paths k (e ∷ es) zero = refl
same_paths k (e ∷ es) (suc j) = same_paths (k + 1) es j

root_first : (rs : List (Path × Record)) → IsListing rs → path_at rs 0 ≡ []
root_first [] is = absurd is
root_first (r ∷ rs) is = is.0.path

own_at : (m : StartEntries) (count n : ℕ) (same : Bool) → n == count ≡ same → n < suc count
    → (n < count → get_or (own_paths m count) n [] ≡ or_root (own_in n (entries m)))
    → get_or (own_paths m count ++ or_root (own_in count (entries m)) ∷ []) n [] ≡ or_root (own_in n (entries m))
own_at m count n true is low old =
    let at : n ≡ count = eqb-true _ _ is in
    let place : n ≡ length (own_paths m count) + 0 = omega (arith, at, length-own_paths m count) in
    ap (λ k. get_or (own_paths m count ++ or_root (own_in count (entries m)) ∷ []) k []) place
    ∙ get_or-append-add (own_paths m count) (or_root (own_in count (entries m)) ∷ []) 0 []
    ∙ ap (λ k. or_root (own_in k (entries m))) (sym at)
own_at m count n false is low old =
    let apart : n ≢ count = λ at. false≢true (sym is ∙ eq-eqb n count at) in
    let other : n < count = omega (arith, apart, low) in
    get_or_append_left (own_paths m count) (or_root (own_in count (entries m)) ∷ []) [] n
    (subst (λ l. n < l) (sym (length-own_paths m count)) other)
    ∙ old other

get-own_paths : (m : StartEntries) (count n : ℕ) → n < count → get_or (own_paths m count) n [] ≡ or_root (own_in n (entries m))
get-own_paths m zero n low = absurd (omega (arith, low))
get-own_paths m (suc count) n low = own_at m count n (n == count) refl low (get-own_paths m count n)

or_nothing : (o : Option Path) (p : Path) → p ≡ [] → path_or o p ≡ or_root o
or_nothing None p is = is
or_nothing (Some q) p is = refl

module _ (m : StartEntries) (rs : List (Path × Record)) (count : ℕ) (is : rs ≡ records_in m) (listing : IsListing rs) where
  abbrev pub places : List ℕ
  places = with_places (replicate count 0) 0 (entries m)

  along : (j : ℕ) → path_at rs (0 + j) ≡ path_at (entries m) j
  along j =
      let none : 0 + j ≡ j = omega arith in
      ap (path_at rs) none
      ∙ ap (λ es. path_at es j) (is ∙ ap (with_numbers_from 0) (entries-map_values path_cmp record_of m))
      ∙ same_paths 0 (entries m) j

  many : length places ≡ count
  many = length-with_places (replicate count 0) 0 (entries m) ∙ length-replicate count 0

  at_each : (n : ℕ) → n < length (map (path_at rs) places) → get_or (map (path_at rs) places) n [] ≡ get_or (own_paths m count) n []
  at_each n below =
      let inside : n < length places = subst (λ l. n < l) (length-map places (path_at rs)) below in
      let low : n < count = subst (λ l. n < l) many inside in
      get_or-map (path_at rs) places n 0 [] inside
      ∙ place_of rs n 0 (entries m) (replicate count 0) (subst (λ l. n < l) (sym (length-replicate count 0)) low) along
      ∙ or_nothing (own_in n (entries m)) _ (ap (path_at rs) (get_or-replicate count n 0 0 low) ∙ root_first rs listing)
      ∙ sym (get-own_paths m count n low)

  pub paths-of_places : map (path_at rs) places ≡ own_paths m count
  paths-of_places =
      ext_get_or [] (map (path_at rs) places) (own_paths m count)
      (length-map places (path_at rs) ∙ many ∙ sym (length-own_paths m count)) at_each

-- the trace that these lists make
pub same-trace : (s : State) (count : ℕ) → s.files ≡ own_paths s.start count → IsTrace (trace_of_state s)
    → (rs : List (Path × Record)) (ns : List Node) (ps : List ℕ) → rs ≡ records_in s.start → ns ≡ nodes_in s.start
    → ps ≡ with_places (replicate count 0) 0 (entries s.start) → record {
      records = rs;
      nodes = ns;
      files = map (path_at rs) ps;
      links = s.links;
      operations = s.operations;
      version = s.version;
    } ≡ trace_of_state s
same-trace s count files whole rs ns ps records nodes places = λ i. record {
  records = records i;
  nodes = nodes i;
  files =
      (ap (map (path_at rs)) places
      ∙ paths-of_places s.start rs count records (subst IsListing (sym records) whole.listing)
      ∙ sym files) i;
  links = s.links;
  operations = s.operations;
  version = s.version;
}

-- ---- one path

path_past : {X : Type 0} (es : List (Path × X)) (n : ℕ) → slice_get es n ≡ None → path_at es n ≡ []
path_past [] n is = refl
path_past (e ∷ es) zero is = absurd (cc)
path_past (e ∷ es) (suc n) is = path_past es n is

module _ (rs : List (Path × Record)) (places : List ℕ) (n : ℕ) where
  pub placed_at : (o : Option ℕ) → slice_get places n ≡ o → slice_get (map (path_at rs) places) n ≡ option_map (path_at rs) o
  placed_at o is = slice_get-map (path_at rs) places n ∙ ap (option_map (path_at rs)) is

  -- the place of a file is that of a record: past the end there is only the root's path, and the root is a directory
  pub is_placed : (t : Trace) → IsTrace t → t.files ≡ map (path_at rs) places → (place : ℕ) → slice_get places n ≡ Some place
      → place < length rs
  is_placed t whole files place at =
      ⊎_elim
      (λ (found : (r : Path × Record) × (place < length rs) × (slice_get rs place ≡ Some r) × (get_or rs place r ≡ r)). found.1)
      (λ (past : (length rs ≤ place) × (slice_get rs place ≡ None)). absurd (no_record past.1))
      (slice_get_cases rs place).1
    where
      no_record : slice_get rs place ≡ None → ⊥
      no_record past =
          let root : slice_get t.files n ≡ Some [] =
          ap (λ ps. slice_get ps n) files ∙ placed_at (Some place) at ∙ ap Some (path_past rs place past) in
          subst (IsFileNumbered n) whole.root (whole.numbered n [] root)
