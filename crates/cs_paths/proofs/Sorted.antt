-- Entries in the order of their paths: what a sort of their paths, each with its place, leaves.
use Rattle.std.proofs.Common.{◌≡◌, ◌≢◌, ℕ, suc, zero, ◌+◌, ◌<◌, ◌++◌, false, List, [], ◌∷◌, refl, sym, ap, ◌∙◌, subst, arith}
use Rattle.std.proofs.Common.{All, IsPermutation, IsSorted, length, map, get_or, drop, eqb, eq-eqb, append_assoc, drop-cons}
use Rattle.std.proofs.Common.{add-one}
use Rattle.std.proofs.lemmas.Bool.{false≢true}
use Rattle.std.proofs.lemmas.Bool.Decides.{Decides-eqb}
use Rattle.std.proofs.lemmas.Cmp.{nat_cmp_total, nat_eq_equiv, on_total, then_total}
use Rattle.std.proofs.lemmas.List.{get_or_default, get_or-map, length-map}
use Rattle.std.proofs.lemmas.List.Sorted.{All-permutation, Contains-permutation, IsPermutation-map, length_permutation, ranks_by}
use Rattle.std.proofs.lemmas.List.Sorted.{sorted_far}
use Rattle.std.proofs.lemmas.Map.Keys.{IsDistinct-IsPermutation, apart_from_distinct}
use Rattle.std.proofs.lemmas.Map.Made.{IsDistinct-from_AllPairs}
use Rattle.std.specs.Cmp.{IsTotalOrder}
use Rattle.std.specs.List.{IsDistinct}
use Rattle.std.specs.Ordering.{is_lt, nat_cmp, ordering_reverse, ordering_then}
use Rattle.std.specs.declared.cmp.Ordering.{Ordering}
use Rattle.std.specs.declared.cmp.Ordering.TheVariants.{Less, Greater}
use Rattle.cs_names.specs.Paths.{path_cmp, path_total}
use Rattle.cs_tree_model.specs.Tree.{Path}
use Rattle.cs_entries.specs.declared.entry.Entry.{Entry}
use Rattle.cs_entries.specs.DirEntries.{root_home}
use Rattle.cs_entries.specs.Positions.{climb_entry}
use Rattle.cs_apm.specs.Slots.{entry_at}
use Rattle.cs_paths.specs.Marks.{IsKept, kept_at}
use Rattle.cs_paths.specs.PathOrders.{AreInOrder, ArePlaces, path_of_place, paths_of_places}

-- a path with a place, by the path first
abbrev pub pair_cmp : Path × ℕ → Path × ℕ → Ordering
pair_cmp x y = ordering_then (path_cmp x.0 y.0) (nat_cmp x.1 y.1)

pair_total : IsTotalOrder pair_cmp
pair_total = then_total (on_total (λ (p : Path × ℕ). p.0) path_total) (on_total (λ (p : Path × ℕ). p.1) nat_cmp_total)

abbrev pub place_in : Path × ℕ → ℕ
place_in p = p.1

module _ (at : ℕ → Entry) (deep : ℕ) where
  -- ---- the pairs as they are collected

  abbrev pairs : List Entry → ℕ → List (Path × ℕ)
  pairs es place = paths_of_places at deep es place

  long_pairs : (es : List Entry) (place : ℕ) → length (pairs es place) ≡ length es
  long_pairs [] place = refl
  long_pairs (e ∷ es) place = ap suc (long_pairs es (place + 1))

  pair_at : (es : List Entry) (place i : ℕ) (d : Path × ℕ) → i < length es
      → get_or (pairs es place) i d ≡ (climb_entry at deep (entry_at es i), place + i)
  pair_at [] place i d low = absurd (omega (arith, low))
  pair_at (e ∷ es) place zero d low =
      (let z : place ≡ place + 0 = omega arith in λ i. (climb_entry at deep e, z i))
  pair_at (e ∷ es) place (suc i) d low =
      (let z : place + 1 + i ≡ place + suc i = omega arith in
      pair_at es (place + 1) i d (omega (arith, low)) ∙ (λ j. (climb_entry at deep (entry_at es i), z j)))

  -- one more entry, in a loop over them
  pub pairs_more : (es : List Entry) (place : ℕ) (done : List (Path × ℕ)) (e : Entry) → place < length es
      → e ≡ get_or es place root_home
      → (done ++ (climb_entry at deep e, place) ∷ []) ++ pairs (drop (place + 1) es) (place + 1)
      ≡ done ++ pairs (drop place es) place
  pairs_more es place done e low is =
      append_assoc done ((climb_entry at deep e, place) ∷ []) (pairs (drop (place + 1) es) (place + 1))
      ∙ ap (λ ps. done ++ ps)
      ((λ i. (climb_entry at deep (is i), place) ∷ pairs (drop (add-one place i) es) (place + 1))
      ∙ sym (ap (λ xs. pairs xs place) (drop-cons es place root_home low)))

  module _ (entries : List Entry) (sorted : List (Path × ℕ)) (moved : IsPermutation (pairs entries 0) sorted) where
    abbrev places : List ℕ
    places = map place_in sorted

    abbrev numbers : List ℕ
    numbers = map place_in (pairs entries 0)

    moved_numbers : IsPermutation numbers places
    moved_numbers = IsPermutation-map place_in (pairs entries 0) sorted moved

    long_numbers : length numbers ≡ length entries
    long_numbers = length-map (pairs entries 0) place_in ∙ long_pairs entries 0

    number_at : (i d : ℕ) → i < length entries → get_or numbers i d ≡ i
    number_at i d low =
        (let long = long_pairs entries 0 in let z : 0 + i ≡ i = omega arith in
        get_or-map place_in (pairs entries 0) i ([], 0) d (omega (arith, long, low))
        ∙ ap place_in (pair_at entries 0 i ([], 0) low) ∙ z)

    -- ---- each place, once

    long : length places ≡ length entries
    long = length_permutation numbers places moved_numbers ∙ long_numbers

    low_numbers : All (λ place. place < length entries) numbers
    low_numbers k d lt =
        (let many = long_numbers in let inside : k < length entries = omega (arith, lt, many) in
        subst (λ x. x < length entries) (sym (number_at k d inside)) inside)

    distinct_numbers : IsDistinct eqb numbers
    distinct_numbers = IsDistinct-from_AllPairs Decides-eqb numbers (λ i j d lt low same.
        (let many = long_numbers in
        let first = number_at i d (omega (arith, lt, low, many)) in
        let second = number_at j d (omega (arith, low, many)) in omega (arith, lt, first, second, same)))

    distinct : IsDistinct eqb places
    distinct = IsDistinct-IsPermutation eqb nat_eq_equiv.symm numbers places moved_numbers distinct_numbers

    there : (place : ℕ) → place < length entries → IsKept places place
    there place low =
        (let many = long_numbers in
        let found = Contains-permutation numbers places place moved_numbers
        (place, omega (arith, low, many), number_at place place low) in
        (found.0, found.1, get_or_default places found.0 0 place found.1 ∙ found.2))

    pub places_are : ArePlaces (length entries) places
    places_are = record {
      long = long;
      low = All-permutation (λ place. place < length entries) numbers places moved_numbers low_numbers;
      once = λ i j lt low same. false≢true
          (sym (apart_from_distinct eqb places i j 0 distinct lt low) ∙ eq-eqb (kept_at places i) (kept_at places j) same);
      there = there;
    }

    -- ---- in order

    path_of_pair : All (λ (p : Path × ℕ). p.0 ≡ path_of_place at deep entries p.1) sorted
    path_of_pair = All-permutation (λ (p : Path × ℕ). p.0 ≡ path_of_place at deep entries p.1) (pairs entries 0) sorted moved
        (λ k d lt.
        (let many = long_pairs entries 0 in let z : k ≡ 0 + k = omega arith in
        subst (λ (p : Path × ℕ). p.0 ≡ path_of_place at deep entries p.1)
        (sym (pair_at entries 0 k d (omega (arith, lt, many)))) (ap (path_of_place at deep entries) z)))

    path_at : (i : ℕ) → i < length places → path_of_place at deep entries (kept_at places i) ≡ (get_or sorted i ([], 0)).0
    path_at i low =
        (let inside : i < length sorted = (let l = length-map sorted place_in in omega (arith, l, low)) in
        ap (path_of_place at deep entries) (get_or-map place_in sorted i ([], 0) 0 inside)
        ∙ sym (path_of_pair i ([], 0) inside))

    not_greater : (p q : Path × ℕ) → is_lt (pair_cmp q p) ≡ false → path_cmp p.0 q.0 ≢ Greater
    not_greater p q not greater =
        (let less : path_cmp q.0 p.0 ≡ Less = path_total.antisymm q.0 p.0 ∙ ap ordering_reverse greater in
        false≢true (sym not ∙ ap (λ o. is_lt (ordering_then o (nat_cmp q.1 p.1))) less))

    pub places_ordered : IsSorted pair_cmp sorted → AreInOrder at deep entries places
    places_ordered up i j lt low =
        (let inside : j < length sorted = (let l = length-map sorted place_in in omega (arith, l, low)) in
        let far = sorted_far (λ x y. is_lt (pair_cmp x y)) (ranks_by pair_total (λ (p : Path × ℕ). p)) sorted up i j ([], 0)
        (omega (arith, lt)) inside in
        subst (λ r. r ≢ Greater)
        (λ k. path_cmp (sym (path_at i (omega (arith, lt, low))) k) (sym (path_at j low) k))
        (not_greater (get_or sorted i ([], 0)) (get_or sorted j ([], 0)) far))
