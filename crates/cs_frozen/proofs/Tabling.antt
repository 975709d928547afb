-- The numbers of paths in order are those of the tree's entries.
use Rattle.std.proofs.Common.{◌≡◌, ◌≢◌, ◌<◌, ◌+◌, ℕ, Bool, true, false, cond, ◌&&◌, T, List, [], ◌∷◌, map, length, get_or, set, slice_get}
use Rattle.std.proofs.Common.{Option, None, Some, refl, sym, ap, ◌∙◌, subst, ⊎_elim, arith}
use Rattle.std.proofs.lemmas.List.{get_or-set_other, get_or-set_same, length-set}
use Rattle.std.proofs.lemmas.Option.{get_or_from_slice_get, slice_get-get_or, slice_get_within}
use Rattle.std.proofs.lemmas.Bool.{false≢true, cases_eq, cases_lt}
use Rattle.std.proofs.lemmas.Map.Keys.{sorted_head, sorted_tail}
use Rattle.std.specs.BTreeMap.{BTreeMap, get, is_at, values, IsOrdered}
use Rattle.std.specs.Cmp.{tied_itself}
use Rattle.std.specs.FinMap.{find, entries, entries_sorted, get-entries, is_sorted}
use Rattle.std.specs.FinMap.Entries.{below_all, same_entries}
use Rattle.std.specs.List.{AllByRecursion}
use Rattle.std.specs.List.Sorted.{IsStrictlySortedBy}
use Rattle.std.specs.Map.{keys_of, values_of, lookup}
use Rattle.std.specs.Option.{option_map, is_some}
use Rattle.std.specs.Ordering.{is_lt, eq_by_cmp}
use Rattle.std.specs.declared.cmp.Ordering.TheVariants.{Less}
use Rattle.cs_tree_model.specs.declared.record.Record.{Record}
use Rattle.cs_tree_model.specs.Tree.{Path, path_cmp, Tree, IsTree, number_at}
use Rattle.cs_tree_model.specs.Laws.Paths.{path_total, path_exact}
use Rattle.cs_tree_model.specs.Maps.Orders.{both_true}
use Rattle.cs_frozen.specs.Numbers.{entry_number, numbers_of, ArePlaces}
use Rattle.cs_frozen.proofs.Places.{Entry, nth_found, nth_numbers, rises}

-- an entry with its number alone
abbrev pub numbered : List Entry → List (Path × ℕ)
numbered [] = []
numbered (e ∷ es) = (e.0, e.1.number) ∷ numbered es

find_numbered : (q : Path) (es : List Entry) → find path_cmp q (numbered es) ≡ option_map (λ (r : Record). r.number) (find path_cmp q es)
find_numbered q [] = refl
find_numbered q (e ∷ es) = ap (cond (eq_by_cmp path_cmp q e.0) (Some e.1.number)) (find_numbered q es) ∙ by (eq_by_cmp path_cmp q e.0)
  where
    by : (b : Bool)
        → cond b (Some e.1.number) (option_map (λ (r : Record). r.number) (find path_cmp q es))
        ≡ option_map (λ (r : Record). r.number) (cond b (Some e.1) (find path_cmp q es))
    by true = refl
    by false = refl

below_numbered : (p : Path) (es : List Entry) → below_all path_cmp p (numbered es) ≡ below_all path_cmp p es
below_numbered p [] = refl
below_numbered p (e ∷ es) = ap (λ b. is_lt (path_cmp p e.0) && b) (below_numbered p es)

sorted_numbered : (es : List Entry) → is_sorted path_cmp (numbered es) ≡ is_sorted path_cmp es
sorted_numbered [] = refl
sorted_numbered (e ∷ es) = λ i. below_numbered e.0 es i && sorted_numbered es i

-- keys that strictly rise
below_from : (p : Path) (es : List (Path × ℕ)) → AllByRecursion (λ y. path_cmp p y ≡ Less) (keys_of es) → T (below_all path_cmp p es)
below_from p [] h = tt
below_from p (e ∷ es) h = both_true _ _ (subst (λ o. T (is_lt o)) (sym h.0) tt) (below_from p es h.1)

sorted_from : (es : List (Path × ℕ)) → IsStrictlySortedBy path_cmp (keys_of es) → T (is_sorted path_cmp es)
sorted_from [] h = tt
sorted_from (e ∷ es) h =
    both_true _ _ (below_from e.0 es (sorted_head path_cmp e.0 (keys_of es) h)) (sorted_from es (sorted_tail path_cmp e.0 (keys_of es) h))

find_lookup : (es : List (Path × ℕ)) (q : Path) → find path_cmp q es ≡ lookup (is_at (path_cmp q)) es
find_lookup [] q = refl
find_lookup (e ∷ es) q = ap (cond (is_at (path_cmp q) e.0) (Some e.1)) (find_lookup es q)

values_numbered : (es : List Entry) → values_of (numbered es) ≡ map entry_number es
values_numbered [] = refl
values_numbered (e ∷ es) = ap (λ w. e.1.number ∷ w) (values_numbered es)

pub numbers_are : (t : Tree) (m : BTreeMap Path ℕ) → IsOrdered path_cmp m → ((q : Path) → get path_cmp m q ≡ number_at t q)
    → values m ≡ numbers_of t.files
numbers_are t m ordered same = ap values_of (same_entries path_cmp path_total path_exact m.entries (numbered (entries t.files))
    (sorted_from m.entries ordered) (subst (λ b. T b) (sym (sorted_numbered (entries t.files))) (entries_sorted t.files))
    (λ q. find_lookup m.entries q ∙ same q ∙ ap (option_map (λ (r : Record). r.number)) (get-entries t.files q) ∙ sym
    (find_numbered q (entries t.files))))
    ∙ values_numbered (entries t.files)

module _ (t : Tree) (h : IsTree t) where
  entry_of : (i n : ℕ) → slice_get (numbers_of t.files) i ≡ Some n → (e : Entry) × (slice_get (entries t.files) i ≡ Some e)
      × (e.1.number ≡ n)
  entry_of i n is = by (slice_get (entries t.files) i) refl (sym (nth_numbers i (entries t.files)) ∙ is)
    where
      by : (o : Option Entry) → slice_get (entries t.files) i ≡ o → option_map entry_number (slice_get (entries t.files) i) ≡ Some n
          → (e : Entry) × (slice_get (entries t.files) i ≡ Some e) × (e.1.number ≡ n)
      by None e w = absurd (false≢true (sym (ap (λ v. is_some (option_map entry_number v)) e) ∙ ap is_some w))
      by (Some d) e w = (d, e, (let two : Some d.1.number ≡ Some n = sym (ap (option_map entry_number) e) ∙ w in cc))

  same_path : (i j : ℕ) (e f : Entry) → slice_get (entries t.files) i ≡ Some e → slice_get (entries t.files) j ≡ Some f → e.0 ≡ f.0 → i < j
      → ⊥
  same_path i j e f is js same lt =
      let r = rises (entries t.files) (entries_sorted t.files) i j e f lt is js in
      subst (λ o. T (is_lt o)) (ap (path_cmp e.0) (sym same) ∙ tied_itself path_total e.0) r

  pub numbers_apart : (i j n : ℕ) → slice_get (numbers_of t.files) i ≡ Some n → slice_get (numbers_of t.files) j ≡ Some n → i ≡ j
  numbers_apart i j n is js =
      let e = entry_of i n is in let f = entry_of j n js in
      let there =
      λ (k : ℕ) (d : Entry) (w : slice_get (entries t.files) k ≡ Some d). get-entries t.files d.0 ∙ nth_found k (entries t.files)
      (entries_sorted t.files) d w in
      let same : e.0.0 ≡ f.0.0 = h.apart e.0.0 f.0.0 e.0.1 f.0.1 (there i e.0 e.1) (there j f.0 f.1) (e.2 ∙ sym f.2) in
      ⊎_elim
      (λ (z : i ≡ j). z)
      (λ (ne : i ≢ j). ⊎_elim
      (λ (lt : i < j). absurd (same_path i j e.0 f.0 e.1 f.1 same lt))
      (λ (le : _). absurd (same_path j i f.0 e.0 f.1 e.1 (sym same) (omega (arith, ne, le))))
      (cases_lt i j))
      (cases_eq i j)

  pub numbers_below : (i n : ℕ) → slice_get (numbers_of t.files) i ≡ Some n → n < t.next
  numbers_below i n is =
      let e = entry_of i n is in
      let lt = h.below e.0.0 e.0.1 (get-entries t.files e.0.0 ∙ nth_found i (entries t.files) (entries_sorted t.files) e.0 e.1) in
      subst (λ k. k < t.next) e.2 lt

pub places_are : (t : Tree) (ns : List ℕ) (place : ℕ → Option ℕ) → ns ≡ numbers_of t.files
    → ((i n : ℕ) → slice_get ns i ≡ Some n → place n ≡ Some i) → ArePlaces t.files place
places_are t ns place same h =
    λ i e is. h i e.1.number (ap (λ l. slice_get l i) same ∙ nth_numbers i (entries t.files) ∙ ap (option_map entry_number) is)

-- the places of the first of the numbers
pub record PlacedSoFar (numbers places : List ℕ) (end place : ℕ) : Type 0 where
  pub whole : length places ≡ end
  pub placed : (j n : ℕ) → j < place → slice_get numbers j ≡ Some n → slice_get places n ≡ Some j

module _ (ns ps : List ℕ) (end i : ℕ) (so_far : PlacedSoFar ns ps end i) (within : i < length ns)
    (below : (j n : ℕ) → slice_get ns j ≡ Some n → n < end) where
  abbrev here : ℕ
  here = get_or ns i 0

  pub here_below : here < end
  here_below = below i here (slice_get-get_or ns i 0 within)

  here_within : here < length ps
  here_within = omega (arith, here_below, so_far.whole)

  -- one place more
  pub one_more : ((j k n : ℕ) → slice_get ns j ≡ Some n → slice_get ns k ≡ Some n → j ≡ k) → PlacedSoFar ns (set ps here i) end (i + 1)
  one_more apart = record {
    whole = length-set ps here i ∙ so_far.whole;
    placed = λ j n lt is. ⊎_elim
        (λ (e : j ≡ i).
        let same : here ≡ n = get_or_from_slice_get ns i n 0 (ap (slice_get ns) (sym e) ∙ is) in
        let there : here < length (set ps here i) = omega (arith, here_within, length-set ps here i) in
        ap (slice_get (set ps here i)) (sym same) ∙ slice_get-get_or (set ps here i) here 0 there ∙ ap Some
        (get_or-set_same ps here i 0 here_within ∙ sym e))
        (λ (ne : j ≢ i).
        let other : n ≢ here = λ same. ne (apart j i n is (slice_get-get_or ns i 0 within ∙ ap Some (sym same))) in
        let earlier : j < i = omega (arith, ne, lt) in
        let before = so_far.placed j n earlier is in
        let there = slice_get_within ps n j before in
        let still : n < length (set ps here i) = omega (arith, there, length-set ps here i) in
        slice_get-get_or (set ps here i) n 0 still ∙ ap Some (get_or-set_other ps here n i 0 other) ∙ sym (slice_get-get_or ps n 0 there) ∙
        before)
        (cases_eq j i);
  }
