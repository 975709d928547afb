-- A table that is a tree has a path for each entry at most, and the root's.
use Rattle.std.proofs.Common.{◌≡◌, ◌≢◌, ℕ, zero, suc, ◌+◌, ◌<◌, ◌≤◌, ◌==◌, ◌⊎◌, inl, inr, Bool, true, false, cond, T, List, [], ◌∷◌, ◌++◌}
use Rattle.std.proofs.Common.{Option, Some, length, map, refl, sym, ap, ◌∙◌, subst, ⊎_elim, arith, length-append}
use Rattle.std.proofs.lemmas.Bool.{cases_Bool, false≢true, or_cases}
use Rattle.std.proofs.lemmas.List.{length-map}
use Rattle.std.proofs.lemmas.Map.Steps.{length-le_from_keys}
use Rattle.std.specs.Cmp.{eq_by_cmp_equiv}
use Rattle.std.specs.FinMap.{FinMap, contains_key, entries, entries_sorted, find, from_entries, get, get-entries, get-from_entries, insert}
use Rattle.std.specs.FinMap.{is_sorted, len, len-entries, len-insert}
use Rattle.std.specs.FinMap.Entries.{below_all}
use Rattle.std.specs.List.{AllByRecursion, IsDistinct, list_any}
use Rattle.std.specs.Prelude.{IsSome}
use Rattle.std.specs.Ordering.{eq_by_cmp, is_eq}
use Rattle.std.specs.Map.{lookup}
use Rattle.std.specs.declared.cmp.Ordering.TheVariants.{Less}
use Rattle.cs_tree_model.specs.Laws.Paths.{path_exact, path_total}
use Rattle.cs_tree_model.specs.Maps.Changes.{key_cases}
use Rattle.cs_tree_model.specs.Maps.Orders.{both_first, both_second, less_of}
use Rattle.cs_tree_model.specs.Tree.{Path, path_cmp}
use Rattle.cs_entries.specs.DirEntries.{root_home}
use Rattle.cs_entries.specs.Legal.{IsTree}
use Rattle.cs_entries.specs.Paths.{at_path, entry_in}
use Rattle.cs_entries.specs.Tables.{Table, below, below_entry, below_if, entry_cmp, held_in, paths_in}
use Rattle.cs_entries.specs.Laws.Listed.{In, flat_map_in, listed_leads}
use Rattle.cs_entries.specs.Laws.Paths.{IsMore, in_directory, last_cases, one_path}
use Rattle.cs_entries.specs.Laws.Records.{entry_exact, entry_total, find_in, in_find, in_table}
use Rattle.cs_entries.specs.declared.entry.Entry.{Entry}
use Rattle.cs_entries.specs.declared.node.Node.{Node}
use Rattle.cs_entries.specs.declared.node.Node.TheVariants.{Directory, File}

abbrev number_at : Option Node → ℕ
number_at (Some (Directory d)) = d
number_at _ = 0

-- a path that ends in the entry's name, whose front leads to the entry's directory
record IsEntryOf (t : Table) (p : Path) (e : Entry) : Type 0 where
  front : Path
  is : p ≡ front ++ e.name ∷ []
  above : at_path (held_in t) front ≡ Some (Directory e.directory)
  node : Node
  held : held_in t e ≡ Some node

-- what is listed below a path is longer
longer : (es : List (Entry × Node)) (n : ℕ) (p : Path) (d : ℕ) (q : Path) (v : Node) → In (q, v) (below es n p d) → length p < length q
longer es zero p d q v h = absurd h
longer es (suc n) p d q v h = (let w = flat_map_in (below_if (below es n) p d) es (q, v) h in by w.0.0 w.0.1 (longer es n) w.2)
  where
    by : (e : Entry) (node : Node)
        → ((p : Path) (d : ℕ) (q : Path) (v : Node) → In (q, v) (below es n p d) → length p < length q)
        → In (q, v) (below_if (below es n) p d (e, node)) → length p < length q
    by e node more l = ⊎_elim
        (λ (yes : (e.directory == d) ≡ true).
        here node (subst (In (q, v)) (ap (λ b. cond b (below_entry (below es n) p (e, node)) []) yes) l))
        (λ (no : (e.directory == d) ≡ false).
        absurd (subst (In (q, v)) (ap (λ b. cond b (below_entry (below es n) p (e, node)) []) no) l))
        (cases_Bool (e.directory == d))
      where
        long : length (p ++ e.name ∷ []) ≡ length p + 1
        long = length-append p (e.name ∷ [])

        first : (node : Node) → ◌≡◌ {A = Path × Node} (q, v) (p ++ e.name ∷ [], node) → length p < length q
        first node s = (let same : length q ≡ length (p ++ e.name ∷ []) = ap (λ x. length x.0) s in let l = long in omega (arith, same, l))

        here : (node : Node) → In (q, v) (below_entry (below es n) p (e, node)) → length p < length q
        here (Directory c) at = ⊎_elim
            (λ (s : ◌≡◌ {A = Path × Node} (q, v) (p ++ e.name ∷ [], Directory c)). first (Directory c) s)
            (λ (r : In (q, v) (below es n (p ++ e.name ∷ []) c)).
            (let m = more (p ++ e.name ∷ []) c q v r in let l = long in omega (arith, m, l)))
            at
        here (File kind file) at = ⊎_elim
            (λ (s : ◌≡◌ {A = Path × Node} (q, v) (p ++ e.name ∷ [], File kind file)). first (File kind file) s)
            (λ (none : ⊥). absurd none)
            at

find_looks : {X : Type 0} (q : Entry) (es : List (Entry × X)) → find entry_cmp q es ≡ lookup (eq_by_cmp entry_cmp q) es
find_looks q [] = refl
find_looks q (e ∷ es) = ap (cond (eq_by_cmp entry_cmp q e.0) (Some e.1)) (find_looks q es)

equal_entries : (q e : Entry) → eq_by_cmp entry_cmp q e ≡ true → q ≡ e
equal_entries q e is = ⊎_elim
    (λ (one : (eq_by_cmp entry_cmp q e ≡ true) × (q ≡ e)). one.1)
    (λ (two : (eq_by_cmp entry_cmp q e ≡ false) × (q ≢ e)). absurd (false≢true (sym two.0 ∙ is)))
    (key_cases entry_total entry_exact q e)

other_entries : (q e : Entry) → q ≢ e → eq_by_cmp entry_cmp q e ≡ false
other_entries q e apart = ⊎_elim
    (λ (one : (eq_by_cmp entry_cmp q e ≡ true) × (q ≡ e)). absurd (apart one.1))
    (λ (two : (eq_by_cmp entry_cmp q e ≡ false) × (q ≢ e)). two.0)
    (key_cases entry_total entry_exact q e)

module _ (t : Table) (tree : IsTree (held_in t)) where
  entry_by : (p : Path) → (p ≡ []) ⊎ IsMore p → Entry
  unfolding number_at
  entry_by p (inl none) = root_home
  entry_by p (inr w) = entry_in (number_at (at_path (held_in t) w.front)) w.last

  entry_for : Path → Entry
  entry_for p = entry_by p (last_cases p)

  is_entry : (p : Path) (v : Node) → at_path (held_in t) p ≡ Some v → p ≢ [] → IsEntryOf t p (entry_for p)
  unfolding entry_for entry_by number_at
  is_entry p v h named = by (last_cases p)
    where
      by : (c : (p ≡ []) ⊎ IsMore p) → IsEntryOf t p (entry_by p c)
      by (inl none) = absurd (named none)
      by (inr w) =
          (let i = in_directory (held_in t) w.front w.last v (ap (at_path (held_in t)) (sym w.is) ∙ h) in
          let number : number_at (at_path (held_in t) w.front) ≡ i.directory = ap number_at i.above in
          record {
            front = w.front;
            is = w.is;
            above = i.above ∙ ap (λ d. Some (Directory d)) (sym number);
            node = v;
            held = ap (λ d. held_in t (entry_in d w.last)) number ∙ i.held;
          })

  -- each entry is of one path
  one : (p q : Path) (e f : Entry) → IsEntryOf t p e → IsEntryOf t q f → e ≡ f → p ≡ q
  one p q e f a b same =
      (let front = one_path (held_in t) tree (length a.front) a.front b.front e.directory (omega arith) a.above
      (b.above ∙ ap (λ g. Some (Directory g.directory)) (sym same)) in
      a.is ∙ (λ i. front i ++ (same i).name ∷ []) ∙ sym b.is)

  abbrev AreEntries : List (Path × Node) → Type 0
  AreEntries xs = (q : Path) (v : Node) → In (q, v) xs → IsEntryOf t q (entry_for q)

  abbrev entries_for : List (Path × Node) → List Entry
  entries_for xs = map (λ x. entry_for x.0) xs

  no_less : (p q : Path) → path_cmp p q ≡ Less → p ≢ q
  no_less p q less same =
      false≢true (sym (ap is_eq less) ∙ ap (eq_by_cmp path_cmp p) (sym same) ∙ (eq_by_cmp_equiv path_total).refl p)

  apart : (p : Path) (v : Node) (xs : List (Path × Node)) → IsEntryOf t p (entry_for p) → AreEntries xs → T (below_all path_cmp p xs)
      → AllByRecursion (λ y. eq_by_cmp entry_cmp (entry_for p) y ≡ false) (entries_for xs)
  apart p v [] own each above = tt
  apart p v (x ∷ xs) own each above = (
    other_entries (entry_for p) (entry_for x.0)
        (λ same. no_less p x.0 (less_of _ (both_first _ _ above))
        (one p x.0 (entry_for p) (entry_for x.0) own (each x.0 x.1 (inl refl)) same)),
    apart p v xs own (λ q w h. each q w (inr h)) (both_second _ _ above),
  )

  distinct : (xs : List (Path × Node)) → AreEntries xs → T (is_sorted path_cmp xs) → IsDistinct (eq_by_cmp entry_cmp) (entries_for xs)
  unfolding IsDistinct
  distinct [] each sorted = tt
  distinct (x ∷ xs) each sorted = (
    apart x.0 x.1 xs (each x.0 x.1 (inl refl)) (λ q w h. each q w (inr h)) (both_first _ _ sorted),
    distinct xs (λ q w h. each q w (inr h)) (both_second _ _ sorted),
  )

  there : (xs : List (Path × Node)) → AreEntries xs → (q : Entry) → list_any (eq_by_cmp entry_cmp q) (entries_for xs) ≡ true
      → IsSome (lookup (eq_by_cmp entry_cmp q) (entries t))
  there [] each q h = absurd (false≢true h)
  there (x ∷ xs) each q h = ⊎_elim
      (λ (first : eq_by_cmp entry_cmp q (entry_for x.0) ≡ true).
      (let e = each x.0 x.1 (inl refl) in
      let is : lookup (eq_by_cmp entry_cmp q) (entries t) ≡ Some e.node =
      sym (find_looks q (entries t)) ∙ sym (get-entries t q) ∙ ap (get t) (equal_entries q (entry_for x.0) first) ∙ e.held in
      subst IsSome (sym is) refl))
      (λ (later : list_any (eq_by_cmp entry_cmp q) (entries_for xs) ≡ true). there xs (λ q w h. each q w (inr h)) q later)
      (or_cases _ _ h)

  fewer : (m : FinMap path_cmp Node) → AreEntries (entries m) → len m ≤ len t
  fewer m each =
      (let long =
      length-le_from_keys (eq_by_cmp_equiv entry_total) (entries_for (entries m)) (entries t) (distinct (entries m) each (entries_sorted m))
      (there (entries m) each) in
      let same = length-map (entries m) (λ x. entry_for x.0) in
      let own = len-entries m in
      let all = len-entries t in
      omega (arith, long, same, own, all))

  most_inserted : (b : Bool) (n k : ℕ) → n ≡ cond b k (k + 1) → n ≤ k + 1
  most_inserted true n k e = omega (arith, e)
  most_inserted false n k e = omega (arith, e)

  pub few_paths : (deep : ℕ) → len (paths_in deep t) ≤ len t + 1
  unfolding paths_in
  few_paths deep =
      (let listed = below (entries t) deep [] 0 in
      let m : FinMap path_cmp Node = from_entries listed in
      let each : AreEntries (entries m) = λ q v h.
      (let inside : In (q, v) listed =
      find_in path_total path_exact q listed v
      (sym (get-from_entries path_total listed q) ∙ get-entries m q ∙ in_find path_total path_exact q (entries m) v (entries_sorted m) h) in
      let w = listed_leads (held_in t) (entries t) (in_table t) deep [] 0 q v inside in
      let long = longer (entries t) deep [] 0 q v inside in
      is_entry q v (ap (at_path (held_in t)) w.1 ∙ w.2) (λ none. absurd (omega (arith, long, ap length none)))) in
      let most =
      most_inserted (contains_key m []) (len (insert m [] (Directory 0))) (len m) (len-insert path_total m [] (Directory 0)) in
      let few = fewer m each in
      omega (arith, most, few))
