-- What entries hold, from what is at each path: if names lead to what the paths have, it is the same.
use Rattle.std.proofs.Common.{◌≡◌, ◌≢◌, ℕ, suc, ◌+◌, ◌-◌, List, [], ◌∷◌, ◌++◌, Option, None, Some, length}
use Rattle.std.proofs.Common.{refl, sym, ap, ◌∙◌, arith, subst, ⊎_elim, inl, length-append}
use Rattle.std.specs.FinMap.{FinMap, entries, entries_sorted, find, from_entries, get, get-entries, get-from_entries, same_map}
use Rattle.std.specs.List.{flat_map}
use Rattle.std.specs.Prelude.{slice_index_or}
use Rattle.cs_entries.specs.DirEntries.{entry_of, last_name}
use Rattle.cs_entries.specs.declared.entry.Entry.{Entry}
use Rattle.cs_entries.specs.Laws.Listed.{In, flat_map_in, in_flat_map}
use Rattle.cs_entries.specs.Laws.Paths.{IsMore, entry_path, in_directory, last_cases}
use Rattle.cs_entries.specs.Laws.Records.{entry_exact, entry_total, find_in, in_find, in_found}
use Rattle.cs_entries.specs.Legal.{IsTree}
use Rattle.cs_entries.specs.Paths.{at_path, entry_in}
use Rattle.cs_entries.specs.Tables.{Table, entry_cmp, held_in}
use Rattle.cs_entries.specs.declared.node.Node.{Node}
use Rattle.cs_entries.specs.declared.node.Node.TheVariants.{Directory}
use Rattle.cs_tree_model.specs.Laws.Paths.{option_cases, path_exact, path_total}
use Rattle.cs_tree_model.specs.Laws.Reads.{parent_of_snoc}
use Rattle.cs_tree_model.specs.Tree.{Path, parent_path, path_cmp}
use Rattle.cs_trace.specs.Judging.{directory_number}
use Rattle.cs_trace.specs.Traces.{Paths, entries_of_paths, entry_in_paths, held_by_path}

index_last : (front : Path) (name : List ℕ) → slice_index_or (front ++ name ∷ []) (length front) [] ≡ name
index_last [] name = refl
index_last (x ∷ front) name = index_last front name

pub last_of_snoc : (front : Path) (name : List ℕ) → last_name (front ++ name ∷ []) ≡ name
last_of_snoc front name =
    let long : length (front ++ name ∷ []) - 1 ≡ length front = omega (arith, length-append front (name ∷ [])) in
    ap (λ n. slice_index_or (front ++ name ∷ []) n []) long ∙ index_last front name

module _ (m : Paths) (t : Table) (tree : IsTree (held_in t)) (agree : (p : Path) → at_path (held_in t) p ≡ get m p) where
  abbrev listed : List (Entry × Node)
  listed = flat_map (held_by_path m) (entries m)

  -- the entry of a path is the one that its names lead to
  same_entry : (front : Path) (name : List ℕ) (k : ℕ) → at_path (held_in t) front ≡ Some (Directory k)
      → entry_in_paths m (front ++ name ∷ []) ≡ entry_in k name
  same_entry front name k above = λ i. record {
    directory =
        (ap (λ p. directory_number (get m p)) (parent_of_snoc front name)
        ∙ ap directory_number (sym (agree front) ∙ above)) i;
    name = last_of_snoc front name i;
  }

  held_at : (p : Path) (node : Node) → In (p, node) (entries m) → get m p ≡ Some node
  held_at p node inside = get-entries m p ∙ in_find path_total path_exact p (entries m) node (entries_sorted m) inside

  one_held : (e : Entry) (v : Node) (p : Path) (node : Node) → at_path (held_in t) p ≡ Some node
      → ◌≡◌ {A = Entry × Node} (e, v) (entry_in_paths m p, node) → p ≢ [] → get t e ≡ Some v
  one_held e v p node at is named = ⊎_elim
      (λ (none : p ≡ []). absurd (named none))
      (λ (w : IsMore p).
      (let i = in_directory (held_in t) w.front w.last node (ap (at_path (held_in t)) (sym w.is) ∙ at) in
      let same = ap (entry_in_paths m) w.is ∙ same_entry w.front w.last i.directory i.above in
      ap (get t) (ap (λ (x : Entry × Node). x.0) is ∙ same) ∙ i.held ∙ ap (λ (x : Entry × Node). Some x.1) (sym is)))
      (last_cases p)

  held_in_list : (e : Entry) (v : Node) (p : Path) (node : Node) → at_path (held_in t) p ≡ Some node
      → In (e, v) (held_by_path m (p, node)) → get t e ≡ Some v
  held_in_list e v [] node at inside = absurd inside
  held_in_list e v (x ∷ p) node at inside = ⊎_elim
      (λ (is : ◌≡◌ {A = Entry × Node} (e, v) (entry_in_paths m (x ∷ p), node)).
      one_held e v (x ∷ p) node at is (λ none. absurd (no_names none)))
      (λ (rest : ⊥). absurd rest)
      inside
    where
      no_names : x ∷ p ≡ [] → ⊥
      no_names h = cc

  leads : (e : Entry) (v : Node) → In (e, v) listed → get t e ≡ Some v
  leads e v inside =
      (let w = flat_map_in (held_by_path m) (entries m) (e, v) inside in
      held_in_list e v w.0.0 w.0.1 (agree w.0.0 ∙ held_at w.0.0 w.0.1 w.1) w.2)

  in_list : (front : Path) (name : List ℕ) (v : Node) → In (entry_in_paths m (front ++ name ∷ []), v)
      (held_by_path m (front ++ name ∷ [], v))
  in_list [] name v = inl refl
  in_list (x ∷ front) name v = inl refl

  lists : (e : Entry) (v : Node) → get t e ≡ Some v → In (e, v) listed
  lists e v held =
      (let w = entry_path (held_in t) tree e v held in
      let there : get m (w.0 ++ e.name ∷ []) ≡ Some v = sym (agree (w.0 ++ e.name ∷ [])) ∙ w.2 in
      let inside = find_in path_total path_exact (w.0 ++ e.name ∷ []) (entries m) v (sym (get-entries m (w.0 ++ e.name ∷ [])) ∙ there) in
      let same = same_entry w.0 e.name e.directory w.1 in
      in_flat_map (held_by_path m) (entries m) (w.0 ++ e.name ∷ [], v) (e, v) inside
      (subst (λ x. In (x, v) (held_by_path m (w.0 ++ e.name ∷ [], v))) same (in_list w.0 e.name v)))

  found : (e : Entry) → find entry_cmp e listed ≡ get t e
  found e = by (find entry_cmp e listed) refl
    where
      by : (o : Option Node) → find entry_cmp e listed ≡ o → find entry_cmp e listed ≡ get t e
      by (Some v) is = is ∙ sym (leads e v (find_in entry_total entry_exact e listed v is))
      by None is = ⊎_elim
          (λ (none : get t e ≡ None). is ∙ sym none)
          (λ (some : (v : Node) × (get t e ≡ Some v)).
          absurd (in_found entry_total entry_exact e listed some.0 (lists e some.0 some.1) is))
          (option_cases (get t e))

  pub same_table : entries_of_paths m ≡ t
  unfolding entries_of_paths
  same_table = same_map entry_total entry_exact _ _ (λ e. get-from_entries entry_total listed e ∙ found e)
