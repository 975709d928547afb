-- The records of what is at the paths of a state.
use Rattle.std.proofs.Common.{◌≡◌, ℕ, zero, suc, ◌+◌, ◌<◌, ◌==◌, Bool, true, false, cond, List, [], ◌∷◌, ◌++◌, ◌⊎◌, inl, inr, None, Some, refl, sym, ap}
use Rattle.std.proofs.Common.{◌∙◌, subst, arith, ⊎_elim, length, length-append, append_assoc, get_or}
use Rattle.std.proofs.lemmas.List.Elements.{All-from_get_or}
use Rattle.std.specs.FinMap.{entries, entries_sorted, find, get, get-entries, get-from_entries}
use Rattle.std.specs.List.{All, flat_map}
use Rattle.cs_entries.specs.declared.entry.Entry.{Entry}
use Rattle.cs_entries.specs.declared.node.FileKind.{FileKind}
use Rattle.cs_entries.specs.declared.node.Node.{Node}
use Rattle.cs_entries.specs.declared.node.Node.TheVariants.{Directory, File}
use Rattle.cs_entries.specs.Tables.{below, below_entry, below_if, paths_in}
use Rattle.cs_entries.specs.Laws.Listed.{In}
use Rattle.cs_entries.specs.Laws.Records.{find_in, in_find}
use Rattle.cs_tree_model.specs.declared.mode.TheConstants.{DMDIR}
use Rattle.cs_tree_model.specs.declared.record.Record.{Record}
use Rattle.cs_tree_model.specs.Fresh.{fresh, fresh_record, listing, with_numbers_from}
use Rattle.cs_tree_model.specs.Laws.Paths.{path_exact, path_total}
use Rattle.cs_tree_model.specs.Listing.{tree_of_records}
use Rattle.cs_tree_model.specs.Maps.Values.{entries-map_values, map_entries}
use Rattle.cs_tree_model.specs.Tree.{Path, path_cmp}
use Rattle.cs_start.specs.declared.rights.Rights.{Rights}
use Rattle.cs_trace.specs.Traces.{Trace}
use Rattle.cs_micro.specs.declared.micro_op.MicroOp.{MicroOp}
use Rattle.cs_apm.specs.Atlases.{directories_left, files_left, owners_left}
use Rattle.cs_apm.specs.Owners.{directory_left, owner_left}
use Rattle.cs_apm.specs.Slots.{AreKnown, IsKnown, Slot, held_in_slots, table_of_slots}
use Rattle.cs_apm.specs.States.{State, directories_of, kind_bit, no_content, no_rights, nodes_left, owners_of, record_of, record_with, records_of}
use Rattle.cs_apm.specs.States.{start_state, state_of, tree_of_state, visible}
use Rattle.cs_apm.specs.Laws.Mirrors.{entries-held}
use Rattle.cs_apm.specs.Slots.{AreAscending}
use Rattle.cs_apm.proofs.Owning.{left_directory, left_owner}

-- ---- one record

module _ (t : Trace) (ops : List MicroOp) (places : List ℕ) (number : ℕ) where
  pub directory_record : (d : ℕ) (all : List Rights) (rights : Rights) (made : Record) → all ≡ directories_of t ops → d < length all
      → rights ≡ directory_left d (get_or all d no_rights) ops places
      → made ≡ fresh_record number (record_with rights DMDIR None)
      → made ≡ fresh_record number (record_of (state_of (start_state t) ops places) (Directory d))
  unfolding directories_left
  directory_record d all rights made own low has is =
      is ∙ ap (λ r. fresh_record number (record_with r DMDIR None))
      (has ∙ ap (λ ds. directory_left d (get_or ds d no_rights) ops places) own
      ∙ left_directory t ops places d (subst (λ ds. d < length ds) own low))

  pub file_record : (kind : FileKind) (file : ℕ) (all : List Rights) (rights : Rights) (bytes : List ℕ) (made : Record)
      → all ≡ owners_of t ops → file < length all
      → rights ≡ owner_left file (get_or all file no_rights) ops places
      → bytes ≡ visible (get_or (files_left t ops places) file no_content)
      → made ≡ fresh_record number (record_with rights (kind_bit kind) (Some bytes))
      → made ≡ fresh_record number (record_of (state_of (start_state t) ops places) (File kind file))
  unfolding owners_left files_left
  file_record kind file all rights bytes made own low has shows is =
      is ∙ (λ i. fresh_record number (record_with
      ((has ∙ ap (λ os. owner_left file (get_or os file no_rights) ops places) own
      ∙ left_owner t ops places file (subst (λ os. file < length os) own low)) i)
      (kind_bit kind) (Some (shows i))))

-- ---- one after the other

pub one_more : (F : Node → Record) (vs new whole : List (Path × Record)) (x : Path × Node) (xs : List (Path × Node)) (r : Record) (n : ℕ)
    → new ≡ vs ++ (x.0, r) ∷ [] → n ≡ length vs → r ≡ fresh_record n (F x.1)
    → vs ++ with_numbers_from (length vs) (map_entries F (x ∷ xs)) ≡ whole
    → new ++ with_numbers_from (length new) (map_entries F xs) ≡ whole
one_more F vs new whole x xs r n pushed count is so_far =
    let long : length new ≡ length vs + 1 = ap length pushed ∙ length-append vs ((x.0, r) ∷ []) in
    (λ i. pushed i ++ with_numbers_from (long i) (map_entries F xs))
    ∙ append_assoc vs ((x.0, r) ∷ []) (with_numbers_from (length vs + 1) (map_entries F xs))
    ∙ ap (λ w. vs ++ (x.0, w) ∷ with_numbers_from (length vs + 1) (map_entries F xs)) (is ∙ ap (λ k. fresh_record k (F x.1)) count)
    ∙ so_far

-- ---- what is at the paths is known

module _ (d f : ℕ) where
  abbrev pub AreKnownNodes : {K : Type 0} → List (K × Node) → Type 0
  AreKnownNodes [] = Unit {0}
  AreKnownNodes (x ∷ xs) = IsKnown d f (Some x.1) × AreKnownNodes xs

  known_append : {K : Type 0} (xs ys : List (K × Node)) → AreKnownNodes xs → AreKnownNodes ys → AreKnownNodes (xs ++ ys)
  known_append [] ys h k = k
  known_append (x ∷ xs) ys h k = (h.0, known_append xs ys h.1 k)

  known_held : (es : List Entry) (ss : List Slot) → AreKnown d f ss → AreKnownNodes (held_in_slots es ss)
  known_held [] ss h = tt
  known_held (e ∷ es) [] h = tt
  known_held (e ∷ es) (None ∷ ss) h = known_held es ss (λ i. h (suc i))
  known_held (e ∷ es) (Some node ∷ ss) h = (h 0, known_held es ss (λ i. h (suc i)))

  known_if : (more : Path → ℕ → List (Path × Node)) (path : Path) (c : ℕ) → ((p : Path) (b : ℕ) → AreKnownNodes (more p b))
      → (x : Entry × Node) → IsKnown d f (Some x.1) → AreKnownNodes (below_if more path c x)
  known_if more path c all (e, File kind file) h = by (e.directory == c)
    where
      by : (b : Bool) → AreKnownNodes (cond b (below_entry more path (e, File kind file)) [])
      by true = (h, tt)
      by false = tt
  known_if more path c all (e, Directory b) h = by (e.directory == c)
    where
      by : (t : Bool) → AreKnownNodes (cond t (below_entry more path (e, Directory b)) [])
      by true = (h, all (path ++ e.name ∷ []) b)
      by false = tt

  known_flat : (g : Entry × Node → List (Path × Node)) → ((x : Entry × Node) → IsKnown d f (Some x.1) → AreKnownNodes (g x))
      → (es : List (Entry × Node)) → AreKnownNodes es → AreKnownNodes (flat_map g es)
  known_flat g each [] h = tt
  known_flat g each (x ∷ es) h = known_append (g x) (flat_map g es) (each x h.0) (known_flat g each es h.1)

  known_below : (es : List (Entry × Node)) → AreKnownNodes es → (n : ℕ) (path : Path) (c : ℕ) → AreKnownNodes (below es n path c)
  known_below es h zero path c = tt
  known_below es h (suc n) path c =
      known_flat (below_if (below es n) path c) (known_if (below es n) path c (known_below es h n)) es h

  known_in : (x : Path × Node) (xs : List (Path × Node)) → In x xs → AreKnownNodes xs → IsKnown d f (Some x.1)
  known_in x [] at h = absurd at
  known_in x (y ∷ ys) at h = ⊎_elim
      (λ (is : x ≡ y). subst (λ v. IsKnown d f (Some v.1)) (sym is) h.0)
      (λ (is : In x ys). known_in x ys is h.1)
      at

  in_at : (xs : List (Path × Node)) (i : ℕ) (e : Path × Node) → i < length xs → In (get_or xs i e) xs
  in_at [] i e low = absurd (omega (arith, low))
  in_at (x ∷ xs) zero e low = inl refl
  in_at (x ∷ xs) (suc i) e low = inr (in_at xs i e (omega (arith, low)))

  known_path : (deep : ℕ) (es : List Entry) (ss : List Slot) → AreAscending es → AreKnown d f ss → 0 < d → (p : Path) (node : Node)
      → get (paths_in deep (table_of_slots es ss)) p ≡ Some node → IsKnown d f (Some node)
  unfolding paths_in
  known_path deep es ss up known some p node is =
      let all = ([], Directory 0) ∷ below (entries (table_of_slots es ss)) deep [] 0 in
      known_in (p, node) all
      (find_in path_total path_exact p all node (sym (get-from_entries path_total all p) ∙ is)) (
        some,
        known_below (entries (table_of_slots es ss))
            (subst AreKnownNodes (sym (entries-held es ss up)) (known_held es ss known)) deep [] 0,
      )

  pub known_paths : (deep : ℕ) (es : List Entry) (ss : List Slot) → AreAscending es → AreKnown d f ss → 0 < d
      → All (λ x. IsKnown d f (Some x.1)) (entries (paths_in deep (table_of_slots es ss)))
  known_paths deep es ss up known some =
      let m = paths_in deep (table_of_slots es ss) in
      All-from_get_or (λ x. IsKnown d f (Some x.1)) (entries m) ([], Directory 0)
      (λ i low.
      let x = get_or (entries m) i ([], Directory 0) in
      known_path deep es ss up known some x.0 x.1
      (get-entries m x.0 ∙ in_find path_total path_exact x.0 (entries m) x.1 (entries_sorted m)
      (in_at (entries m) i ([], Directory 0) low)))

-- ---- all of them

module _ (s : State) (deep : ℕ) (es : List Entry) (ss : List Slot) (nodes : List (Path × Node))
    (down : length s.directories + 1 ≡ deep) (same : s.entries ≡ table_of_slots es ss)
    (are : nodes ≡ entries (paths_in deep (table_of_slots es ss))) where
  pub listed : with_numbers_from 0 (map_entries (record_of s) nodes) ≡ listing (records_of s)
  listed =
      ap (λ v. with_numbers_from 0 (map_entries (record_of s) v))
      (are ∙ (λ i. entries (paths_in (sym down i) (sym same i))))
      ∙ ap (with_numbers_from 0) (sym (entries-map_values path_cmp (record_of s) (nodes_left s)))

  pub listed_tree : (records : List (Path × Record)) → records ≡ with_numbers_from 0 (map_entries (record_of s) nodes)
      → tree_of_records records ≡ tree_of_state s
  unfolding fresh
  listed_tree records is = ap tree_of_records (is ∙ listed)
