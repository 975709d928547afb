-- A sound state is a trace.
use Rattle.std.proofs.Common.{◌≡◌, ◌≢◌, ℕ, ◌+◌, ◌*◌, ◌^◌, ◌<◌, ◌≤◌, true, List, [], ◌∷◌, get_or, length, map, Option, None, Some, option_map}
use Rattle.std.proofs.Common.{refl, sym, ap, ◌∙◌, subst, arith, lit≤}
use Rattle.std.proofs.lemmas.List.{length-map}
use Rattle.std.proofs.lemmas.List.Elements.{All-map}
use Rattle.std.proofs.lemmas.Nat.Bits.{and_pow, bit_at_above, bit_at_cat_high}
use Rattle.std.specs.FinMap.{entries, entries_sorted, from_entries, get, len, len-entries, get-entries, get-from_entries, same_map}
use Rattle.std.specs.List.{All, slice_get, zip}
use Rattle.std.specs.List.Sorted.{IsStrictlySortedBy}
use Rattle.std.specs.Option.{option_map_or}
use Rattle.std.specs.Prelude.{bit_and}
use Rattle.cs_entries.specs.Legal.{IsTree}
use Rattle.cs_entries.specs.Tables.{AreNested, held_in}
use Rattle.cs_entries.specs.declared.node.FileKind.{FileKind}
use Rattle.cs_entries.specs.declared.node.FileKind.TheVariants.{Regular, Symlink}
use Rattle.cs_entries.specs.declared.node.Node.{Node}
use Rattle.cs_entries.specs.declared.node.Node.TheVariants.{Directory, File}
use Rattle.cs_names.specs.declared.limits.TheConstants.{TREE_RECORDS}
use Rattle.cs_start.specs.Entries.{StartEntries, nodes_in, record_of, records_in, size_of}
use Rattle.cs_start.specs.declared.entry.StartEntry.{StartEntry}
use Rattle.cs_tree_model.specs.Fresh.{IsNested, fresh, fresh_record, with_numbers_from, place_in}
use Rattle.cs_tree_model.specs.Laws.Fresh.{listing-IsListing, record_at-fresh}
use Rattle.cs_tree_model.specs.Laws.FreshReads.{length-numbered}
use Rattle.cs_tree_model.specs.Laws.Paths.{path_exact, path_total}
use Rattle.cs_tree_model.specs.Maps.Values.{entries-map_values, get-map_values, map_entries, map_values}
use Rattle.cs_tree_model.specs.Record.{IsMarked}
use Rattle.cs_tree_model.specs.Tree.{Path, path_cmp, parent_path}
use Rattle.cs_tree_model.specs.declared.mode.TheConstants.{DMDIR, DMSYMLINK}
use Rattle.cs_tree_model.specs.declared.record.Record.{Record}
use Rattle.cs_trace.specs.Limits.{most_bytes}
use Rattle.cs_trace.specs.Operations.{AreLegal}
use Rattle.cs_trace.specs.State.{State}
use Rattle.cs_trace.specs.Traces.{AreAlikeAt, AreHomes, AreLegalFromStart, AreLinks, IsFileNumbered, IsPathOf, IsRecordOf, IsTrace, Paths}
use Rattle.cs_trace.specs.Traces.{StandsAs, entries_of_paths, paths_of_records, record_in, records_made, size_at, start_paths, start_sizes}
use Rattle.cs_trace.specs.Traces.{start_table, trace_of_state}
use Rattle.cs_trace.proofs.Named.{above_is}
use Rattle.cs_trace.proofs.Sound.{IsSound, IsStart, entry_size, sizes_of, start_of, system_of}
use Rattle.cs_trace.proofs.Started.{FitsNode, keys_ascend, record_at_place, small_by, stands_by}
use Rattle.cs_trace.proofs.StartTables.{same_table}

-- ---- the records are a tree's

no_bit : (n : ℕ) → n < 2 ^ 31 → bit_and n DMDIR ≡ 0
no_bit n low =
    let none = bit_at_above n 31 31 low (lit≤ tt) in
    and_pow n 31 ∙ ap (λ b. b * 2 ^ 31) none

has_bit : (n : ℕ) → n ≤ 511 → bit_and (DMDIR + n) DMDIR ≡ DMDIR
has_bit n low =
    let below : n < 2 ^ 31 = omega arith in
    and_pow (DMDIR + n) 31 ∙ ap (λ b. b * 2 ^ 31) (bit_at_cat_high 1 31 n 31 below (lit≤ tt))

marked_by : (e : StartEntry) (node : Node) → e.rights.permissions ≤ 511 → e.node ≡ node → FitsNode node e.content → IsMarked (record_of e)
marked_by e (Directory d) low is fits = rw (is, fits, has_bit e.rights.permissions low) refl
marked_by e (File Regular file) low is fits =
    let plain : 0 + e.rights.permissions < 2 ^ 31 = omega arith in
    rw (is, fits.1, no_bit (0 + e.rights.permissions) plain) refl
marked_by e (File Symlink file) low is fits =
    let linked : DMSYMLINK + e.rights.permissions < 2 ^ 31 = omega arith in
    rw (is, fits.1, no_bit (DMSYMLINK + e.rights.permissions) linked) refl

abbrev node_at : StartEntry → Node
node_at e = e.node

module _ (m : StartEntries) where
  entry_by : {X : Type 0} (f : StartEntry → X) (p : Path) (x : X) (o : Option StartEntry) → get m p ≡ o → option_map f o ≡ Some x
      → (e : StartEntry)
      × (get m p ≡ Some e) × (f e ≡ x)
  entry_by f p x None at is = absurd (cc)
  entry_by f p x (Some e) at is = (e, at, cc)

  -- the entry that a value of the map comes from
  entry_at : {X : Type 0} (f : StartEntry → X) (p : Path) (x : X) → get (map_values f m) p ≡ Some x → (e : StartEntry) × (get m p ≡ Some e)
      × (f e ≡ x)
  entry_at f p x there = entry_by f p x (get m p) refl (sym (get-map_values path_cmp f m p) ∙ there)

  value_at : {X : Type 0} (f : StartEntry → X) (p : Path) (e : StartEntry) → get m p ≡ Some e → get (map_values f m) p ≡ Some (f e)
  value_at f p e there = get-map_values path_cmp f m p ∙ ap (option_map f) there

  -- a directory's record
  directory_record : ((p : Path) (e : StartEntry) → get m p ≡ Some e → FitsNode e.node e.content) → (p : Path) (d : ℕ)
      → get (map_values node_at m) p ≡ Some (Directory d)
      → (r : Record) × (get (map_values record_of m) p ≡ Some r) × (r.content ≡ None)
  directory_record kinds p d there =
      let e = entry_at node_at p (Directory d) there in
      (record_of e.0, value_at record_of p e.0 e.1, subst (λ node. FitsNode node e.0.content) e.2 (kinds p e.0 e.1))

  -- ---- what is at each path, and the sizes

  zipped : (k : ℕ) (es : List (Path × StartEntry))
      → zip (map (λ e. e.0) (with_numbers_from k (map_entries record_of es))) (map (λ e. e.1.node) es) ≡ map_entries node_at es
  zipped k [] = refl
  zipped k (e ∷ es) = λ i. (e.0, e.1.node) ∷ zipped (k + 1) es i

  same_listing : records_in m ≡ with_numbers_from 0 (map_entries record_of (entries m))
  same_listing = ap (with_numbers_from 0) (entries-map_values path_cmp record_of m)

  same_standing : paths_of_records (records_in m) (nodes_in m) ≡ map_values node_at m
  same_standing =
      ap (λ es. from_entries (zip (map (λ e. e.0) es) (nodes_in m))) same_listing
      ∙ ap from_entries (zipped 0 (entries m) ∙ sym (entries-map_values path_cmp node_at m))
      ∙ same_map path_total path_exact _ _ (λ q. get-from_entries path_total (entries (map_values node_at m)) q
      ∙ sym (get-entries (map_values node_at m) q))

  each_node : length (nodes_in m) ≡ length (records_in m)
  each_node =
      length-map (entries m) (λ e. e.1.node)
      ∙ sym (ap length same_listing ∙ length-numbered 0 (map_entries record_of (entries m)) ∙ length-map (entries m)
      (λ e. (e.0, record_of e.1)))

  size_by : (n : ℕ) (o : Option StartEntry)
      → option_map_or (λ r. size_of r.content) (option_map (fresh_record n) (option_map record_of o)) 0 ≡ entry_size o
  size_by n None = refl
  size_by n (Some e) = refl

  same_record : (p : Path)
      → record_in (records_in m) p ≡ option_map (fresh_record (place_in p (entries (map_values record_of m))))
      (option_map record_of (get m p))
  unfolding fresh
  same_record p =
      record_at-fresh (map_values record_of m) p
      ∙ ap (option_map (fresh_record (place_in p (entries (map_values record_of m))))) (get-map_values path_cmp record_of m p)

  same_size : (p : Path) → size_at (records_in m) p ≡ entry_size (get m p)
  same_size p =
      ap (λ o. option_map_or (λ r. size_of r.content) o 0) (same_record p)
      ∙ size_by (place_in p (entries (map_values record_of m))) (get m p)

  same_all : (files : List Path) → map (size_at (records_in m)) files ≡ map (λ p. entry_size (get m p)) files
  same_all [] = refl
  same_all (p ∷ files) = λ i. same_size p i ∷ same_all files i

-- a file or a symbolic link of the number
file_by : (n : ℕ) (node : Node) → IsFileNumbered n (Some node) → (kind : FileKind) × (node ≡ File kind n)
file_by n (Directory d) is = absurd is
file_by n (File kind file) is = (kind, ap (File kind) is)

module _ (s : State) (sound : IsSound s) (made : s.made ≢ 0) where
  abbrev at_start : IsStart s sound.initial sound.homes
  at_start = sound.start made

  root_is : get (start_of s) [] ≡ Some (Directory 0)
  root_is = sym (at_start.agree [])

  above : (p : Path) (node : Node) → get (start_of s) p ≡ Some node → p ≢ [] → (d : ℕ)
      × (get (start_of s) (parent_path p) ≡ Some (Directory d))
  above p node there named =
      let up = above_is (held_in sound.initial) p node named (at_start.agree p ∙ there) in
      (up.0, sym (at_start.agree (parent_path p)) ∙ up.1)

  nested_records : IsNested (map_values record_of s.start)
  nested_records = record {
    root = directory_record s.start sound.kinds [] 0 root_is;
    nested = λ p r there named.
        let e = entry_at s.start record_of p r there in
        let up = above p e.0.node (value_at s.start node_at p e.0 e.1) named in
        directory_record s.start sound.kinds (parent_path p) up.0 up.1;
    marked =
        λ p r there. let e = entry_at s.start record_of p r there in
        subst IsMarked e.2 (marked_by e.0 e.0.node (sound.octal p e.0 e.1) refl (sound.kinds p e.0 e.1));
  }

  paths_are : start_paths (trace_of_state s) ≡ start_of s
  paths_are = same_standing s.start

  sizes_are : start_sizes (trace_of_state s) ≡ sizes_of s
  sizes_are = same_all s.start s.files

  table_is : start_table (trace_of_state s) ≡ sound.initial
  table_is = ap entries_of_paths paths_are ∙ same_table (start_of s) sound.initial at_start.tree at_start.agree

  few_records : records_made (trace_of_state s) ≤ TREE_RECORDS
  few_records =
      let count : length (records_in s.start) ≡ len s.start = ap length (same_listing s.start)
      ∙ length-numbered 0 (map_entries record_of (entries s.start)) ∙ length-map (entries s.start) (λ e. (e.0, record_of e.1))
      ∙ sym (len-entries s.start) in
      omega (arith, count, sound.tallied, sound.few)

  small_files : All (λ size. size ≤ most_bytes s.version) (start_sizes (trace_of_state s))
  small_files = subst (All (λ size. size ≤ most_bytes s.version)) (sym sizes_are)
      (All-map (λ size. size ≤ most_bytes s.version) (λ p. entry_size (get s.start p)) s.files
      (λ n p low. small_by (most_bytes s.version) (get s.start (get_or s.files n p)) (sound.small (get_or s.files n p))))

  records_are : (n : ℕ) (node : Node) (e : Path × Record) → slice_get (nodes_in s.start) n ≡ Some node
      → slice_get (records_in s.start) n ≡ Some e → IsRecordOf n node e.1
  records_are n node e there at =
      record_at_place s.start sound.octal sound.kinds n node e there (ap (λ es. slice_get es n) (sym (same_listing s.start)) ∙ at)

  standing_records : (p : Path) → StandsAs (get (start_paths (trace_of_state s)) p) (record_in (records_in s.start) p)
  standing_records p =
      subst (λ o. StandsAs o (record_in (records_in s.start) p))
      (sym (ap (λ m. get m p) paths_are ∙ get-map_values path_cmp node_at s.start p))
      (subst (StandsAs (option_map node_at (get s.start p))) (sym (same_record s.start p))
      (stands_by (place_in p (entries (map_values record_of s.start))) (get s.start p) (sound.kinds p)))

  -- two paths with one entry have like records
  alike_by : (k n : ℕ) (e : StartEntry)
      → AreAlikeAt (option_map (fresh_record k) (option_map record_of (Some e)))
      (option_map (fresh_record n) (option_map record_of (Some e)))
  alike_by k n e = record { content = refl; owner = refl; group = refl; mode = refl }

  record_of_entry : (p : Path) (e : StartEntry) → get s.start p ≡ Some e
      → record_in (records_in s.start) p ≡ option_map (fresh_record (place_in p (entries (map_values record_of s.start))))
      (option_map record_of (Some e))
  record_of_entry p e there =
      same_record s.start p ∙ ap (λ o. option_map (fresh_record (place_in p (entries (map_values record_of s.start))))
      (option_map record_of o)) there

  file_at : (n : ℕ) (p : Path) (o : Option Node) → get (start_of s) p ≡ o → IsFileNumbered n o → IsPathOf (trace_of_state s) n p
  file_at n p None there is = absurd is
  file_at n p (Some node) there is =
      let e = entry_at s.start node_at p node there in
      let file = file_by n node is in
      let own = sound.found p e.0 e.1 file.0 n (e.2 ∙ file.1) in
      record {
        own = own.own;
        at = own.at;
        alike =
            subst (λ o. AreAlikeAt o (record_in (records_in s.start) own.own)) (sym (record_of_entry p e.0 e.1))
            (subst (AreAlikeAt (option_map (fresh_record (place_in p (entries (map_values record_of s.start))))
            (option_map record_of (Some e.0)))) (sym (record_of_entry own.own (record e.0 { own = true }) own.entry))
            (alike_by _ _ e.0));
      }

  pub whole_is : IsTrace (trace_of_state s)
  whole_is = record {
    listing = listing-IsListing (map_values record_of s.start) nested_records;
    ascending =
        subst (λ es. IsStrictlySortedBy path_cmp (map (λ e. e.0) es)) (sym (same_listing s.start))
        (keys_ascend 0 (entries s.start) (entries_sorted s.start));
    few = few_records;
    small = small_files;
    each = each_node s.start;
    kinds = records_are;
    stands = standing_records;
    nested = subst AreNested (sym paths_are) (record { root = (0, root_is); nested = above });
    root = ap (λ m. get m []) paths_are ∙ root_is;
    tree = subst (λ t. IsTree (held_in t)) (sym table_is) at_start.tree;
    numbered =
        subst (λ m. (n : ℕ) (p : Path) → slice_get s.files n ≡ Some p → IsFileNumbered n (get m p)) (sym paths_are) sound.numbered;
    linked = subst (λ m. AreLinks m s.links) (sym paths_are) sound.linked;
    found = λ n p is. file_at n p (get (start_of s) p) refl (subst (λ m. IsFileNumbered n (get m p)) paths_are is);
    legal = record {
      homes = sound.homes;
      are = subst (λ t. AreHomes t sound.homes) (sym table_is) at_start.at_home;
      many = at_start.many;
      legal =
          subst (λ t. AreLegal s.version (record { entries = t; sizes = start_sizes (trace_of_state s); homes = sound.homes }) s.operations)
          (sym table_is)
          (subst (λ sizes. AreLegal s.version (record { entries = sound.initial; sizes = sizes; homes = sound.homes }) s.operations)
          (sym sizes_are) sound.legal);
    };
  }
