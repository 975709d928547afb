-- One entry more at the start leaves a sound state.
use Rattle.std.proofs.Common.{◌≡◌, ◌≢◌, ◌⊎◌, ℕ, suc, ◌+◌, ◌<◌, ◌≤◌, true, false, cond, List, [], ◌∷◌, ◌++◌, length, map}
use Rattle.std.proofs.Common.{Option, None, Some, option_map, refl, sym, ap, ◌∙◌, subst, arith, ⊎_elim, length-append}
use Rattle.std.proofs.lemmas.Bool.{false≢true}
use Rattle.std.proofs.lemmas.List.{length-map, map-append}
use Rattle.std.specs.FinMap.{entries, entries-insert, get, insert, len, len-insert}
use Rattle.std.specs.List.{slice_get, sum_by}
use Rattle.std.specs.Option.{is_some}
use Rattle.cs_entries.specs.declared.entry.Entry.{Entry}
use Rattle.cs_entries.specs.declared.node.FileKind.{FileKind}
use Rattle.cs_entries.specs.declared.node.FileKind.TheVariants.{Regular}
use Rattle.cs_entries.specs.declared.node.Node.{Node}
use Rattle.cs_entries.specs.declared.node.Node.TheVariants.{Directory, File}
use Rattle.cs_entries.specs.Entries.{Create}
use Rattle.cs_entries.specs.Laws.Paths.{at_more}
use Rattle.cs_entries.specs.Laws.Records.{entry_exact, entry_total}
use Rattle.cs_entries.specs.Legal.{IsNew}
use Rattle.cs_entries.specs.Paths.{at_path, entry_in}
use Rattle.cs_entries.specs.Tables.{Table, held_in}
use Rattle.cs_names.specs.declared.limits.TheConstants.{TREE_RECORDS}
use Rattle.cs_start.proofs.Owned.{below-more, below-put}
use Rattle.cs_start.specs.Entries.{StartEntries, nodes_in, size_of}
use Rattle.cs_start.specs.Owned.{AreBelow, number_of}
use Rattle.cs_start.specs.declared.entry.StartEntry.{StartEntry}
use Rattle.cs_tree_model.specs.Laws.Paths.{path_exact, path_total}
use Rattle.cs_tree_model.specs.Maps.Changes.{get-insert_other, get-insert_same}
use Rattle.cs_tree_model.specs.Maps.Values.{get-map_values, map_values}
use Rattle.cs_tree_model.specs.Tree.{Path, path_cmp}
use Rattle.cs_trace.specs.Attributes.{Attributes, kept_in, with_directory, with_file}
use Rattle.cs_trace.specs.Limits.{most_bytes}
use Rattle.cs_trace.specs.Operations.{AreLegal, FileSystem, made_by, system_after_all}
use Rattle.cs_trace.specs.State.{State}
use Rattle.cs_trace.specs.Traces.{AreHomes, AreLinks, IsFileNumbered, directory_count}
use Rattle.cs_trace.proofs.Sound.{AreFound, AreOctal, HasOwn, IsNow, IsSound, IsStart, entry_size, sizes_of, start_of, system_of}
use Rattle.cs_trace.proofs.SoundEntry.{found_kept, found_push, homes_next, stay_next}
use Rattle.cs_trace.proofs.SoundOperations.{IsGivenIn, now_by, slice_get-push, slice_get-push_new}
use Rattle.cs_trace.proofs.SoundRights.{directory_octal, kept_octal, pushed_octal}
use Rattle.cs_trace.proofs.SoundOperations.{slice_get-push_old}
use Rattle.cs_trace.proofs.SoundStarts.{IsBegun, agree_next, begun, count_directory, count_file, each_of, free_start, map_same, map_values-insert}
use Rattle.cs_trace.proofs.SoundStarts.{node_of}
use Rattle.cs_trace.proofs.StartPuts.{free_entry, legal, tree_now}
use Rattle.cs_trace.proofs.Started.{FitsNode}

no_value : {X : Type 0} (x : X) → None ≡ Some x → ⊥
no_value x h = cc

no_file : (d : ℕ) (kind : FileKind) (file : ℕ) → Directory d ≡ File kind file → ⊥
no_file d kind file h = cc

same_file : (k l : FileKind) (a b : ℕ) → File k a ≡ File l b → a ≡ b
same_file k l a b h = cc

same_directory : (a b : ℕ) → Directory a ≡ Directory b → a ≡ b
same_directory a b h = cc

module _ (s : State) (sound : IsSound s) (made : s.made ≢ 0) (none : s.operations ≡ []) (front : Path) (name : List ℕ) (c : ℕ)
    (above : at_path (held_in s.system.entries) front ≡ Some (Directory c))
    (free : at_path (held_in s.system.entries) (front ++ name ∷ []) ≡ None) (f : StartEntry)
    (octal : f.rights.permissions ≤ 511) (fits : FitsNode f.node f.content) (small : size_of f.content ≤ most_bytes s.version)
    (room : s.made + 1 ≤ TREE_RECORDS) (new : IsNew (held_in s.system.entries) f.node) where
  abbrev t : Table
  t = s.system.entries

  abbrev p : Path
  p = front ++ name ∷ []

  abbrev e : Entry
  e = entry_in c name

  abbrev start_next : StartEntries
  start_next = insert s.start p f

  abbrev entries_next : Table
  entries_next = insert t e f.node

  -- the state with these parts
  abbrev pub next_of : List Path → List (Path × ℕ) → List ℕ → List Entry → Attributes → State
  next_of files links sizes homes attributes = record s {
    start = start_next;
    files = files;
    links = links;
    system = record { entries = entries_next; sizes = sizes; homes = homes };
    made = s.made + 1;
    attributes = attributes;
  }

  was : IsBegun s
  was = begun s sound made none

  absent : get s.start p ≡ None
  absent = free_start s sound was none front name c above free f new

  unheld : get t e ≡ None
  unheld = free_entry t was.start.tree front name c above free f.node new

  -- ---- what the paths have

  entry_kept : (q : Path) (g : StartEntry) → get s.start q ≡ Some g → get start_next q ≡ Some g
  entry_kept q g there =
      get-insert_other path_total path_exact s.start q p f (λ same. no_value g (sym absent ∙ ap (get s.start) (sym same) ∙ there)) ∙ there

  here : get start_next p ≡ Some f
  here = get-insert_same path_total path_exact s.start p f

  node_here : get (map_values node_of start_next) p ≡ Some f.node
  node_here = get-map_values path_cmp node_of start_next p ∙ ap (option_map node_of) here

  node_kept : (q : Path) (node : Node) → get (start_of s) q ≡ Some node → get (map_values node_of start_next) q ≡ Some node
  node_kept q node there = by (get s.start q) refl
    where
      by : (o : Option StartEntry) → get s.start q ≡ o → get (map_values node_of start_next) q ≡ Some node
      by (Some g) is =
          get-map_values path_cmp node_of start_next q ∙ ap (option_map node_of) (entry_kept q g is)
          ∙ sym (ap (option_map node_of) is) ∙ sym (get-map_values path_cmp node_of s.start q) ∙ there
      by None is = absurd (no_value node (sym (get-map_values path_cmp node_of s.start q ∙ ap (option_map node_of) is) ∙ there))

  numbered_old : (n : ℕ) (q : Path) → slice_get s.files n ≡ Some q → IsFileNumbered n (get (map_values node_of start_next) q)
  numbered_old n q at = by (get (start_of s) q) refl (sound.numbered n q at)
    where
      by : (o : Option Node) → get (start_of s) q ≡ o → IsFileNumbered n o → IsFileNumbered n (get (map_values node_of start_next) q)
      by None is numbered = absurd numbered
      by (Some node) is numbered = subst (IsFileNumbered n) (sym (node_kept q node is)) numbered

  linked_old : AreLinks (map_values node_of start_next) s.links
  linked_old = λ n link at. node_kept link.0 (File Regular link.1) (sound.linked n link at)

  size_kept : (n : ℕ) (q : Path) → slice_get s.files n ≡ Some q → entry_size (get start_next q) ≡ entry_size (get s.start q)
  size_kept n q at = by (get s.start q) refl
    where
      by : (o : Option StartEntry) → get s.start q ≡ o → entry_size (get start_next q) ≡ entry_size (get s.start q)
      by (Some g) is = ap entry_size (entry_kept q g is ∙ sym is)
      by None is =
          absurd (subst (IsFileNumbered n) (get-map_values path_cmp node_of s.start q ∙ ap (option_map node_of) is) (sound.numbered n q at))

  sizes_old : map (λ q. entry_size (get start_next q)) s.files ≡ s.system.sizes
  sizes_old = map_same (λ q. entry_size (get start_next q)) (λ q. entry_size (get s.start q)) s.files size_kept ∙ sym was.sizes

  even : length s.system.sizes ≡ length s.files
  even = ap length was.sizes ∙ length-map s.files (λ q. entry_size (get s.start q))

  below_next : (count : ℕ) → (f.own ≡ true → number_of f.node < count) → AreBelow (entries s.start) count
      → AreBelow (entries start_next) count
  below_next count low all =
      subst (λ es. AreBelow es count) (sym (entries-insert path_total s.start p f)) (below-put p f count (entries s.start) low all)

  -- ---- all parts together

  module _ (files : List Path) (links : List (Path × ℕ)) (sizes : List ℕ) (homes : List Entry) (attributes : Attributes)
      (given : IsGivenIn (record { entries = entries_next; sizes = sizes; homes = homes }) f.node)
      (sizes_grown : length s.system.sizes ≤ length sizes)
      (homes_kept : (n : ℕ) (g : Entry) → slice_get s.system.homes n ≡ Some g → slice_get homes n ≡ Some g)
      (homes_grown : length s.system.homes ≤ length homes) (at_home : AreHomes entries_next homes)
      (stay : (d : ℕ) (g : Entry) → slice_get homes d ≡ Some g → (d ≡ 0) ⊎ (get entries_next g ≡ Some (Directory d)))
      (many : length homes ≡ directory_count (nodes_in start_next))
      (sizes_are : sizes ≡ map (λ q. entry_size (get start_next q)) files)
      (numbered : (n : ℕ) (q : Path) → slice_get files n ≡ Some q → IsFileNumbered n (get (map_values node_of start_next) q))
      (linked : AreLinks (map_values node_of start_next) links) (found : AreFound files start_next)
      (below : AreBelow (entries start_next) (length files)) (counted : length sizes ≤ s.made + 1) (housed : length homes ≤ s.made + 1)
      (rights : AreOctal attributes) where
    abbrev system_next : FileSystem
    system_next = record { entries = entries_next; sizes = sizes; homes = homes }

    abbrev base : FileSystem
    base = system_of (next_of files links sizes homes attributes) entries_next homes

    now_next : IsNow s.version system_next
    now_next =
        now_by s.version s.system system_next was.now (Create e f.node)
        (legal t was.start.tree front name c above free f.node new) refl sizes_grown homes_kept homes_grown
        (λ g node comes. subst (IsGivenIn system_next) comes.1 given)
        (λ _ g d comes. at_home.each g d
        (ap (get entries_next) (sym comes.0) ∙ get-insert_same entry_total entry_exact t e f.node ∙ ap Some comes.1))

    tallied_next : s.made + 1 ≡ len start_next + sum_by (made_by s.version) s.operations
    tallied_next =
        (let grown : len start_next ≡ len s.start + 1 =
        len-insert path_total s.start p f ∙ ap (λ o. cond (is_some o) (len s.start) (len s.start + 1)) absent in
        let old = sound.tallied in
        omega (arith, grown, old))

    pub sound_by : IsSound (next_of files links sizes homes attributes)
    sound_by = record {
      fresh = λ zero. absurd (omega (arith, zero));
      initial = entries_next;
      homes = homes;
      start = λ _. record {
        tree = tree_now t was.start.tree front name c above free f.node new;
        agree = agree_next s sound was none front name c above free f new;
        at_home = at_home;
        stay = stay;
        many = many;
      };
      now = λ _. now_next;
      system =
          (λ i. record { entries = entries_next; sizes = sizes_are i; homes = homes }) ∙ sym (ap (system_after_all base) none);
      legal = subst (AreLegal s.version base) (sym none) tt;
      octal = each_of s.start p f (λ _ g. g.rights.permissions ≤ 511) octal (λ q g _ there. sound.octal q g there);
      kinds = each_of s.start p f (λ _ g. FitsNode g.node g.content) fits (λ q g _ there. sound.kinds q g there);
      small = each_of s.start p f (λ _ g. size_of g.content ≤ most_bytes s.version) small (λ q g _ there. sound.small q g there);
      numbered = numbered;
      linked = linked;
      found = found;
      below = below;
      few = room;
      counted = counted;
      housed = housed;
      tallied = tallied_next;
      rights = rights;
    }

  -- ---- a file or a symbolic link with the next number

  module _ (kind : FileKind) (file : ℕ) (is : f.node ≡ File kind file) (next : file ≡ length s.system.sizes) (own : f.own ≡ true) where
    abbrev sizes_more : List ℕ
    sizes_more = s.system.sizes ++ size_of f.content ∷ []

    file_own : (k : FileKind) (n : ℕ) → f.node ≡ File k n → (n ≡ length s.files) × (f.own ≡ true)
    file_own k n same = (same_file k kind n file (sym same ∙ is) ∙ next ∙ even, own)

    file_numbered : (n : ℕ) (q : Path) → slice_get (s.files ++ p ∷ []) n ≡ Some q → IsFileNumbered n (get (map_values node_of start_next) q)
    file_numbered n q at = ⊎_elim
        (numbered_old n q)
        (λ (last : (n ≡ length s.files) × (q ≡ p)).
        subst (λ x. IsFileNumbered n (get (map_values node_of start_next) x)) (sym last.1)
        (subst (IsFileNumbered n) (sym (node_here ∙ ap Some is)) (next ∙ even ∙ sym last.0)))
        (slice_get-push s.files p n q at)

    file_below : AreBelow (entries start_next) (length (s.files ++ p ∷ []))
    file_below =
        (let long : suc (length s.files) ≡ length (s.files ++ p ∷ []) = omega (arith, length-append s.files (p ∷ [])) in
        let low : file < suc (length s.files) = omega (arith, next, even) in
        subst (AreBelow (entries start_next)) long
        (below_next (suc (length s.files)) (λ _. subst (λ node. number_of node < suc (length s.files)) (sym is) low)
        (below-more (entries s.start) (length s.files) sound.below)))

    pub file_sound : IsSound (next_of (s.files ++ p ∷ []) s.links sizes_more s.system.homes
        (kept_in s.version s.attributes (with_file s.attributes f.rights)))
    file_sound =
        (let longer = length-append s.system.sizes (size_of f.content ∷ []) in
        let few = sound.counted in
        let housed = sound.housed in
        sound_by (s.files ++ p ∷ []) s.links sizes_more s.system.homes (kept_in s.version s.attributes (with_file s.attributes f.rights))
        (subst (IsGivenIn (record { entries = entries_next; sizes = sizes_more; homes = s.system.homes })) (sym is)
        (omega (arith, next, longer)))
        (omega (arith, longer)) (λ n g at. at) (omega arith)
        (subst (λ node. AreHomes (insert t e node) s.system.homes) (sym is)
        (homes_next t s.system.homes was.start.at_home was.start.stay was.now.root e unheld (File kind file)
        (λ d bad. absurd (no_file d kind file (sym bad)))))
        (subst (λ node. (d : ℕ) (g : Entry) → slice_get s.system.homes d ≡ Some g
        → (d ≡ 0) ⊎ (get (insert t e node) g ≡ Some (Directory d))) (sym is)
        (stay_next t s.system.homes was.start.at_home was.start.stay was.now.root e unheld (File kind file)
        (λ d bad. absurd (no_file d kind file (sym bad)))))
        (was.start.many ∙ sym (count_file s.start p f absent kind file is))
        (sym (map-append (λ q. entry_size (get start_next q)) s.files (p ∷ []) ∙ (λ i. sizes_old i ++ entry_size (here i) ∷ [])))
        file_numbered linked_old (found_push s.start s.files p absent f file_own kind file is sound.found) file_below
        (omega (arith, longer, few)) (omega (arith, housed))
        (kept_octal s.version s.attributes (with_file s.attributes f.rights) sound.rights
        (record { files = pushed_octal s.attributes.files f.rights sound.rights.files octal; directories = sound.rights.directories })))

  -- ---- a directory with the next number

  module _ (d : ℕ) (is : f.node ≡ Directory d) (next : d ≡ length s.system.homes) (further : f.own ≡ false) where
    abbrev homes_more : List Entry
    homes_more = s.system.homes ++ e ∷ []

    next_home : (k : ℕ) → Directory d ≡ Directory k → k ≡ length s.system.homes
    next_home k same = sym (same_directory d k same) ∙ next

    directory_own : (k : FileKind) (n : ℕ) → f.node ≡ File k n → (n ≡ length s.files) × (f.own ≡ true)
    directory_own k n same = absurd (no_file d k n (sym is ∙ same))

    pub directory_sound : IsSound (next_of s.files s.links s.system.sizes homes_more
        (kept_in s.version s.attributes (with_directory s.attributes d f.rights)))
    directory_sound =
        (let longer = length-append s.system.homes (e ∷ []) in
        let few = sound.counted in
        let housed = sound.housed in
        let many = was.start.many in
        let count = count_directory s.start p f absent d is in
        sound_by s.files s.links s.system.sizes homes_more (kept_in s.version s.attributes (with_directory s.attributes d f.rights))
        (subst (IsGivenIn (record { entries = entries_next; sizes = s.system.sizes; homes = homes_more })) (sym is)
        (omega (arith, next, longer)))
        (omega arith) (λ n g at. slice_get-push_old s.system.homes e n g at) (omega (arith, longer))
        (subst (λ node. AreHomes (insert t e node) homes_more) (sym is)
        (homes_next t s.system.homes was.start.at_home was.start.stay was.now.root e unheld (Directory d) next_home))
        (subst (λ node. (k : ℕ) (g : Entry) → slice_get homes_more k ≡ Some g
        → (k ≡ 0) ⊎ (get (insert t e node) g ≡ Some (Directory k))) (sym is)
        (stay_next t s.system.homes was.start.at_home was.start.stay was.now.root e unheld (Directory d) next_home))
        (omega (arith, longer, many, count))
        (sym sizes_old) numbered_old linked_old
        (found_kept s.start s.files p absent f directory_own d is sound.found)
        (below_next (length s.files) (λ own. absurd (false≢true (sym further ∙ own))) sound.below)
        (omega (arith, few)) (omega (arith, longer, housed))
        (kept_octal s.version s.attributes (with_directory s.attributes d f.rights) sound.rights
        (record { files = sound.rights.files; directories = directory_octal s.attributes d f.rights sound.rights octal })))

  -- ---- a further path of a file

  module _ (file : ℕ) (is : f.node ≡ File Regular file) (low : file < length s.system.sizes) (further : f.own ≡ false)
      (has : HasOwn s.files s.start f file) where
    found_link : AreFound s.files start_next
    found_link =
        each_of s.start p f (λ q g. (k : FileKind) (n : ℕ) → g.node ≡ File k n → HasOwn s.files start_next g n)
        (λ k n same.
        (let equal : file ≡ n = same_file Regular k file n (sym is ∙ same) in
        record {
          own = has.own;
          at = ap (slice_get s.files) (sym equal) ∙ has.at;
          entry = entry_kept has.own (record f { own = true }) has.entry;
        }))
        (λ q g _ there k n same.
        (let old = sound.found q g there k n same in
        record { own = old.own; at = old.at; entry = entry_kept old.own (record g { own = true }) old.entry }))

    linked_more : AreLinks (map_values node_of start_next) (s.links ++ (p, file) ∷ [])
    linked_more n link at = ⊎_elim
        (λ (old : slice_get s.links n ≡ Some link). linked_old n link old)
        (λ (last : (n ≡ length s.links) × (link ≡ (p, file))).
        subst (λ (l : Path × ℕ). get (map_values node_of start_next) l.0 ≡ Some (File Regular l.1)) (sym last.1) (node_here ∙ ap Some is))
        (slice_get-push s.links (p, file) n link at)

    pub link_sound : IsSound (next_of s.files (s.links ++ (p, file) ∷ []) s.system.sizes s.system.homes s.attributes)
    link_sound =
        (let few = sound.counted in
        let housed = sound.housed in
        sound_by s.files (s.links ++ (p, file) ∷ []) s.system.sizes s.system.homes s.attributes
        (subst (IsGivenIn (record { entries = entries_next; sizes = s.system.sizes; homes = s.system.homes })) (sym is) low)
        (omega arith) (λ n g at. at) (omega arith)
        (subst (λ node. AreHomes (insert t e node) s.system.homes) (sym is)
        (homes_next t s.system.homes was.start.at_home was.start.stay was.now.root e unheld (File Regular file)
        (λ d bad. absurd (no_file d Regular file (sym bad)))))
        (subst (λ node. (d : ℕ) (g : Entry) → slice_get s.system.homes d ≡ Some g
        → (d ≡ 0) ⊎ (get (insert t e node) g ≡ Some (Directory d))) (sym is)
        (stay_next t s.system.homes was.start.at_home was.start.stay was.now.root e unheld (File Regular file)
        (λ d bad. absurd (no_file d Regular file (sym bad)))))
        (was.start.many ∙ sym (count_file s.start p f absent Regular file is))
        (sym sizes_old) numbered_old linked_more found_link
        (below_next (length s.files) (λ own. absurd (false≢true (sym further ∙ own))) sound.below)
        (omega (arith, few)) (omega (arith, housed)) sound.rights)
