-- Each line that is accepted leaves a sound state.
use Rattle.std.proofs.Common.{◌≡◌, ◌≢◌, ◌⊎◌, ℕ, zero, suc, ◌+◌, ◌<◌, ◌≤◌, ◌==◌, ◌||◌, Bool, true, false, List, [], ◌∷◌, ◌++◌, length}
use Rattle.std.proofs.Common.{Option, None, Some, option_map, Result, Ok, Err, refl, sym, ap, ◌∙◌, subst, arith, ⊎_elim, inl}
use Rattle.std.proofs.lemmas.Bool.{eq-eqb, eqb-true, false≢true, or_parts}
use Rattle.std.proofs.lemmas.Bool.Decides.{nat_tests}
use Rattle.std.specs.FinMap.{empty, entries, entries-insert, get, get-empty, insert, len, len-empty, len-entries, len-insert}
use Rattle.std.specs.List.{slice_get}
use Rattle.std.specs.Option.{option_and_then, option_map_or}
use Rattle.std.specs.Prelude.{if◌then◌else◌, nat_lt}
use Rattle.cs_entries.specs.declared.entry.DirEntry.{DirEntry}
use Rattle.cs_entries.specs.declared.entry.Entry.{Entry}
use Rattle.cs_entries.specs.declared.node.FileKind.TheVariants.{Regular, Symlink}
use Rattle.cs_entries.specs.declared.node.Node.{Node}
use Rattle.cs_entries.specs.declared.node.Node.TheVariants.{Directory, File}
use Rattle.cs_entries.specs.DirEntries.{entry_of, last_name}
use Rattle.cs_entries.specs.Laws.Paths.{at_more}
use Rattle.cs_entries.specs.Legal.{IsNew}
use Rattle.cs_entries.specs.Paths.{at_path, entry_in}
use Rattle.cs_entries.specs.Tables.{Table, held_in}
use Rattle.cs_names.specs.declared.limits.TheConstants.{TREE_RECORDS}
use Rattle.cs_start.specs.Entries.{size_of}
use Rattle.cs_start.specs.Names.{entry_path_of}
use Rattle.cs_start.specs.declared.entry.StartEntry.{StartEntry}
use Rattle.cs_tree_model.specs.Laws.Reads.{parent_of_snoc}
use Rattle.cs_tree_model.specs.Maps.Values.{get-map_values}
use Rattle.cs_tree_model.specs.Tree.{Path, parent_path, path_cmp}
use Rattle.cs_trace.specs.Attributes.{Attributes, kept_in}
use Rattle.cs_trace.specs.Judging.{and_then, directory_number, entry_at, free_at, has_too_many_names, is_too_much, node_at, or_bad_name, unless_too_large}
use Rattle.cs_trace.specs.Limits.{most_bytes}
use Rattle.cs_trace.specs.Names.{are_user_names, new_path_of}
use Rattle.cs_trace.specs.Operations.{FileSystem, number_for}
use Rattle.cs_trace.specs.Putting.{homes_with, sizes_with}
use Rattle.cs_trace.specs.State.{State}
use Rattle.cs_trace.specs.States.{attributes_with, bytes_of, entry_for, files_with, is_leaf, node_for, start_at, start_file_at, start_file_by}
use Rattle.cs_trace.specs.States.{start_link_at}
use Rattle.cs_trace.specs.States.{system_with, with_entry, with_held, with_link, with_start}
use Rattle.cs_trace.specs.declared.fault.TraceFaultKind.{TraceFaultKind}
use Rattle.cs_trace_lines.specs.Lines.{OfDirectory, OfFile, OfSymlink, StartContent}
use Rattle.cs_trace_lines.specs.Values.{Claims}
use Rattle.cs_trace.proofs.Accepted.{legal_is, limit_by, then_by}
use Rattle.cs_trace.proofs.Named.{has_last, whole_path}
use Rattle.cs_trace.proofs.Sound.{HasOwn, IsSound}
use Rattle.cs_trace.proofs.SoundNext.{directory_sound, file_sound, link_sound, next_of}
use Rattle.cs_trace.proofs.SoundStarts.{IsBegun, begun, next_number, node_of}
use Rattle.cs_trace.proofs.StartTables.{last_of_snoc}
use Rattle.cs_trace.proofs.Started.{FitsNode}
use Rattle.cs_trace.proofs.Taken.{file_stands, free_is, limits_by}

-- ---- what an entry more is, by its parts

held_by : (s : State) (q : Path) → q ≢ [] → (g : Entry) → entry_of (entry_at s q) ≡ g → (node : Node)
    → with_held s q node ≡ insert s.system.entries g node
held_by s [] named g is node = absurd (named refl)
held_by s (x ∷ q) named g is node = ap (λ h. insert s.system.entries h node) is

module _ (s : State) (front : Path) (name : List ℕ) (c : ℕ) (above : at_path (held_in s.system.entries) front ≡ Some (Directory c)) where
  abbrev p : Path
  p = front ++ name ∷ []

  pub entry_is : entry_of (entry_at s p) ≡ entry_in c name
  entry_is = λ i. record {
    directory =
        (ap (λ q. directory_number (node_at s q)) (parent_of_snoc front name) ∙ ap directory_number above) i;
    name = last_of_snoc front name i;
  }

  held_is : (node : Node) → with_held s p node ≡ insert s.system.entries (entry_in c name) node
  held_is node = held_by s p (has_last p front name refl).some (entry_in c name) entry_is node

  pub system_is : (node : Node) (content : Option (List ℕ)) → system_with s p node content ≡ record {
    entries = insert s.system.entries (entry_in c name) node;
    sizes = sizes_with s.system.sizes node content;
    homes = homes_with s.system.homes (entry_in c name) node;
  }
  system_is (Directory d) content = λ i. record {
    entries = held_is (Directory d) i;
    sizes = s.system.sizes;
    homes = s.system.homes ++ entry_is i ∷ [];
  }
  system_is (File kind file) content = λ i. record {
    entries = held_is (File kind file) i;
    sizes = s.system.sizes ++ size_of content ∷ [];
    homes = s.system.homes;
  }

-- ---- start lines

within : (most size : ℕ) → nat_lt most size ≡ false → size ≤ most
within most size is = grind (arith, nat_tests)

module _ (s : State) (sound : IsSound s) (made : s.made ≢ 0) (none : s.operations ≡ []) where
  was : IsBegun s
  was = begun s sound made none

  module _ (front : Path) (name : List ℕ) (c : ℕ) (named : name ≢ [])
      (above : at_path (held_in s.system.entries) front ≡ Some (Directory c))
      (free : at_path (held_in s.system.entries) (front ++ name ∷ []) ≡ None) (claims : Claims) (octal : claims.permissions ≤ 511)
      (room : s.made + 1 ≤ TREE_RECORDS) where
    abbrev q : Path
    q = front ++ name ∷ []

    abbrev g : Entry
    g = entry_in c name

    unheld : get s.system.entries g ≡ None
    unheld = sym (at_more (held_in s.system.entries) front name c above) ∙ free

    abbrev number : ℕ
    number = number_for s.version s.system.homes (entry_of (entry_at s q))

    number_is : number ≡ length s.system.homes
    number_is = ap (number_for s.version s.system.homes) (entry_is s front name c above) ∙ next_number s was g named unheld

    number_new : IsNew (held_in s.system.entries) (Directory number)
    number_new = subst (λ n. IsNew (held_in s.system.entries) (Directory n)) (sym number_is) (
      λ zero_homes. (let some = was.now.rooted in absurd (omega (arith, some, zero_homes))),
      λ h held. (let low = was.now.directories h (length s.system.homes) held in absurd (omega (arith, low))),
    )

    abbrev made_next : StartContent → StartEntry
    made_next content = entry_for (node_for s q content) claims content

    no_more : 0 ≤ most_bytes s.version
    no_more = omega arith

    pub added : (content : StartContent) → size_of (bytes_of content) ≤ most_bytes s.version → IsSound (with_start s q claims content)
    added OfDirectory small =
        subst (λ fs. IsSound (record (with_start s q claims OfDirectory) { system = fs }))
        (sym (system_is s front name c above (Directory number) None))
        (directory_sound s sound made none front name c above free (made_next OfDirectory) octal refl small room number_new number refl
        number_is refl)
    added (OfFile bytes) small =
        subst (λ fs. IsSound (record (with_start s q claims (OfFile bytes)) { system = fs }))
        (sym (system_is s front name c above (File Regular (length s.system.sizes)) (Some bytes)))
        (file_sound s sound made none front name c above free (made_next (OfFile bytes)) octal (bytes, refl) small room tt
        Regular (length s.system.sizes) refl refl refl)
    added (OfSymlink target) small =
        subst (λ fs. IsSound (record (with_start s q claims (OfSymlink target)) { system = fs }))
        (sym (system_is s front name c above (File Symlink (length s.system.sizes)) (Some target)))
        (file_sound s sound made none front name c above free (made_next (OfSymlink target)) octal (target, refl) small room tt
        Symlink (length s.system.sizes) refl refl refl)

  -- a start line of a file, a symbolic link or a directory
  pub start_sound : (q : Path) → q ≢ [] → last_name q ≢ [] → (claims : Claims) → claims.permissions ≤ 511 → (content : StartContent)
      → (next : State) → start_at s q claims content ≡ Ok next → IsSound next
  start_sound q named last claims octal content =
      then_by (free_at s q) _ IsSound (λ b found.
      limit_by (is_too_much s.made q || nat_lt (most_bytes s.version) (size_of (bytes_of content))) (with_start s q claims content) IsSound
      (λ small. by (free_is s q b found).directory (free_is s q b found).there (free_is s q b found).none
      (or_parts (is_too_much s.made q) (nat_lt (most_bytes s.version) (size_of (bytes_of content))) small)))
    where
      by : (d : ℕ) → node_at s (parent_path q) ≡ Some (Directory d) → node_at s q ≡ None
          → (is_too_much s.made q ≡ false) × (nat_lt (most_bytes s.version) (size_of (bytes_of content)) ≡ false)
          → IsSound (with_start s q claims content)
      by d there vacant small =
          subst (λ r. IsSound (with_start s r claims content)) (whole_path q named)
          (added (parent_path q) (last_name q) d last there (ap (node_at s) (whole_path q named) ∙ vacant) claims octal
          (limits_by s.made q small.0) content (within (most_bytes s.version) (size_of (bytes_of content)) small.1))

  -- ---- one path more, q, of the file at r

  found_by : (h : StartEntry) (node : Node) (found : StartEntry × ℕ) → start_file_by h node ≡ Ok found
      → (h ≡ found.0) × (node ≡ File Regular found.1)
  found_by h (Directory d) found is = absurd (cc)
  found_by h (File Symlink file) found is = absurd (cc)
  found_by h (File Regular file) found is =
      (let same : (h, file) ≡ found = cc in
      (ap (λ (x : StartEntry × ℕ). x.0) same, ap (λ (x : StartEntry × ℕ). File Regular x.1) same))

  file_found : (o : Option StartEntry) (found : StartEntry × ℕ) → start_file_at o ≡ Ok found
      → (o ≡ Some found.0) × (found.0.node ≡ File Regular found.1)
  file_found None found is = absurd (cc)
  file_found (Some h) found is =
      (let both = found_by h h.node found is in
      (ap Some both.0, ap (λ (x : StartEntry). x.node) (sym both.0) ∙ both.1))

  module _ (r : Path) (h : StartEntry) (file : ℕ) (there : get s.start r ≡ Some h) (is : h.node ≡ File Regular file) where
    at_now : at_path (held_in s.system.entries) r ≡ Some (File Regular file)
    at_now =
        was.start.agree r ∙ get-map_values path_cmp node_of s.start r ∙ ap (option_map node_of) there ∙ ap Some is

    given : file < length s.system.sizes
    given =
        (let stands = file_stands (held_in s.system.entries) r Regular file at_now in was.now.files stands.0 Regular file stands.1)

    has : HasOwn s.files s.start (record h { own = false }) file
    has = (let own = sound.found r h there Regular file is in record { own = own.own; at = own.at; entry = own.entry })

    linked : (front : Path) (name : List ℕ) (c : ℕ) → at_path (held_in s.system.entries) front ≡ Some (Directory c)
        → at_path (held_in s.system.entries) (front ++ name ∷ []) ≡ None → s.made + 1 ≤ TREE_RECORDS
        → IsSound (with_link s (front ++ name ∷ []) (record h { own = false }) file)
    linked front name c above free room =
        subst (λ t. IsSound (record (with_link s (front ++ name ∷ []) (record h { own = false }) file) {
          system = record s.system { entries = t };
        })) (sym (held_is s front name c above h.node))
        (link_sound s sound made none front name c above free (record h { own = false }) (sound.octal r h there) (sound.kinds r h there)
        (sound.small r h there) room (subst (IsNew (held_in s.system.entries)) (sym is) tt) file is given refl has)

  pub start_link_sound : (r q : Path) → q ≢ [] → (next : State) → start_link_at s r q ≡ Ok next → IsSound next
  start_link_sound r q named =
      then_by (start_file_at (get s.start r)) _ IsSound (λ found at.
      then_by (free_at s q) _ IsSound (λ b vacant.
      limit_by (has_too_many_names r || is_too_much s.made q) (with_link s q (record found.0 { own = false }) found.1) IsSound
      (λ small. by found (file_found (get s.start r) found at) (free_is s q b vacant).directory (free_is s q b vacant).there
      (free_is s q b vacant).none (or_parts (has_too_many_names r) (is_too_much s.made q) small).1)))
    where
      by : (found : StartEntry × ℕ) → (get s.start r ≡ Some found.0) × (found.0.node ≡ File Regular found.1) → (d : ℕ)
          → node_at s (parent_path q) ≡ Some (Directory d) → node_at s q ≡ None → is_too_much s.made q ≡ false
          → IsSound (with_link s q (record found.0 { own = false }) found.1)
      by found at d there vacant small =
          subst (λ x. IsSound (with_link s x (record found.0 { own = false }) found.1)) (whole_path q named)
          (linked r found.0 found.1 at.0 at.1 (parent_path q) (last_name q) d there (ap (node_at s) (whole_path q named) ∙ vacant)
          (limits_by s.made q small))
