-- Before the first line, and after the header, the state is sound.
use Rattle.std.proofs.Common.{◌≡◌, ◌≢◌, ◌⊎◌, ℕ, zero, suc, ◌+◌, ◌≤◌, Bool, true, false, cond, List, [], ◌∷◌, length, map}
use Rattle.std.proofs.Common.{Option, None, Some, option_map, refl, sym, ap, ◌∙◌, subst, arith, inl}
use Rattle.std.proofs.lemmas.Bool.{false≢true}
use Rattle.std.specs.FinMap.{empty, entries, entries-insert, get, get-empty, insert, len, len-empty, len-entries, len-insert}
use Rattle.std.specs.List.{slice_get}
use Rattle.std.specs.Option.{is_some}
use Rattle.std.specs.Prelude.{if◌then◌else◌}
use Rattle.cs_entries.specs.declared.entry.Entry.{Entry}
use Rattle.cs_entries.specs.declared.node.FileKind.{FileKind}
use Rattle.cs_entries.specs.declared.node.Node.{Node}
use Rattle.cs_entries.specs.declared.node.Node.TheVariants.{Directory, File}
use Rattle.cs_entries.specs.DirEntries.{root_home}
use Rattle.cs_entries.specs.Legal.{IsTree}
use Rattle.cs_entries.specs.Paths.{at_path, down, entry_in}
use Rattle.cs_entries.specs.Tables.{Table, entry_cmp, held_in}
use Rattle.cs_names.specs.declared.limits.TheConstants.{TREE_RECORDS}
use Rattle.cs_start.proofs.Owned.{below-put}
use Rattle.cs_start.specs.Entries.{StartEntries, nodes_in, size_of}
use Rattle.cs_start.specs.Owned.{AreBelow}
use Rattle.cs_start.specs.declared.entry.StartEntry.{StartEntry}
use Rattle.cs_start.specs.declared.rights.Rights.{Rights}
use Rattle.cs_tree_model.specs.Laws.Paths.{path_exact, path_total}
use Rattle.cs_tree_model.specs.Maps.Changes.{get-insert_other, get-insert_same}
use Rattle.cs_tree_model.specs.Maps.Values.{get-map_values, map_values}
use Rattle.cs_tree_model.specs.Tree.{Path, path_cmp}
use Rattle.cs_trace.specs.Attributes.{no_attributes, with_directory}
use Rattle.cs_trace.specs.Limits.{most_bytes}
use Rattle.cs_trace.specs.Operations.{number_for}
use Rattle.cs_trace.specs.State.{State, empty_state}
use Rattle.cs_trace.specs.States.{after_header, entry_for}
use Rattle.cs_trace.specs.Traces.{directory_count}
use Rattle.cs_trace_lines.specs.Lines.{OfDirectory}
use Rattle.cs_trace_lines.specs.Values.{Claims}
use Rattle.cs_trace_lines.specs.Versions.{is_fourth}
use Rattle.cs_trace_lines.specs.declared.version.Version.{Version}
use Rattle.cs_trace.proofs.Sound.{AllOctal, HasOwn, IsSound}
use Rattle.cs_trace.proofs.SoundRights.{directory_octal, kept_octal}
use Rattle.cs_trace.proofs.SoundStarts.{count_directory, each_of, map_values-insert, node_of}
use Rattle.cs_trace.proofs.Started.{FitsNode}
use Rattle.cs_trace.proofs.Starting.{down_none}

no_value : {X : Type 0} (x : X) → None ≡ Some x → ⊥
no_value x h = cc

no_items : {X : Type 0} (xs : List X) → length xs ≡ 0 → xs ≡ []
no_items [] none = refl
no_items (x ∷ xs) none = absurd (omega (arith, none))

abbrev no_entries : StartEntries
no_entries = empty

abbrev no_table : Table
no_table = empty

nothing_listed : entries no_entries ≡ []
nothing_listed = no_items (entries no_entries) (sym (len-entries no_entries) ∙ len-empty path_cmp StartEntry)

nothing_held : (e : Entry) (node : Node) → get no_table e ≡ Some node → ⊥
nothing_held e node held = no_value node (sym (get-empty entry_cmp e) ∙ held)

nothing_there : (p : Path) (e : StartEntry) → get no_entries p ≡ Some e → ⊥
nothing_there p e there = no_value e (sym (get-empty path_cmp p) ∙ there)

none_octal : AllOctal []
none_octal n r at = absurd (cc)

nothing_below : AreBelow (entries no_entries) 0
nothing_below = subst (λ es. AreBelow es 0) (sym nothing_listed) tt

-- ---- before the first line

pub empty_sound : IsSound empty_state
empty_sound = record {
  fresh = λ _. refl;
  initial = empty;
  homes = [];
  start = λ made. absurd (made refl);
  now = λ made. absurd (made refl);
  system = refl;
  legal = tt;
  octal = λ p e there. absurd (nothing_there p e there);
  kinds = λ p e there. absurd (nothing_there p e there);
  small = λ p e there. absurd (nothing_there p e there);
  numbered = λ n p at. absurd (cc);
  linked = λ n link at. absurd (cc);
  found = λ p e there. absurd (nothing_there p e there);
  below = nothing_below;
  few = omega arith;
  counted = omega arith;
  housed = omega arith;
  tallied = (let none = len-empty path_cmp StartEntry in omega (arith, none));
  rights = record { files = none_octal; directories = none_octal };
}

-- ---- after the header

empty_tree : IsTree (held_in no_table)
empty_tree = record {
  reached = λ e node held. absurd (nothing_held e node held);
  one = λ e f d held _. absurd (nothing_held e (Directory d) held);
  root = λ e held. nothing_held e (Directory 0) held;
}

module _ (version : Version) (claims : Claims) (octal : claims.permissions ≤ 511) where
  abbrev number : ℕ
  number = number_for version [] root_home

  number_is : number ≡ 0
  number_is = by (is_fourth version)
    where
      by : (fourth : Bool) → ◌≡◌ {A = ℕ} (if fourth then 0 else 0) 0
      by true = refl
      by false = refl

  abbrev root : StartEntry
  root = entry_for (Directory number) claims OfDirectory

  abbrev start_next : StartEntries
  start_next = insert no_entries [] root

  nothing_before : (q : Path) → get (map_values node_of no_entries) q ≡ None
  nothing_before q = get-map_values path_cmp node_of no_entries q ∙ ap (option_map node_of) (get-empty path_cmp q)

  agree : (q : Path) → at_path (held_in no_table) q ≡ get (map_values node_of start_next) q
  agree [] =
      ap (λ d. Some (Directory d)) (sym number_is)
      ∙ sym (ap (λ m. get m []) (map_values-insert no_entries [] root)
      ∙ get-insert_same path_total path_exact (map_values node_of no_entries) [] (Directory number))
  agree (x ∷ q) =
      ap (λ o. down (held_in no_table) o q) (get-empty entry_cmp (entry_in 0 x)) ∙ down_none (held_in no_table) q
      ∙ sym (ap (λ m. get m (x ∷ q)) (map_values-insert no_entries [] root)
      ∙ get-insert_other path_total path_exact (map_values node_of no_entries) (x ∷ q) [] (Directory number) (λ same. some_name same)
      ∙ nothing_before (x ∷ q))
    where
      some_name : {X : Type 0} {y : X} {ys : List X} → y ∷ ys ≡ [] → ⊥
      some_name h = cc

  stay : (d : ℕ) (e : Entry) → slice_get (root_home ∷ []) d ≡ Some e → (d ≡ 0) ⊎ (get no_table e ≡ Some (Directory d))
  stay zero e at = inl refl
  stay (suc d) e at = absurd (cc)

  many : 1 ≡ directory_count (nodes_in start_next)
  many =
      (let counted = count_directory no_entries [] root (get-empty path_cmp []) number refl in
      let none : directory_count (nodes_in no_entries) ≡ 0 =
      ap (λ (es : List (Path × StartEntry)). directory_count (map (λ e. e.1.node) es)) nothing_listed in
      omega (arith, counted, none))

  no_file : (kind : FileKind) (file : ℕ) → Directory number ≡ File kind file → ⊥
  no_file kind file h = cc

  tallied : 1 ≡ len start_next + 0
  tallied =
      (let grown : len start_next ≡ len no_entries + 1 =
      len-insert path_total no_entries [] root
      ∙ ap (λ o. cond (is_some o) (len no_entries) (len no_entries + 1)) (get-empty path_cmp []) in
      let none = len-empty path_cmp StartEntry in
      omega (arith, grown, none))

  pub header_sound : IsSound (after_header empty_state version claims)
  header_sound = record {
    fresh = λ zero. absurd (omega (arith, zero));
    initial = empty;
    homes = root_home ∷ [];
    start = λ _. record {
      tree = empty_tree;
      agree = agree;
      at_home = record { root = refl; each = λ e d held. absurd (nothing_held e (Directory d) held) };
      stay = stay;
      many = many;
    };
    now = λ _. record {
      tree = empty_tree;
      files = λ e kind file held. absurd (nothing_held e (File kind file) held);
      directories = λ e d held. absurd (nothing_held e (Directory d) held);
      rooted = omega arith;
      root = refl;
      placed = λ _ e d held. absurd (nothing_held e (Directory d) held);
    };
    system = refl;
    legal = tt;
    octal = each_of no_entries [] root (λ _ e. e.rights.permissions ≤ 511) octal (λ q e _ there. absurd (nothing_there q e there));
    kinds = each_of no_entries [] root (λ _ e. FitsNode e.node e.content) refl (λ q e _ there. absurd (nothing_there q e there));
    small =
        each_of no_entries [] root (λ _ e. size_of e.content ≤ most_bytes version) (omega arith)
        (λ q e _ there. absurd (nothing_there q e there));
    numbered = λ n p at. absurd (cc);
    linked = λ n link at. absurd (cc);
    found =
        each_of no_entries [] root (λ q e. (kind : FileKind) (file : ℕ) → e.node ≡ File kind file → HasOwn [] start_next e file)
        (λ kind file same. absurd (no_file kind file same)) (λ q e _ there. absurd (nothing_there q e there));
    below =
        subst (λ es. AreBelow es 0) (sym (entries-insert path_total no_entries [] root))
        (below-put [] root 0 (entries no_entries) (λ own. absurd (false≢true own)) nothing_below);
    few = omega arith;
    counted = omega arith;
    housed = omega arith;
    tallied = tallied;
    rights =
        kept_octal version no_attributes (with_directory no_attributes number root.rights)
        (record { files = none_octal; directories = none_octal })
        (record {
          files = none_octal;
          directories =
              directory_octal no_attributes number root.rights (record { files = none_octal; directories = none_octal }) octal;
        });
  }
