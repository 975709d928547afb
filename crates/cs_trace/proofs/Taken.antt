-- What is known of entries and paths that a line names, if the line is accepted.
use Rattle.std.proofs.Common.{◌≡◌, ◌≢◌, ℕ, zero, suc, ◌+◌, ◌<◌, ◌≤◌, ◌==◌, ◌||◌, ◌&&◌, not, Bool, true, false, List, [], ◌∷◌, ◌++◌, length}
use Rattle.std.proofs.Common.{Option, None, Some, Result, Ok, Err, refl, sym, ap, ◌∙◌, subst, arith, ⊎_elim, inl, inr, length-append}
use Rattle.std.proofs.lemmas.Bool.{eq-eqb, eqb-true, false≢true, or_parts}
use Rattle.std.proofs.lemmas.Bool.Decides.{nat_tests}
use Rattle.std.proofs.lemmas.List.{append_assoc}
use Rattle.std.proofs.lemmas.Slice.Eq.{bytes_eq-Decides, starts_is}
use Rattle.std.specs.FinMap.{entries, get}
use Rattle.std.specs.List.{list_any, slice_get, starts_with}
use Rattle.std.specs.Prelude.{if◌then◌else◌, nat_lt}
use Rattle.cs_entries.specs.DirEntries.{IsNamed, entry_of, last_name, root_home}
use Rattle.cs_entries.specs.declared.entry.Entry.{Entry}
use Rattle.cs_entries.specs.Entries.{Entries, entry_eq}
use Rattle.cs_entries.specs.Laws.Apart.{IsNotBelow, reached_apart}
use Rattle.cs_entries.specs.Laws.Listed.{In}
use Rattle.cs_entries.specs.Laws.One.{entry_cases}
use Rattle.cs_entries.specs.Laws.Records.{table_in}
use Rattle.cs_entries.specs.Laws.Trees.{way_kept}
use Rattle.cs_entries.specs.Legal.{Any, IsBare, IsEmpty, IsNew, IsReached, IsTree, Way}
use Rattle.cs_entries.specs.Paths.{at_path, entry_in}
use Rattle.cs_entries.specs.Tables.{Table, has_entries, held_in}
use Rattle.cs_entries.specs.declared.entry.DirEntry.{DirEntry}
use Rattle.cs_entries.specs.declared.node.FileKind.{FileKind}
use Rattle.cs_entries.specs.declared.node.FileKind.TheVariants.{Regular, Symlink}
use Rattle.cs_entries.specs.declared.node.Node.{Node}
use Rattle.cs_entries.specs.declared.node.Node.TheVariants.{Directory, File}
use Rattle.cs_names.specs.Texts.{same_bytes}
use Rattle.cs_names.specs.declared.limits.TheConstants.{TRACE_PATH_NAMES, TREE_RECORDS}
use Rattle.cs_start.specs.Below.{is_below}
use Rattle.cs_tree_model.specs.Tree.{Path, parent_path}
use Rattle.cs_trace.specs.Judging.{and_then, directory_number, emptied_by, entry_at, entry_below, file_by, free_at, has_too_many_names}
use Rattle.cs_trace.specs.Judging.{is_too_much, leaf_by, node_at, parent_at, parent_by, under_directory, under_file, vacant_by}
use Rattle.cs_trace.specs.Operations.{Stands, number_for, place_of}
use Rattle.cs_trace.specs.State.{State}
use Rattle.cs_trace.specs.declared.fault.TraceFaultKind.{TraceFaultKind}
use Rattle.cs_trace.specs.declared.fault.TraceFaultKind.TheVariants.{NotEmpty}
use Rattle.cs_trace_lines.specs.Versions.{is_fourth}
use Rattle.cs_trace_lines.specs.declared.version.Version.{Version}
use Rattle.cs_trace.proofs.Homed.{place_within}
use Rattle.cs_trace.proofs.Named.{above_is, at_entry, whole_path}
use Rattle.cs_trace.proofs.Sound.{IsNow}
use Rattle.cs_trace.proofs.StartPuts.{path_reached}

-- ---- what is at a path, by the result of a test

pub file_is : (here : Option Node) (file : ℕ) → file_by here ≡ Ok file → here ≡ Some (File Regular file)
file_is None file is = absurd (cc)
file_is (Some (Directory d)) file is = absurd (cc)
file_is (Some (File Symlink other)) file is = absurd (cc)
file_is (Some (File Regular other)) file is = let same : other ≡ file = cc in ap (λ n. Some (File Regular n)) same

pub leaf_is : (here : Option Node) (leaf : FileKind × ℕ) → leaf_by here ≡ Ok leaf → here ≡ Some (File leaf.0 leaf.1)
leaf_is None leaf is = absurd (cc)
leaf_is (Some (Directory d)) leaf is = absurd (cc)
leaf_is (Some (File kind file)) leaf is =
    let same : (kind, file) ≡ leaf = cc in ap (λ (l : FileKind × ℕ). Some (File l.0 l.1)) same

-- the directory above, and nothing here
pub record IsFree (above here : Option Node) (p : Path) (e : DirEntry) : Type 0 where
  pub directory : ℕ
  pub entry : entry_below directory p ≡ e
  pub there : above ≡ Some (Directory directory)
  pub none : here ≡ None

free_by : (above here : Option Node) (p : Path) (e : DirEntry)
    → and_then (and_then (parent_by above) (λ d. Ok (entry_below d p))) (λ f. and_then (vacant_by here) (λ _. Ok f)) ≡ Ok e
    → IsFree above here p e
free_by None here p e is = absurd (cc)
free_by (Some (File kind file)) here p e is = absurd (cc)
free_by (Some (Directory d)) (Some node) p e is = absurd (cc)
free_by (Some (Directory d)) None p e is = record { directory = d; entry = cc; there = refl; none = refl }

pub free_is : (s : State) (p : Path) (e : DirEntry) → free_at s p ≡ Ok e → IsFree (node_at s (parent_path p)) (node_at s p) p e
free_is s p e is = free_by (node_at s (parent_path p)) (node_at s p) p e is

above_by : (above : Option Node) (p : Path) (e : DirEntry) → and_then (parent_by above) (λ d. Ok (entry_below d p)) ≡ Ok e
    → (d : ℕ) × (entry_below d p ≡ e) × (above ≡ Some (Directory d))
above_by None p e is = absurd (cc)
above_by (Some (File kind file)) p e is = absurd (cc)
above_by (Some (Directory d)) p e is = (d, cc, refl)

pub parent_is : (s : State) (p : Path) (e : DirEntry) → parent_at s p ≡ Ok e
    → (d : ℕ) × (entry_below d p ≡ e) × (node_at s (parent_path p) ≡ Some (Directory d))
parent_is s p e is = above_by (node_at s (parent_path p)) p e is

-- what a file may be moved onto is here, and is no directory
pub under_is : (here old : Option Node) → under_file here ≡ Ok old → (here ≡ old) × ((d : ℕ) → old ≢ Some (Directory d))
under_is None old is = let same : None ≡ old = cc in (same, λ d h. let other : None ≡ Some (Directory d) = same ∙ h in absurd (cc))
under_is (Some (Directory c)) old is = absurd (cc)
under_is (Some (File kind file)) old is =
    let same : Some (File kind file) ≡ old = cc in
    (same, λ d h. let other : Some (File kind file) ≡ Some (Directory d) = same ∙ h in absurd (cc))

-- ---- a directory without an entry

any_of : {X : Type 0} (f : X → Bool) (xs : List X) (x : X) → In x xs → f x ≡ true → list_any f xs ≡ true
any_of f [] x inside is = absurd inside
any_of f (y ∷ ys) x inside is = ⊎_elim
    (λ (here : x ≡ y). ap (λ b. b || list_any f ys) (ap f (sym here) ∙ is))
    (λ (later : In x ys). always (f y) (list_any f ys) (any_of f ys x later is))
    inside
  where
    always : (a b : Bool) → b ≡ true → a || b ≡ true
    always true b h = refl
    always false b h = h

pub empty_is : (t : Table) (d : ℕ) → has_entries t d ≡ false → IsEmpty (held_in t) d
empty_is t d none e inside = by (get t e) refl
  where
    by : (o : Option Node) → get t e ≡ o → get t e ≡ None
    by None is = is
    by (Some node) is = absurd (false≢true
        (sym none ∙ any_of (λ (x : Entry × Node). x.0.directory == d) (entries t) (e, node) (table_in t e node is)
        (eq-eqb e.directory d inside)))

emptied_at : (t : Table) (c d : ℕ) (filled : Bool) → has_entries t c ≡ filled → (if filled then Err NotEmpty else Ok c) ≡ Ok d
    → (Some (Directory c) ≡ Some (Directory d)) × IsEmpty (held_in t) d
emptied_at t c d true has is = absurd (cc)
emptied_at t c d false has is =
    let same : c ≡ d = cc in (ap (λ n. Some (Directory n)) same, subst (IsEmpty (held_in t)) same (empty_is t c has))

pub emptied_is : (t : Table) (here : Option Node) (d : ℕ) → emptied_by t here ≡ Ok d
    → (here ≡ Some (Directory d)) × IsEmpty (held_in t) d
emptied_is t None d is = absurd (cc)
emptied_is t (Some (File kind file)) d is = absurd (cc)
emptied_is t (Some (Directory c)) d is = emptied_at t c d (has_entries t c) refl is

no_directory : (kind : FileKind) (file d : ℕ) → Some (File kind file) ≡ Some (Directory d) → ⊥
no_directory kind file d h = cc

pub file_is_bare : (m : Entries) (kind : FileKind) (file : ℕ) → IsBare m (Some (File kind file))
file_is_bare m kind file d is = absurd (no_directory kind file d is)

pub nothing_is_bare : (m : Entries) → IsBare m None
nothing_is_bare m d is = absurd (cc)

pub empty_is_bare : (m : Entries) (c : ℕ) → IsEmpty m c → IsBare m (Some (Directory c))
empty_is_bare m c empty d is = let same : c ≡ d = cc in subst (IsEmpty m) same empty

filled_by : (t : Table) (c : ℕ) (old : Option Node) (filled : Bool) → has_entries t c ≡ filled
    → (if filled then Err NotEmpty else Ok (Some (Directory c))) ≡ Ok old
    → (Some (Directory c) ≡ old) × IsBare (held_in t) old
filled_by t c old true has is = absurd (cc)
filled_by t c old false has is =
    let same : Some (Directory c) ≡ old = cc in
    (same, subst (IsBare (held_in t)) same (empty_is_bare (held_in t) c (empty_is t c has)))

-- what a directory may be moved onto: no file, and no directory that has an entry
pub record IsUnder (t : Table) (here old : Option Node) : Type 0 where
  pub same : here ≡ old
  pub bare : IsBare (held_in t) old
  pub none : (kind : FileKind) (file : ℕ) → old ≢ Some (File kind file)

pub under_directory_is : (t : Table) (here old : Option Node) → under_directory t here ≡ Ok old → IsUnder t here old
under_directory_is t None old is =
    let same : None ≡ old = cc in
    record {
      same = same;
      bare = subst (IsBare (held_in t)) same (nothing_is_bare (held_in t));
      none = λ kind file h. let other : None ≡ Some (File kind file) = same ∙ h in absurd (cc);
    }
under_directory_is t (Some (File kind file)) old is = absurd (cc)
under_directory_is t (Some (Directory c)) old is =
    let both = filled_by t c old (has_entries t c) refl is in
    record {
      same = both.0;
      bare = both.1;
      none = λ kind file h. let other : Some (Directory c) ≡ Some (File kind file) = both.0 ∙ h in absurd (cc);
    }

-- ---- in a tree

module _ (m : Entries) where
  no_file : (kind : FileKind) (file : ℕ) → Some (Directory 0) ≡ Some (File kind file) → ⊥
  no_file kind file h = cc

  -- a file has a path with a name
  pub file_named : (p : Path) (kind : FileKind) (file : ℕ) → at_path m p ≡ Some (File kind file) → p ≢ []
  file_named p kind file at none = no_file kind file (sym (ap (at_path m) none) ∙ at)

  -- and an entry
  pub file_stands : (p : Path) (kind : FileKind) (file : ℕ) → at_path m p ≡ Some (File kind file) → Stands m kind file
  file_stands p kind file at =
      let named = file_named p kind file at in
      let up = above_is m p (File kind file) named at in
      (entry_in up.0 (last_name p), sym (at_entry m p up.0 named up.1) ∙ at)

  -- each way passes by the entry of a file
  pub reached_past : (a : Entry) (kind : FileKind) (file d : ℕ) → m a ≡ Some (File kind file) → IsReached m Any d
      → IsReached m (λ f. f ≢ a) d
  reached_past a kind file d held w = (
    w.0,
    way_kept m m Any (λ f. f ≢ a)
        (λ f c is _. (is, λ same. no_directory kind file c (sym held ∙ ap m (sym same) ∙ is))) w.0 d w.1,
  )

  -- a directory of a path that isn't below p is reached past p's entry
  pub reached_beside : IsTree m → (p q : Path) (c d : ℕ) → p ≢ [] → q ≢ [] → at_path m (parent_path p) ≡ Some (Directory c)
      → at_path m (parent_path q) ≡ Some (Directory d) → is_below p q ≡ false → IsReached m (λ f. f ≢ entry_in c (last_name p)) d
  reached_beside tree p q c d named other above beside none =
      reached_apart m tree (parent_path p) (last_name p) c above (parent_path q) d beside
      (λ r is. below r (is ∙ ap (λ x. x ++ r) (whole_path p named)))
    where
      below : (r : Path) → parent_path q ≡ p ++ r → ⊥
      below r is =
          (let rest = r ++ last_name q ∷ [] in
          let whole : q ≡ p ++ rest =
          sym (whole_path q other) ∙ ap (λ x. x ++ last_name q ∷ []) is ∙ append_assoc p r (last_name q ∷ []) in
          let starts : starts_with same_bytes q p ≡ true =
          (starts_is bytes_eq-Decides q p (starts_with same_bytes q p) refl).1 rest whole in
          let longer : length p < length q =
          omega (arith, ap length whole, length-append p rest, length-append r (last_name q ∷ [])) in
          let less : nat_lt (length p) (length q) ≡ true = grind (arith, nat_tests, longer) in
          false≢true (sym none ∙ ap (λ b. b && starts_with same_bytes q p) less ∙ starts))

-- ---- the number of a new directory

pub place_at : (e : Entry) (homes : List Entry) → place_of e homes < length homes → slice_get homes (place_of e homes) ≡ Some e
place_at e [] low = absurd (omega (arith, low))
place_at e (f ∷ fs) low = ⊎_elim
    (λ (one : (entry_eq e f ≡ true) × (e ≡ f)).
    ap (λ b. slice_get (f ∷ fs) (if b then 0 else suc (place_of e fs))) one.0 ∙ ap Some (sym one.1))
    (λ (two : (entry_eq e f ≡ false) × (e ≢ f)).
    (let next : suc (place_of e fs) < suc (length fs) =
    subst (λ b. (if b then 0 else suc (place_of e fs)) < suc (length fs)) two.0 low in
    ap (λ b. slice_get (f ∷ fs) (if b then 0 else suc (place_of e fs))) two.0 ∙ place_at e fs (omega (arith, next))))
    (entry_cases e f)

same_entry : (e f : Entry) → Some e ≡ Some f → e ≡ f
same_entry e f h = cc

module _ (s : State) (now : IsNow s.version s.system) (e : Entry) (named : e.name ≢ []) (none : get s.system.entries e ≡ None) where
  abbrev homes : List Entry
  homes = s.system.homes

  next_new : IsNew (held_in s.system.entries) (Directory (length homes))
  next_new = (
    λ zero_homes. (let some = now.rooted in absurd (omega (arith, some, zero_homes))),
    λ f held. (let low = now.directories f (length homes) held in absurd (omega (arith, low))),
  )

  no_node : (node : Node) → None ≡ Some node → ⊥
  no_node node h = cc

  place_new : is_fourth s.version ≡ false → IsNew (held_in s.system.entries) (Directory (place_of e homes))
  place_new early = (
    λ zero_place.
        (let low : place_of e homes < length homes = (let some = now.rooted in omega (arith, some, zero_place)) in
        named (ap (λ (f : Entry). f.name)
        (same_entry e root_home (sym (place_at e homes low) ∙ ap (slice_get homes) zero_place ∙ now.root)))),
    λ f held.
        (let low = now.directories f (place_of e homes) held in
        let there = same_entry e f (sym (place_at e homes low) ∙ now.placed early f (place_of e homes) held) in
        no_node (Directory (place_of e homes)) (sym none ∙ ap (get s.system.entries) there ∙ held)),
  )

  by_version : (fourth : Bool) → is_fourth s.version ≡ fourth
      → IsNew (held_in s.system.entries) (Directory (if fourth then length homes else place_of e homes))
  by_version true is = next_new
  by_version false is = place_new is

  pub number_new : IsNew (held_in s.system.entries) (Directory (number_for s.version homes e))
  number_new = by_version (is_fourth s.version) refl

  number_by : (fourth : Bool) → (if fourth then length homes else place_of e homes) ≤ length homes
  number_by true = omega arith
  number_by false = place_within e homes

  pub number_within : number_for s.version homes e ≤ length homes
  number_within = number_by (is_fourth s.version)

-- ---- limits

pub limits_by : (made : ℕ) (p : Path) → is_too_much made p ≡ false → made + 1 ≤ TREE_RECORDS
limits_by made p is =
    let both = or_parts (has_too_many_names p) _ is in
    grind (arith, nat_tests, both.1)
