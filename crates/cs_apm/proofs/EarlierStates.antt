-- A state by paths and a state by entries, in a trace of a version before the fourth: one operation.
use Rattle.std.proofs.Common.{◌≡◌, ◌≢◌, ℕ, zero, suc, ◌<◌, Bool, true, false, cond, List, [], ◌⊎◌, inl, inr, Option, None, Some}
use Rattle.std.proofs.Common.{refl, sym, ap, ◌∙◌, subst, arith, length, map, take, get_or, ⊎_elim}
use Rattle.std.proofs.lemmas.List.{get_or-set_other, get_or-set_same}
use Rattle.std.specs.FinMap.{get, get-insert, get-remove, insert, remove}
use Rattle.std.specs.Option.{option_map, option_map_or}
use Rattle.std.specs.Ordering.{eq_by_cmp}
use Rattle.std.specs.Prelude.{slice_set}
use Rattle.cs_tree_model.specs.Laws.Paths.{path_cases, path_total}
use Rattle.cs_tree_model.specs.Tree.{Path, parent_path, path_cmp}
use Rattle.cs_entries.specs.declared.entry.DirEntry.{DirEntry}
use Rattle.cs_entries.specs.declared.entry.Entry.{Entry}
use Rattle.cs_entries.specs.declared.node.Node.{Node}
use Rattle.cs_entries.specs.declared.node.Node.TheVariants.{Directory, File}
use Rattle.cs_entries.specs.DirEntries.{IsNamed, entry_of, last_name}
use Rattle.cs_entries.specs.Entries.{Entries, EntryOp, Create, Delete, Link, Move, after, put}
use Rattle.cs_entries.specs.Legal.{Any, IsBare, IsReached, IsTree, Way, IsLegal as IsLegalEntryOp}
use Rattle.cs_entries.specs.Paths.{at_path, entry_in}
use Rattle.cs_entries.specs.Laws.One.{no_directory, no_node, put_other, same_number}
use Rattle.cs_entries.specs.Laws.Paths.{IsMore, in_directory, last_cases}
use Rattle.cs_entries.specs.Laws.Puts.{path_put}
use Rattle.cs_entries.specs.Laws.Trees.{tree_after}
use Rattle.cs_start.specs.declared.rights.Rights.{Rights}
use Rattle.cs_trace.specs.declared.operation.Target.TheVariants as targets
use Rattle.cs_micro.specs.declared.micro_op.MicroOp.{MicroOp}
use Rattle.cs_micro.specs.declared.micro_op.MicroOp.TheVariants.{CreateDirEntry, DeleteDirEntry, MoveDirEntry, LinkDirEntry, ChangeFileSize}
use Rattle.cs_micro.specs.declared.micro_op.MicroOp.TheVariants.{WriteBlock, SetAttr, Say}
use Rattle.cs_micro.specs.Earlier.Same.{op_before}
use Rattle.cs_micro.specs.Legal.{entry_op}
use Rattle.cs_apm.specs.States.{directories_after, no_rights}
use Rattle.cs_apm.specs.States as now
use Rattle.cs_apm.specs.Earlier.States as before
use Rattle.cs_apm.proofs.EarlierPaths.{IsPlaced, named_holds, one_directory, one_path, whole_path}
use Rattle.cs_apm.proofs.EarlierRules.{IsPlain}

-- what was at a path
abbrev pub entry_before : List Rights → Node → before.Entry
entry_before all (Directory d) = before.Directory (get_or all d no_rights)
entry_before all (File kind file) = before.File file

-- what is at each path is what was there
abbrev pub AreAlike : List Rights → Entries → before.Entries → Type 0
AreAlike all m paths = (p : Path) → get paths p ≡ option_map (entry_before all) (at_path m p)

-- ---- what is put at the path of an entry that is named

map_over : {A B : Type 0} (f : A → B) (b : Bool) (x y : Option A) → option_map f (cond b x y) ≡ cond b (option_map f x) (option_map f y)
map_over f true x y = refl
map_over f false x y = refl

module _ (m : Entries) (tree : IsTree m) (f : DirEntry) (named : IsNamed m f) (held : Option Node) (bare : IsBare m (m (entry_of f)))
    (new : (d : ℕ) → held ≡ Some (Directory d) → (d ≢ f.directory) × ((e : Entry) → e.directory ≡ d → m e ≡ None)) where
  pub put_path : (q : Path) → at_path (put m (entry_of f) held) q ≡ cond (eq_by_cmp path_cmp q f.path) held (at_path m q)
  put_path q =
      path_put m tree (parent_path f.path) (last_name f.path) f.directory named.1 held bare new (length q) q (omega arith)
      ∙ ap (λ p. cond (eq_by_cmp path_cmp q p) held (at_path m q)) (whole_path f.path named.0)

-- a directory that isn't reached has nothing in it
none_in : (m : Entries) → IsTree m → (d : ℕ) → d ≢ 0 → ((f : Entry) → m f ≢ Some (Directory d)) → (e : Entry) → e.directory ≡ d → m e ≡ None
none_in m tree d some none e is = by (m e) refl
  where
    way : (k : ℕ) → Way m Any k d → ⊥
    way zero z = some z
    way (suc k) z = none z.0 z.1

    by : (o : Option Node) → m e ≡ o → m e ≡ None
    by None at = at
    by (Some node) at = absurd (let r = subst (IsReached m Any) is (tree.reached e node at) in way r.0 r.1)

not_reached : (m : Entries) (d c : ℕ) → d ≢ 0 → ((f : Entry) → m f ≢ Some (Directory d)) → IsReached m Any c → d ≢ c
not_reached m d c some none r is = way r.0 (subst (λ x. Way m Any r.0 x) (sym is) r.1)
  where
    way : (k : ℕ) → Way m Any k d → ⊥
    way zero z = some z
    way (suc k) z = none z.0 z.1

-- the directory at a path is the root, or held
pub held_or_root : (m : Entries) (q : Path) (x : ℕ) → at_path m q ≡ Some (Directory x)
    → (x ≡ 0) ⊎ ((e : Entry) × (m e ≡ Some (Directory x)))
held_or_root m q x at = ⊎_elim
    (λ (nil : q ≡ []). inl (same_number x 0 (sym at ∙ ap (at_path m) nil)))
    (λ (w : IsMore q).
    (let i = in_directory m w.front w.last (Directory x) (ap (at_path m) (sym w.is) ∙ at) in inr (entry_in i.directory w.last, i.held)))
    (last_cases q)

-- ---- one operation

-- it touches the entry
abbrev pub InOp : MicroOp → DirEntry → Type 0
InOp (CreateDirEntry e node rights bytes) f = e ≡ f
InOp (DeleteDirEntry e node) f = e ≡ f
InOp (LinkDirEntry e kind file old half) f = e ≡ f
InOp (MoveDirEntry a b node old) f = (a ≡ f) ⊎ (b ≡ f)
InOp _ f = ⊥

module _ (home : ℕ → Entry) (number : Entry → ℕ) (m : Entries) (pm : IsPlaced home number m) (all : List Rights) (paths : before.Entries)
    (alike : AreAlike all m paths) where
  -- a file, or nothing, at an entry
  module _ (f : DirEntry) (named : IsNamed m f) (bare : IsBare m (m (entry_of f))) where
    put_file : (node : Node) → ((d : ℕ) → Some node ≢ Some (Directory d))
        → AreAlike all (put m (entry_of f) (Some node)) (insert paths f.path (entry_before all node))
    put_file node none q =
        get-insert path_total paths f.path (entry_before all node) q
        ∙ ap (cond (eq_by_cmp path_cmp q f.path) (Some (entry_before all node))) (alike q)
        ∙ sym (map_over (entry_before all) (eq_by_cmp path_cmp q f.path) (Some node) (at_path m q))
        ∙ ap (option_map (entry_before all))
        (sym (put_path m pm.tree f named (Some node) bare (λ d is. absurd (none d is)) q))

    take_away : AreAlike all (put m (entry_of f) None) (remove paths f.path)
    take_away q =
        get-remove path_total paths f.path q
        ∙ ap (cond (eq_by_cmp path_cmp q f.path) None) (alike q)
        ∙ sym (map_over (entry_before all) (eq_by_cmp path_cmp q f.path) None (at_path m q))
        ∙ ap (option_map (entry_before all))
        (sym (put_path m pm.tree f named None bare (λ d is. absurd (no_node (Directory d) is)) q))

  -- a directory that is made, with its rights
  put_directory : (f : DirEntry) (d : ℕ) (rights : Rights) → IsNamed m f → m (entry_of f) ≡ None → IsReached m Any f.directory
      → d ≢ 0 → ((e : Entry) → m e ≢ Some (Directory d)) → d < length all
      → AreAlike (slice_set all d rights) (put m (entry_of f) (Some (Directory d))) (insert paths f.path (before.Directory rights))
  put_directory f d rights named free reached some none low q =
      get-insert path_total paths f.path (before.Directory rights) q
      ∙ by (eq_by_cmp path_cmp q f.path)
      ∙ ap (option_map (entry_before (slice_set all d rights)))
      (sym (put_path m pm.tree f named (Some (Directory d)) (λ c is. absurd (no_node (Directory c) (sym free ∙ is))) new q))
    where
      new : (c : ℕ) → Some (Directory d) ≡ Some (Directory c) → (c ≢ f.directory) × ((e : Entry) → e.directory ≡ c → m e ≡ None)
      new c is =
          (let same = same_number d c is in (
            subst (λ x. x ≢ f.directory) same (not_reached m d f.directory some none reached),
            (λ e at. none_in m pm.tree d some none e (at ∙ sym same)),
          ))

      other : (x : ℕ) → (q : Path) → at_path m q ≡ Some (Directory x) → x ≢ d
      other x q at is = ⊎_elim
          (λ (root : x ≡ 0). some (sym is ∙ root))
          (λ (w : (e : Entry) × (m e ≡ Some (Directory x))). none w.0 (w.1 ∙ ap (λ y. Some (Directory y)) is))
          (held_or_root m q x at)

      kept : (o : Option Node) → at_path m q ≡ o → option_map (entry_before all) o ≡ option_map (entry_before (slice_set all d rights)) o
      kept None at = refl
      kept (Some (File kind file)) at = refl
      kept (Some (Directory x)) at = ap (λ r. Some (before.Directory r)) (sym (get_or-set_other all d x rights no_rights (other x q at)))

      by : (b : Bool) → cond b (Some (before.Directory rights)) (get paths q)
          ≡ option_map (entry_before (slice_set all d rights)) (cond b (Some (Directory d)) (at_path m q))
      by true = ap (λ r. Some (before.Directory r)) (sym (get_or-set_same all d rights no_rights low))
      by false = alike q ∙ kept (at_path m q) refl

  -- the rights of a directory, by a path that it had at some time
  set_rights : (k : Entries) (pk : IsPlaced home number k) (d : ℕ) (path : Path) (rights : Rights) → at_path k path ≡ Some (Directory d)
      → d < length all → AreAlike (slice_set all d rights) m (before.with_rights_at paths path rights (get paths path))
  set_rights k pk d path rights there low q = by (at_path m path) refl
    where
      -- a directory elsewhere is another one
      elsewhere : (o : Option Node) → at_path m q ≡ o → q ≢ path
          → option_map (entry_before all) o ≡ option_map (entry_before (slice_set all d rights)) o
      elsewhere None at other = refl
      elsewhere (Some (File kind file)) at other = refl
      elsewhere (Some (Directory x)) at other =
          ap (λ r. Some (before.Directory r))
          (sym (get_or-set_other all d x rights no_rights
          (λ is. other (one_path home number m k pm pk q path x at (there ∙ ap (λ y. Some (Directory y)) (sym is))))))

      none_there : (o : Option Node) → at_path m q ≡ o → ((x : ℕ) → at_path m path ≢ Some (Directory x))
          → option_map (entry_before all) o ≡ option_map (entry_before (slice_set all d rights)) o
      none_there o at none = elsewhere_or o at
        where
          elsewhere_or : (o : Option Node) → at_path m q ≡ o
              → option_map (entry_before all) o ≡ option_map (entry_before (slice_set all d rights)) o
          elsewhere_or None at = refl
          elsewhere_or (Some (File kind file)) at = refl
          elsewhere_or (Some (Directory x)) at =
              ap (λ r. Some (before.Directory r))
              (sym (get_or-set_other all d x rights no_rights
              (λ is. none x (ap (at_path m) (sym (one_path home number m k pm pk q path x at (there
              ∙ ap (λ y. Some (Directory y)) (sym is)))) ∙ at))))

      stays : (o : Option Node) → at_path m path ≡ o → ((x : ℕ) → o ≢ Some (Directory x))
          → before.with_rights_at paths path rights (option_map (entry_before all) o) ≡ paths
          → get (before.with_rights_at paths path rights (get paths path)) q
          ≡ option_map (entry_before (slice_set all d rights)) (at_path m q)
      stays o at none same =
          ap (λ e. get (before.with_rights_at paths path rights e) q) (alike path ∙ ap (option_map (entry_before all)) at)
          ∙ ap (λ ps. get ps q) same ∙ alike q
          ∙ none_there (at_path m q) refl (λ x is. none x (sym at ∙ is))

      by : (o : Option Node) → at_path m path ≡ o
          → get (before.with_rights_at paths path rights (get paths path)) q
          ≡ option_map (entry_before (slice_set all d rights)) (at_path m q)
      by None at = stays None at (λ x is. no_node (Directory x) is) refl
      by (Some (File kind file)) at = stays (Some (File kind file)) at (λ x is. no_directory kind file x is) refl
      by (Some (Directory x)) at =
          ap (λ e. get (before.with_rights_at paths path rights e) q) (alike path ∙ ap (option_map (entry_before all)) at)
          ∙ get-insert path_total paths path (before.Directory rights) q
          ∙ ⊎_elim
          (λ (one : (eq_by_cmp path_cmp q path ≡ true) × (q ≡ path)).
          ap (λ b. cond b (Some (before.Directory rights)) (get paths q)) one.0
          ∙ ap (λ r. Some (before.Directory r)) (sym (get_or-set_same all d rights no_rights low))
          ∙ ap (option_map (entry_before (slice_set all d rights)))
          (ap (λ y. Some (Directory y)) (sym (one_directory home number m k pm pk path x d at there)) ∙ sym (ap (at_path m) one.1 ∙ at)))
          (λ (two : (eq_by_cmp path_cmp q path ≡ false) × (q ≢ path)).
          ap (λ b. cond b (Some (before.Directory rights)) (get paths q)) two.0 ∙ alike q ∙ elsewhere (at_path m q) refl two.1)
          (path_cases q path)

  -- a file moves to another entry
  move_file : (a b : DirEntry) (node : Node) (old : Option Node) → IsNamed m a → IsNamed m b
      → IsLegalEntryOp m (Move (entry_of a) (entry_of b) node old)
      → ((d : ℕ) → Some node ≢ Some (Directory d)) → ((d : ℕ) → old ≢ Some (Directory d))
      → AreAlike all (after m (Move (entry_of a) (entry_of b) node old)) (before.with_entry_moved a.path b.path paths)
  move_file a b node old na nb l none over q =
      ap (λ e. get (option_map_or (λ e. insert (remove paths a.path) b.path e) e paths) q)
      (alike a.path ∙ ap (option_map (entry_before all)) (named_holds m a na ∙ l.1))
      ∙ get-insert path_total (remove paths a.path) b.path (entry_before all node) q
      ∙ ap (cond (eq_by_cmp path_cmp q b.path) (Some (entry_before all node))) (taken q)
      ∙ sym (map_over (entry_before all) (eq_by_cmp path_cmp q b.path) (Some node) (at_path left q))
      ∙ ap (option_map (entry_before all))
      (ap (λ o. cond (eq_by_cmp path_cmp q b.path) o (at_path left q)) (sym l.1)
      ∙ sym (put_path left left_tree b named_b (m (entry_of a)) bare_b (λ d is. absurd (none d (sym l.1 ∙ is))) q))
    where
      left : Entries
      left = put m (entry_of a) None

      bare_a : IsBare m (m (entry_of a))
      bare_a d is = absurd (none d (sym l.1 ∙ is))

      left_tree : IsTree left
      left_tree = tree_after m (Delete (entry_of a) node) pm.tree (l.1, λ d is. absurd (none d is))

      taken : (q : Path) → get (remove paths a.path) q ≡ option_map (entry_before all) (at_path left q)
      taken = take_away a na bare_a

      -- the directory of the other entry is still there
      named_b : IsNamed left b
      named_b = (
        nb.0,
        put_path m pm.tree a na None bare_a (λ d is. absurd (no_node (Directory d) is)) (parent_path b.path) ∙ ⊎_elim
            (λ (one : (eq_by_cmp path_cmp (parent_path b.path) a.path ≡ true) × (parent_path b.path ≡ a.path)).
            absurd (none b.directory (sym l.1 ∙ sym (named_holds m a na) ∙ ap (at_path m) (sym one.1) ∙ nb.1)))
            (λ (two : (eq_by_cmp path_cmp (parent_path b.path) a.path ≡ false) × (parent_path b.path ≢ a.path)).
            ap (λ t. cond t None (at_path m (parent_path b.path))) two.0 ∙ nb.1)
            (path_cases (parent_path b.path) a.path),
      )

      bare_b : IsBare left (left (entry_of b))
      bare_b d is = absurd (over d (sym l.2 ∙ sym (put_other m (entry_of a) (entry_of b) None l.0) ∙ is))

  pub alike_after : (o : MicroOp) (k : Entries) → IsPlaced home number k → IsPlain o → IsLegalEntryOp m (entry_op o)
      → ((f : DirEntry) → InOp o f → IsNamed m f)
      → ((d : ℕ) (path : Path) (rights : Rights) → o ≡ SetAttr (targets.Directory d path) rights → (at_path k path ≡ Some (Directory d))
      × (d < length all))
      → ((e : DirEntry) (d : ℕ) (rights : Rights) (bytes : List ℕ) → o ≡ CreateDirEntry e (Directory d) rights bytes → d < length all)
      → AreAlike (directories_after all o) (after m (entry_op o)) (before.entries_after paths (op_before o))
  alike_after (CreateDirEntry e (Directory d) rights bytes) k pk plain l named there low =
      put_directory e d rights (named e refl) l.0 l.1 l.2.0 l.2.1 (low e d rights bytes refl)
  alike_after (CreateDirEntry e (File kind file) rights bytes) k pk plain l named there low =
      put_file e (named e refl) (λ d is. absurd (no_node (Directory d) (sym l.0 ∙ is))) (File kind file) (no_directory kind file)
  alike_after (DeleteDirEntry e node) k pk plain l named there low =
      take_away e (named e refl) (subst (IsBare m) (sym l.0) l.1)
  alike_after (LinkDirEntry e kind file old half) k pk plain l named there low =
      put_file e (named e refl) (λ d is. absurd (l.0 d is)) (File kind file) (no_directory kind file)
  alike_after (MoveDirEntry a b (Directory d) old) k pk plain l named there low = absurd plain
  alike_after (MoveDirEntry a b (File kind file) None) k pk plain l named there low =
      move_file a b (File kind file) None (named a (inl refl)) (named b (inr refl)) l (no_directory kind file) (λ d. no_node (Directory d))
  alike_after (MoveDirEntry a b (File kind file) (Some (Directory d))) k pk plain l named there low = absurd plain
  alike_after (MoveDirEntry a b (File kind file) (Some (File other number_of))) k pk plain l named there low =
      move_file a b (File kind file) (Some (File other number_of)) (named a (inl refl)) (named b (inr refl)) l (no_directory kind file)
      (no_directory other number_of)
  alike_after (ChangeFileSize file to) k pk plain l named there low = alike
  alike_after (WriteBlock file block start at bytes) k pk plain l named there low = alike
  alike_after (SetAttr (targets.File file) rights) k pk plain l named there low = alike
  alike_after (SetAttr (targets.Directory d path) rights) k pk plain l named there low =
      (let w = there d path rights refl in set_rights k pk d path rights w.0 w.1)
  alike_after Say k pk plain l named there low = alike
