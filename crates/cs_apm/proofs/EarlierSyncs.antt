-- What sync points cover, and what a removed directory needs, as before version 4.
use Rattle.std.proofs.Common.{◌≡◌, ◌≢◌, ℕ, suc, ◌<◌, ◌≤◌, ◌==◌, ◌&&◌, ◌||◌, Bool, true, false, List, [], ◌∷◌, None, Some}
use Rattle.std.proofs.Common.{refl, sym, ap, ◌∙◌, subst, arith, length, map, ⊎_elim, nat_lt}
use Rattle.std.proofs.lemmas.Bool.{cases_eq, eq-eqb, false≢true, ne_eqb}
use Rattle.std.specs.List.{Contains, list_any}
use Rattle.std.specs.Prelude.{nat_le}
use Rattle.cs_names.specs.Paths.{path_eq}
use Rattle.cs_tree_model.specs.Tree.{Path, parent_path}
use Rattle.cs_entries.specs.declared.entry.DirEntry.{DirEntry}
use Rattle.cs_entries.specs.declared.entry.Entry.{Entry}
use Rattle.cs_entries.specs.declared.node.Node.TheVariants.{Directory, File}
use Rattle.cs_entries.specs.DirEntries.{IsNamed, entry_of}
use Rattle.cs_entries.specs.Entries.{Entries, EntryOp, Removes}
use Rattle.cs_entries.specs.Legal.{IsLegal as IsLegalEntryOp}
use Rattle.cs_entries.specs.Paths.{at_path}
use Rattle.cs_trace.specs.declared.operation.Covers.{Covers}
use Rattle.cs_trace.specs.declared.operation.Covers.TheVariants as covers
use Rattle.cs_trace.specs.declared.operation.Target.TheVariants as targets
use Rattle.cs_trace.specs.Earlier.Same.{covers_before}
use Rattle.cs_micro.specs.declared.micro_op.MicroOp.{MicroOp}
use Rattle.cs_micro.specs.declared.micro_op.MicroOp.TheVariants.{CreateDirEntry, DeleteDirEntry, MoveDirEntry, LinkDirEntry, ChangeFileSize}
use Rattle.cs_micro.specs.declared.micro_op.MicroOp.TheVariants.{WriteBlock, SetAttr, Say}
use Rattle.cs_micro.specs.declared.sync_point.SyncPoint.{SyncPoint}
use Rattle.cs_micro.specs.Earlier.Same.{op_before, sync_before}
use Rattle.cs_micro.specs.Legal.{AreNamed, entry_op}
use Rattle.cs_apm.specs.Earlier.Rules as before
use Rattle.cs_apm.specs.Laws.Lists.{any_found, any_from}
use Rattle.cs_apm.specs.Reasons.{TouchesEntryOf}
use Rattle.cs_apm.specs.Rules as rules
use Rattle.cs_apm.specs.Rules.{op_at}
use Rattle.cs_apm.proofs.EarlierPaths.{directory_test, named_holds, one_directory, one_path, path_from, path_same}
use Rattle.cs_apm.proofs.EarlierRules.{IsPlain, contains_map, dir_entries, entries_are, map_contains, paths_are}
use Rattle.cs_apm.proofs.EarlierTimes.{IsHistory, named_at, touch, touched}

any_map : {X Y : Type 0} (t : Y → Bool) (g : X → Y) (xs : List X) → list_any t (map g xs) ≡ list_any (λ x. t (g x)) xs
any_map t g [] = refl
any_map t g (x ∷ xs) = ap (λ b. t (g x) || b) (any_map t g xs)

any_alike : {X : Type 0} (t u : X → Bool) (xs : List X) → ((x : X) → Contains xs x → t x ≡ u x) → list_any t xs ≡ list_any u xs
any_alike t u [] same = refl
any_alike t u (x ∷ xs) same =
    λ i. same x (0, omega arith, refl) i
    || any_alike t u xs (λ y w. same y (let low = w.1 in (suc w.0, omega (arith, low), w.2))) i

turned : (a b : ℕ) → (a == b) ≡ (b == a)
turned a b = ⊎_elim
    (λ (e : a ≡ b). eq-eqb a b e ∙ sym (eq-eqb b a (sym e)))
    (λ (e : a ≢ b). ne_eqb a b e ∙ sym (ne_eqb b a (λ s. e (sym s))))
    (cases_eq a b)

-- a sync of a directory names it as it is at some time; none is of data alone
abbrev pub IsNamedSync : (ℕ → Entries) → ℕ → Covers → Type 0
IsNamedSync E n (covers.Directory d path) = (k : ℕ) × (k ≤ n) × (at_path (E k) path ≡ Some (Directory d))
IsNamedSync E n (covers.Data file) = ⊥
IsNamedSync E n _ = Unit {0}

abbrev pub AreNamedSyncs : (ℕ → Entries) → ℕ → List SyncPoint → Type 0
AreNamedSyncs E n [] = Unit {0}
AreNamedSyncs E n (s ∷ syncs) = IsNamedSync E n s.covers × AreNamedSyncs E n syncs

module _ (ops : List MicroOp) (home : ℕ → Entry) (number : Entry → ℕ) (E : ℕ → Entries) (h : IsHistory ops home number E) where
  abbrev n : ℕ
  n = length ops

  module _ (i : ℕ) (low : i < n) where
    abbrev a : MicroOp
    a = op_at ops i

    module _ (d : ℕ) (path : Path) (k : ℕ) (high : k ≤ n) (leads : at_path (E k) path ≡ Some (Directory d)) where
      touches_same : before.touches_entry_of (op_before a) path ≡ rules.touches_entry_of a d
      touches_same =
          ap (list_any (λ p. path_eq path (parent_path p))) (paths_are a)
          ∙ any_map (λ p. path_eq path (parent_path p)) (λ (e : DirEntry). e.path) (dir_entries a)
          ∙ any_alike (λ (e : DirEntry). path_eq path (parent_path e.path)) (λ (e : DirEntry). e.directory == d) (dir_entries a)
          (λ e w. sym (directory_test home number (E k) (E i) (h.placed k high) (h.placed i (omega (arith, low))) path (parent_path e.path)
          d e.directory
          leads (named_at ops home number E h i low e w).1) ∙ turned d e.directory)
          ∙ sym (any_map (λ (e : Entry). e.directory == d) entry_of (dir_entries a))
          ∙ ap (list_any (λ (e : Entry). e.directory == d)) (sym (entries_are a))

      sets_same : before.sets_directory (op_before a) path ≡ rules.sets_directory a d
      sets_same = by a refl
        where
          by : (o : MicroOp) → op_at ops i ≡ o → before.sets_directory (op_before o) path ≡ rules.sets_directory o d
          by (SetAttr (targets.Directory c p) rights) is =
              (let at : at_path (E i) p ≡ Some (Directory c) = subst (AreNamed (E i)) is (h.named i low) in
              sym (directory_test home number (E i) (E k) (h.placed i (omega (arith, low))) (h.placed k high) p path c d at leads))
          by (SetAttr (targets.File file) rights) is = refl
          by (CreateDirEntry e node rights bytes) is = refl
          by (DeleteDirEntry e node) is = refl
          by (MoveDirEntry b c node old) is = refl
          by (LinkDirEntry e kind file old half) is = refl
          by (ChangeFileSize file to) is = refl
          by (WriteBlock file block start at bytes) is = refl
          by Say is = refl

    covered_file : (o : MicroOp) (file : ℕ) → before.is_covered (covers_before (covers.File file)) (op_before o) ≡ rules.is_covered
        (covers.File file) o
    covered_file (CreateDirEntry e node rights bytes) file = refl
    covered_file (DeleteDirEntry e node) file = refl
    covered_file (MoveDirEntry b c node old) file = refl
    covered_file (LinkDirEntry e kind linked old half) file = refl
    covered_file (ChangeFileSize other to) file = refl
    covered_file (WriteBlock other block start at bytes) file = refl
    covered_file (SetAttr (targets.File other) rights) file = refl
    covered_file (SetAttr (targets.Directory d path) rights) file = refl
    covered_file Say file = refl

    covered_range : (o : MicroOp) (file offset count : ℕ)
        → before.is_covered (covers_before (covers.Range file offset count)) (op_before o) ≡ rules.is_covered
        (covers.Range file offset count) o
    covered_range (CreateDirEntry e node rights bytes) file offset count = refl
    covered_range (DeleteDirEntry e node) file offset count = refl
    covered_range (MoveDirEntry b c node old) file offset count = refl
    covered_range (LinkDirEntry e kind linked old half) file offset count = refl
    covered_range (ChangeFileSize other to) file offset count = refl
    covered_range (WriteBlock other block start at bytes) file offset count = refl
    covered_range (SetAttr target rights) file offset count = refl
    covered_range Say file offset count = refl

    covered_same : (c : Covers) → IsNamedSync E n c → before.is_covered (covers_before c) (op_before a) ≡ rules.is_covered c a
    covered_same covers.All w = refl
    covered_same (covers.File file) w = covered_file a file
    covered_same (covers.Data file) w = absurd w
    covered_same (covers.Range file offset count) w = covered_range a file offset count
    covered_same (covers.Directory d path) w = λ t. touches_same d path w.0 w.1 w.2 t || sets_same d path w.0 w.1 w.2 t

    pub synced_same : (j : ℕ) (syncs : List SyncPoint) → AreNamedSyncs E n syncs
        → before.is_synced (map sync_before syncs) i j (op_before a) ≡ rules.is_synced syncs i j a
    synced_same j [] w = refl
    synced_same j (s ∷ syncs) w =
        λ t. ((nat_lt i s.at && nat_le s.at j) && covered_same s.covers w.0 t) || synced_same j syncs w.1 t

  -- ---- what a removed directory needs

  pub emptied_before : (i j : ℕ) → i < n → j < n → (d : ℕ) → Removes (entry_op (op_at ops j)) d → TouchesEntryOf (op_at ops i) d
      → before.touches_deleted_directory (op_before (op_at ops i)) (op_before (op_at ops j)) ≡ true
  emptied_before i j low high d removed inside = by (op_at ops j) refl removed
    where
      by : (o : MicroOp) → op_at ops j ≡ o → Removes (entry_op o) d
          → before.touches_deleted_directory (op_before (op_at ops i)) (op_before o) ≡ true
      by (DeleteDirEntry e (Directory c)) is r =
          (let l = subst (λ o. IsLegalEntryOp (E j) (entry_op o)) is (h.legal j high) in
          let ne = named_at ops home number E h j high e (subst (λ o. Contains (dir_entries o) e) (sym is) (0, omega arith, refl)) in
          let f = touched (op_at ops i) inside.entry inside.touching in
          let nf = named_at ops home number E h i low f.0 f.1 in
          let directory : f.0.directory ≡ c = ap (λ (x : Entry). x.directory) f.2 ∙ inside.inside ∙ sym r in
          let same : e.path ≡ parent_path f.0.path =
          one_path home number (E j) (E i) (h.placed j (omega (arith, high))) (h.placed i (omega (arith, low))) e.path
          (parent_path f.0.path) c
          (named_holds (E j) e ne ∙ l.0) (nf.1 ∙ ap (λ x. Some (Directory x)) directory) in
          any_from (λ p. path_eq e.path (parent_path p)) (before.paths_touched (op_before (op_at ops i))) f.0.path
          (subst (λ ps. Contains ps f.0.path) (sym (paths_are (op_at ops i)))
          (contains_map (λ (x : DirEntry). x.path) (dir_entries (op_at ops i)) f.0 f.1))
          (path_same e.path (parent_path f.0.path) same))
      by (DeleteDirEntry e (File kind file)) is r = absurd r
      by (MoveDirEntry a b (Directory x) (Some (Directory c))) is r = absurd (subst IsPlain is (h.plain j high))
      by (MoveDirEntry a b (File kind file) (Some (Directory c))) is r = absurd (subst IsPlain is (h.plain j high))
      by (MoveDirEntry a b node (Some (File kind file))) is r = absurd r
      by (MoveDirEntry a b node None) is r = absurd r
      by (CreateDirEntry e node rights bytes) is r = absurd r
      by (LinkDirEntry e kind file old half) is r = absurd r
      by (ChangeFileSize file to) is r = absurd r
      by (WriteBlock file block start at bytes) is r = absurd r
      by (SetAttr target rights) is r = absurd r
      by Say is r = absurd r

  pub record Empties (i j : ℕ) : Type 0 where
    pub directory : ℕ
    pub removed : Removes (entry_op (op_at ops j)) directory
    pub inside : TouchesEntryOf (op_at ops i) directory

  pub emptied_now : (i j : ℕ) → i < n → j < n
      → before.touches_deleted_directory (op_before (op_at ops i)) (op_before (op_at ops j)) ≡ true → Empties i j
  emptied_now i j low high = by (op_at ops j) refl
    where
      by : (o : MicroOp) → op_at ops j ≡ o → before.touches_deleted_directory (op_before (op_at ops i)) (op_before o) ≡ true → Empties i j
      by (DeleteDirEntry e (Directory c)) is t =
          (let l = subst (λ o. IsLegalEntryOp (E j) (entry_op o)) is (h.legal j high) in
          let ne = named_at ops home number E h j high e (subst (λ o. Contains (dir_entries o) e) (sym is) (0, omega arith, refl)) in
          let w = any_found (λ p. path_eq e.path (parent_path p)) (before.paths_touched (op_before (op_at ops i))) t in
          let f = map_contains (λ (x : DirEntry). x.path) (dir_entries (op_at ops i)) w.0
          (subst (λ ps. Contains ps w.0) (paths_are (op_at ops i)) w.1) in
          let nf = named_at ops home number E h i low f.0 f.1 in
          let path : e.path ≡ parent_path f.0.path = path_from e.path (parent_path w.0) w.2 ∙ ap parent_path (sym f.2) in
          let same : f.0.directory ≡ c =
          one_directory home number (E i) (E j) (h.placed i (omega (arith, low))) (h.placed j (omega (arith, high))) (parent_path f.0.path)
          f.0.directory c
          nf.1 (ap (at_path (E j)) (sym path) ∙ named_holds (E j) e ne ∙ l.0) in
          record {
            directory = c;
            removed = subst (λ o. Removes (entry_op o) c) (sym is) refl;
            inside = record { entry = entry_of f.0; touching = touch (op_at ops i) f.0 f.1; inside = same };
          })
      by (DeleteDirEntry e (File kind file)) is t = absurd (false≢true t)
      by (MoveDirEntry a b node old) is t = absurd (false≢true t)
      by (CreateDirEntry e node rights bytes) is t = absurd (false≢true t)
      by (LinkDirEntry e kind file old half) is t = absurd (false≢true t)
      by (ChangeFileSize file to) is t = absurd (false≢true t)
      by (WriteBlock file block start at bytes) is t = absurd (false≢true t)
      by (SetAttr target rights) is t = absurd (false≢true t)
      by Say is t = absurd (false≢true t)
