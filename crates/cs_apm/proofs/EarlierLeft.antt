-- What a set leaves by paths and by entries, in a trace of a version before the fourth.
use Rattle.std.proofs.Common.{◌≡◌, ◌≢◌, ℕ, zero, suc, ◌<◌, ◌≤◌, Bool, true, false, cond, List, ◌⊎◌, inl, inr, Option, None, Some}
use Rattle.std.proofs.Common.{refl, sym, ap, ◌∙◌, subst, arith, length, ⊎_elim}
use Rattle.std.proofs.lemmas.Bool.{cases_Bool, false≢true}
use Rattle.std.proofs.lemmas.List.{length-set}
use Rattle.cs_tree_model.specs.Tree.{Path, parent_path}
use Rattle.cs_entries.specs.declared.entry.DirEntry.{DirEntry}
use Rattle.cs_entries.specs.declared.entry.Entry.{Entry}
use Rattle.cs_entries.specs.declared.node.FileKind.TheVariants.{Regular, Symlink}
use Rattle.cs_entries.specs.declared.node.Node.{Node}
use Rattle.cs_entries.specs.declared.node.Node.TheVariants.{Directory, File}
use Rattle.cs_entries.specs.DirEntries.{IsNamed, entry_of}
use Rattle.cs_entries.specs.Entries.{Create, Entries, EntryOp, after, all, entry_eq, put, state}
use Rattle.cs_entries.specs.Legal.{Any, IsHeld, IsReached, IsTree, IsLegal as IsLegalEntryOp}
use Rattle.cs_entries.specs.Paths.{at_path}
use Rattle.cs_entries.specs.Sets.{HasNeeds}
use Rattle.cs_entries.specs.Tables.{held_in}
use Rattle.cs_entries.specs.Laws.Left.{legal_left, member_step, other_step, tree_left}
use Rattle.cs_entries.specs.Laws.One.{entry_cases, put_here, put_other}
use Rattle.cs_entries.specs.Laws.Paths.{path_of_way}
use Rattle.cs_entries.specs.Laws.Trees.{way_kept}
use Rattle.cs_start.specs.declared.rights.Rights.{Rights}
use Rattle.cs_trace.specs.Traces.{AreHomes}
use Rattle.cs_trace.specs.declared.operation.Target.TheVariants as targets
use Rattle.cs_trace_lines.specs.Versions.{is_fourth}
use Rattle.cs_trace_lines.specs.declared.version.Version.{Version}
use Rattle.cs_micro.specs.declared.micro_op.MicroOp.{MicroOp}
use Rattle.cs_micro.specs.declared.micro_op.MicroOp.TheVariants.{CreateDirEntry, DeleteDirEntry, MoveDirEntry, LinkDirEntry, ChangeFileSize}
use Rattle.cs_micro.specs.declared.micro_op.MicroOp.TheVariants.{WriteBlock, SetAttr, Say}
use Rattle.cs_micro.specs.Earlier.Same.{op_before}
use Rattle.cs_micro.specs.Legal.{AreLegal, AreNamed, IsLegal, Made, entry_op}
use Rattle.cs_apm.specs.Laws.Homes.{fixed, legal_entries}
use Rattle.cs_apm.specs.Laws.Numbers.{number_at_start, number_made}
use Rattle.cs_apm.specs.Laws.Makings.{legal_at, made_at}
use Rattle.cs_apm.specs.Rules.{entry_op_at, is_first_half, op_at}
use Rattle.cs_apm.specs.States.{State, directories_after, state_after}
use Rattle.cs_apm.specs.Earlier.States as before
use Rattle.cs_apm.specs.Laws.Members.{run}
use Rattle.cs_apm.proofs.EarlierHistory.{E, history, home, number}
use Rattle.cs_apm.proofs.EarlierPaths.{IsPlaced, one_path}
use Rattle.cs_apm.proofs.EarlierRules.{IsPlain}
use Rattle.cs_apm.proofs.EarlierStates.{AreAlike, InOp, alike_after, held_or_root}
use Rattle.cs_apm.proofs.EarlierTimes.{come, directory_cases}

-- the directory of what a legal operation touches is reached
reached_op : (m : Entries) (o : MicroOp) → IsTree m → IsLegalEntryOp m (entry_op o) → (f : DirEntry) → InOp o f
    → IsReached m Any f.directory
reached_op m (CreateDirEntry e node rights bytes) tree l f is = subst (λ (x : DirEntry). IsReached m Any x.directory) is l.1
reached_op m (LinkDirEntry e kind file old half) tree l f is = subst (λ (x : DirEntry). IsReached m Any x.directory) is l.1
reached_op m (DeleteDirEntry e node) tree l f is =
    subst (λ (x : DirEntry). IsReached m Any x.directory) is (tree.reached (entry_of e) node l.0)
reached_op m (MoveDirEntry a b node old) tree l f (inl is) =
    subst (λ (x : DirEntry). IsReached m Any x.directory) is (tree.reached (entry_of a) node l.1)
reached_op m (MoveDirEntry a b node old) tree l f (inr is) =
    subst (λ (x : DirEntry). IsReached m Any x.directory) is
    (l.4.0, way_kept m m (λ g. g ≢ entry_of a) Any (λ g d held passes. (held, tt)) l.4.0 b.directory l.4.1)
reached_op m (ChangeFileSize file to) tree l f is = absurd is
reached_op m (WriteBlock file block start at bytes) tree l f is = absurd is
reached_op m (SetAttr target rights) tree l f is = absurd is
reached_op m Say tree l f is = absurd is

in_named : (m : Entries) (o : MicroOp) → AreNamed m o → (f : DirEntry) → InOp o f → IsNamed m f
in_named m (CreateDirEntry e node rights bytes) named f is = subst (IsNamed m) is named
in_named m (LinkDirEntry e kind file old half) named f is = subst (IsNamed m) is named
in_named m (DeleteDirEntry e node) named f is = subst (IsNamed m) is named
in_named m (MoveDirEntry a b node old) named f (inl is) = subst (IsNamed m) is named.0
in_named m (MoveDirEntry a b node old) named f (inr is) = subst (IsNamed m) is named.1
in_named m (ChangeFileSize file to) named f is = absurd is
in_named m (WriteBlock file block start at bytes) named f is = absurd is
in_named m (SetAttr target rights) named f is = absurd is
in_named m Say named f is = absurd is

-- no entry has a symbolic link
abbrev pub IsWithoutLinks : Entries → Type 0
IsWithoutLinks m = (e : Entry) (file : ℕ) → m e ≢ Some (File Symlink file)

-- what a micro-operation puts somewhere is no symbolic link
abbrev PutsNoLink : MicroOp → Type 0
PutsNoLink (CreateDirEntry e (File Symlink file) rights bytes) = ⊥
PutsNoLink (LinkDirEntry e Symlink file old half) = ⊥
PutsNoLink _ = Unit {0}

puts_none : (version : Version) (m : Made) (o : MicroOp) → is_fourth version ≡ false → IsPlain o → IsLegal version m o → PutsNoLink o
puts_none version m (CreateDirEntry e (File Symlink file) rights bytes) early plain legal = false≢true (sym early ∙ legal.fitting.0.0)
puts_none version m (CreateDirEntry e (File Regular file) rights bytes) early plain legal = tt
puts_none version m (CreateDirEntry e (Directory d) rights bytes) early plain legal = tt
puts_none version m (LinkDirEntry e Symlink file old true) early plain legal = plain
puts_none version m (LinkDirEntry e Symlink file old false) early plain legal = (let is = (legal.fitting.3 refl).1 in cc)
puts_none version m (LinkDirEntry e Regular file old half) early plain legal = tt
puts_none version m (DeleteDirEntry e node) early plain legal = tt
puts_none version m (MoveDirEntry a b node old) early plain legal = tt
puts_none version m (ChangeFileSize file to) early plain legal = tt
puts_none version m (WriteBlock file block start at bytes) early plain legal = tt
puts_none version m (SetAttr target rights) early plain legal = tt
puts_none version m Say early plain legal = tt

put_none : (m : Entries) (e : Entry) (held : Option Node) → ((file : ℕ) → held ≢ Some (File Symlink file)) → IsWithoutLinks m
    → IsWithoutLinks (put m e held)
put_none m e held none without q file is = ⊎_elim
    (λ (s : (entry_eq e q ≡ true) × (e ≡ q)). none file (sym (put_here m e held) ∙ ap (put m e held) s.1 ∙ is))
    (λ (s : (entry_eq e q ≡ false) × (e ≢ q)). without q file (sym (put_other m e q held s.1) ∙ is))
    (entry_cases e q)

nothing_else : (file : ℕ) → None ≢ Some (File Symlink file)
nothing_else file is = cc

without_after : (m : Entries) (o : MicroOp) → PutsNoLink o → IsWithoutLinks m → IsWithoutLinks (after m (entry_op o))
without_after m (CreateDirEntry e (File Symlink file) rights bytes) puts without = absurd puts
without_after m (CreateDirEntry e (File Regular file) rights bytes) puts without =
    put_none m (entry_of e) (Some (File Regular file)) (λ n is. cc) without
without_after m (CreateDirEntry e (Directory d) rights bytes) puts without =
    put_none m (entry_of e) (Some (Directory d)) (λ n is. cc) without
without_after m (LinkDirEntry e Symlink file old half) puts without = absurd puts
without_after m (LinkDirEntry e Regular file old half) puts without =
    put_none m (entry_of e) (Some (File Regular file)) (λ n is. cc) without
without_after m (DeleteDirEntry e node) puts without = put_none m (entry_of e) None nothing_else without
without_after m (MoveDirEntry a b node old) puts without =
    put_none (put m (entry_of a) None) (entry_of b) (m (entry_of a)) (without (entry_of a))
    (put_none m (entry_of a) None nothing_else without)
without_after m (ChangeFileSize file to) puts without = without
without_after m (WriteBlock file block start at bytes) puts without = without
without_after m (SetAttr target rights) puts without = without
without_after m Say puts without = without

module _ (version : Version) (m : Made) (ops : List MicroOp) (legal : AreLegal version m ops) (homes : AreHomes m.entries m.homes)
    (tree : IsTree (held_in m.entries)) (early : is_fourth version ≡ false)
    (used : (d : ℕ) → 0 < d → d < length m.homes → IsHeld (held_in m.entries) d)
    (whole : (k : ℕ) → is_first_half (op_at ops k) ≡ false)
    (has : ℕ → Bool) (needs : HasNeeds (entry_op_at ops) has) where
  abbrev n : ℕ
  n = length ops

  abbrev at_home : ℕ → Entry
  at_home = home version m ops legal homes tree early used whole

  abbrev numbered : Entry → ℕ
  numbered = number version m ops legal homes tree early used whole

  abbrev pub F : ℕ → Entries
  F k = state has (held_in m.entries) (entry_op_at ops) k

  abbrev T : ℕ → Entries
  T k = E version m ops legal homes tree early used whole k

  plain_at : (k : ℕ) → k < n → IsPlain (op_at ops k)
  plain_at = (history version m ops legal homes tree early used whole).plain

  tree_at : (k : ℕ) → k ≤ n → IsTree (F k)
  tree_at k low =
      tree_left (held_in m.entries) (entry_op_at ops) n has needs tree (legal_entries version m ops legal homes)
      (inr (fixed version m ops legal homes early)) k low

  legal_member : (k : ℕ) → k < n → has k ≡ true → IsLegalEntryOp (F k) (entry_op_at ops k)
  legal_member k low member =
      legal_left (held_in m.entries) (entry_op_at ops) n has needs tree (legal_entries version m ops legal homes)
      (inr (fixed version m ops legal homes early)) k low member (tree_at k (omega (arith, low)))

  -- a directory comes only by a member that makes it
  came : (k : ℕ) → k < n → (e : Entry) (d : ℕ) → F (suc k) e ≡ Some (Directory d)
      → (F k e ≡ Some (Directory d)) ⊎ (entry_op (op_at ops k) ≡ Create e (Directory d))
  came k low e d held = ⊎_elim
      (λ (member : has k ≡ true). ⊎_elim
      (λ (was : F k e ≡ Some (Directory d)). inl was)
      (λ (other : F k e ≢ Some (Directory d)). inr
      (come (F k) (op_at ops k) e d (legal_member k low member) (plain_at k low) other
      (sym (member_step (held_in m.entries) (entry_op_at ops) has k e member) ∙ held)))
      (directory_cases (F k e) d))
      (λ (other : has k ≡ false). inl (sym (other_step (held_in m.entries) (entry_op_at ops) has k e other) ∙ held))
      (cases_Bool (has k))

  pub placed_left : (k : ℕ) → k ≤ n → IsPlaced at_home numbered (F k)
  placed_left zero low = record {
    tree = tree;
    at_home = (fixed version m ops legal homes early).first;
    numbered = number_at_start version m ops legal homes;
  }
  placed_left (suc k) low =
      (let before_k = placed_left k (omega (arith, low)) in
      let high : k < n = omega (arith, low) in
      record {
        tree = tree_at (suc k) low;
        at_home = λ e d held. ⊎_elim
            (λ (was : F k e ≡ Some (Directory d)). before_k.at_home e d was)
            (λ (made : entry_op (op_at ops k) ≡ Create e (Directory d)). (fixed version m ops legal homes early).made k e d high made)
            (came k high e d held);
        numbered = λ e d held. ⊎_elim
            (λ (was : F k e ≡ Some (Directory d)). before_k.numbered e d was)
            (λ (made : entry_op (op_at ops k) ≡ Create e (Directory d)). number_made version m ops legal homes early used k e d high made)
            (came k high e d held);
      })

  placed_whole : (k : ℕ) → k ≤ n → IsPlaced at_home numbered (T k)
  placed_whole = (history version m ops legal homes tree early used whole).placed

  named_left : (k : ℕ) → k < n → has k ≡ true → (f : DirEntry) → InOp (op_at ops k) f → IsNamed (F k) f
  named_left k low member f is =
      let named = in_named (T k) (op_at ops k) ((history version m ops legal homes tree early used whole).named k low) f is in
      let r = reached_op (F k) (op_at ops k) (tree_at k (omega (arith, low))) (legal_member k low member) f is in
      let p = path_of_way (F k) r.0 f.directory r.1 in
      let same = one_path at_home numbered (F k) (T k) (placed_left k (omega (arith, low))) (placed_whole k (omega (arith, low))) p.0
      (parent_path f.path) f.directory p.1 named.1 in
      (named.0, ap (at_path (F k)) (sym same) ∙ p.1)

  pub without_links : IsWithoutLinks (held_in m.entries) → (k : ℕ) → k ≤ n → IsWithoutLinks (F k)
  without_links start zero low e file held = start e file held
  without_links start (suc k) low e file held =
      (let high : k < n = omega (arith, low) in
      let before_k = without_links start k (omega (arith, low)) in
      ⊎_elim
      (λ (member : has k ≡ true).
      without_after (F k) (op_at ops k)
      (puts_none version (made_at m ops k) (op_at ops k) early (plain_at k high) (legal_at version m ops legal k high)) before_k e file
      (sym (member_step (held_in m.entries) (entry_op_at ops) has k e member) ∙ held))
      (λ (other : has k ≡ false). before_k e file (sym (other_step (held_in m.entries) (entry_op_at ops) has k e other) ∙ held))
      (cases_Bool (has k)))

  -- ---- what is at each path

  module _ (first : State) (old : before.State) (known : (k d : ℕ) (e : Entry) → k ≤ n → T k e ≡ Some (Directory d)
      → d < length first.directories)
      (rooted : 0 < length first.directories)
      (begins : AreAlike first.directories (held_in m.entries) old.paths) where
    abbrev pub new_at : ℕ → State
    new_at k = run state_after has first ops k

    abbrev pub old_at : ℕ → before.State
    old_at k = run (λ (s : before.State) (o : MicroOp). before.state_after s (op_before o)) has old ops k

    long_after : (all : List Rights) (o : MicroOp) → length (directories_after all o) ≡ length all
    long_after all (CreateDirEntry e (Directory d) rights bytes) = length-set all d rights
    long_after all (CreateDirEntry e (File kind file) rights bytes) = refl
    long_after all (SetAttr (targets.Directory d path) rights) = length-set all d rights
    long_after all (SetAttr (targets.File file) rights) = refl
    long_after all (DeleteDirEntry e node) = refl
    long_after all (MoveDirEntry a b node old) = refl
    long_after all (LinkDirEntry e kind file old half) = refl
    long_after all (ChangeFileSize file to) = refl
    long_after all (WriteBlock file block start at bytes) = refl
    long_after all Say = refl

    long_at : (k : ℕ) → length (new_at k).directories ≡ length first.directories
    long_at zero = refl
    long_at (suc k) = by (has k) (long_at k)
      where
        by : (b : Bool) → length (new_at k).directories ≡ length first.directories
            → length (cond b (state_after (new_at k) (op_at ops k)) (new_at k)).directories ≡ length first.directories
        by true so_far = long_after (new_at k).directories (op_at ops k) ∙ so_far
        by false so_far = so_far

    -- a directory that is there has rights
    low_number : (k d : ℕ) (path : Path) → k ≤ n → at_path (T k) path ≡ Some (Directory d) → d < length first.directories
    low_number k d path low at = ⊎_elim
        (λ (root : d ≡ 0). subst (λ x. x < length first.directories) (sym root) rooted)
        (λ (w : (e : Entry) × (T k e ≡ Some (Directory d))). known k d w.0 low w.1)
        (held_or_root (T k) path d at)

    pub alike_at : (k : ℕ) → k ≤ n → AreAlike (new_at k).directories (F k) (old_at k).paths
    alike_at zero low = begins
    alike_at (suc k) low =
        (let high : k < n = omega (arith, low) in
        let before_k = alike_at k (omega (arith, low)) in
        ⊎_elim
        (λ (member : has k ≡ true).
        subst (λ b. AreAlike (cond b (state_after (new_at k) (op_at ops k)) (new_at k)).directories
        (λ e. cond b (after (F k) (entry_op_at ops k) e) (F k e))
        (cond b (before.state_after (old_at k) (op_before (op_at ops k))) (old_at k)).paths) (sym member)
        (alike_after at_home numbered (F k) (placed_left k (omega (arith, low))) (new_at k).directories (old_at k).paths before_k
        (op_at ops k) (T k) (placed_whole k (omega (arith, low))) (plain_at k high) (legal_member k high member)
        (named_left k high member)
        (λ d path rights is.
        (let there : at_path (T k) path ≡ Some (Directory d) =
        subst (AreNamed (T k)) is ((history version m ops legal homes tree early used whole).named k high) in
        (there, subst (λ c. d < c) (sym (long_at k)) (low_number k d path (omega (arith, low)) there))))
        (λ e d rights bytes is.
        subst (λ c. d < c) (sym (long_at k))
        (known (suc k) d (entry_of e) low
        ((history version m ops legal homes tree early used whole).step k high (entry_of e)
        ∙ ap (λ o. after (T k) (entry_op o) (entry_of e)) is ∙ put_here (T k) (entry_of e) (Some (Directory d)))))))
        (λ (other : has k ≡ false).
        subst (λ b. AreAlike (cond b (state_after (new_at k) (op_at ops k)) (new_at k)).directories
        (λ e. cond b (after (F k) (entry_op_at ops k) e) (F k e))
        (cond b (before.state_after (old_at k) (op_before (op_at ops k))) (old_at k)).paths) (sym other) before_k)
        (cases_Bool (has k)))
