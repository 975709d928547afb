-- Entries over time, in a trace of a version before the fourth: when a directory comes and when it goes.
use Rattle.std.proofs.Common.{◌≡◌, ◌≢◌, ℕ, zero, suc, ◌<◌, ◌≤◌, true, false, List, ◌⊎◌, inl, inr, Option, None, Some}
use Rattle.std.proofs.Common.{refl, sym, ap, ◌∙◌, subst, arith, length, ⊎_elim}
use Rattle.std.proofs.lemmas.Bool.{cases_eq, eq-eqb}
use Rattle.std.specs.List.{Contains}
use Rattle.cs_entries.specs.declared.entry.DirEntry.{DirEntry}
use Rattle.cs_entries.specs.declared.entry.Entry.{Entry}
use Rattle.cs_entries.specs.declared.node.Node.{Node}
use Rattle.cs_entries.specs.declared.node.Node.TheVariants.{Directory, File}
use Rattle.cs_entries.specs.DirEntries.{IsNamed, entry_of, last_name}
use Rattle.cs_entries.specs.Entries.{Entries, EntryOp, Create, Link, Delete, Move, Removes, after, entry_eq, put}
use Rattle.cs_entries.specs.Legal.{IsLegal as IsLegalEntryOp}
use Rattle.cs_entries.specs.Paths.{at_path, entry_in}
use Rattle.cs_entries.specs.Rules.{entries_touched, makes}
use Rattle.cs_entries.specs.Laws.One.{IsMoved, entry_cases, no_directory, no_node, put_here, put_other, same_number, stays_or_moves}
use Rattle.cs_entries.specs.Laws.Paths.{entry_path, in_directory}
use Rattle.cs_tree_model.specs.Tree.{parent_path}
use Rattle.cs_micro.specs.declared.micro_op.MicroOp.{MicroOp}
use Rattle.cs_micro.specs.declared.micro_op.MicroOp.TheVariants.{CreateDirEntry, DeleteDirEntry, MoveDirEntry, LinkDirEntry, ChangeFileSize}
use Rattle.cs_micro.specs.declared.micro_op.MicroOp.TheVariants.{WriteBlock, SetAttr, Say}
use Rattle.cs_micro.specs.Legal.{AreNamed, entry_op}
use Rattle.cs_apm.specs.Rules.{entry_op_at, op_at}
use Rattle.cs_apm.specs.Reasons.{Creates, Touches}
use Rattle.cs_apm.specs.Laws.Pairs.{makes_says}
use Rattle.cs_apm.proofs.EarlierPaths.{IsPlaced, entries_same, one_directory, one_path, paths_same, whole_path}
use Rattle.cs_apm.proofs.EarlierRules.{IsPlain, all_named, contains_map, dir_entries, entries_are, map_contains}

pub directory_cases : (o : Option Node) (d : ℕ) → (o ≡ Some (Directory d)) ⊎ (o ≢ Some (Directory d))
directory_cases None d = inr (no_node (Directory d))
directory_cases (Some (File kind file)) d = inr (no_directory kind file d)
directory_cases (Some (Directory c)) d = ⊎_elim
    (λ (e : c ≡ d). inl (ap (λ n. Some (Directory n)) e))
    (λ (e : c ≢ d). inr (λ s. e (same_number c d s)))
    (cases_eq c d)

pub some_node : (node : Node) (d : ℕ) → Some node ≡ Some (Directory d) → node ≡ Directory d
some_node node d h = cc

-- what a move of a file leaves of a directory
moved_past : (m : Entries) (a b : Entry) (node : Node) (old : Option Node) (e : Entry) (d : ℕ) → m a ≡ Some node → m b ≡ old
    → Some node ≢ Some (Directory d) → old ≢ Some (Directory d) → m e ≡ Some (Directory d)
    → after m (Move a b node old) e ≡ Some (Directory d)
moved_past m a b node old e d from to other over was = ⊎_elim
    (λ (s : (entry_eq b e ≡ true) × (b ≡ e)). absurd (over (sym to ∙ ap m s.1 ∙ was)))
    (λ (s : (entry_eq b e ≡ false) × (b ≢ e)). ⊎_elim
    (λ (r : (entry_eq a e ≡ true) × (a ≡ e)). absurd (other (sym from ∙ ap m r.1 ∙ was)))
    (λ (r : (entry_eq a e ≡ false) × (a ≢ e)). put_other (put m a None) b e (m a) s.1 ∙ put_other m a e None r.1 ∙ was)
    (entry_cases a e))
    (entry_cases b e)

-- a directory goes only by a removal of it
pub gone : (m : Entries) (o : MicroOp) (e : Entry) (d : ℕ) → IsLegalEntryOp m (entry_op o) → IsPlain o → m e ≡ Some (Directory d)
    → after m (entry_op o) e ≢ Some (Directory d) → entry_op o ≡ Delete e (Directory d)
gone m (CreateDirEntry f node rights bytes) e d l plain was now = ⊎_elim
    (λ (s : (entry_eq (entry_of f) e ≡ true) × (entry_of f ≡ e)). absurd (no_node (Directory d) (sym l.0 ∙ ap m s.1 ∙ was)))
    (λ (s : (entry_eq (entry_of f) e ≡ false) × (entry_of f ≢ e)). absurd (now (put_other m (entry_of f) e (Some node) s.1 ∙ was)))
    (entry_cases (entry_of f) e)
gone m (LinkDirEntry f kind file old half) e d l plain was now = ⊎_elim
    (λ (s : (entry_eq (entry_of f) e ≡ true) × (entry_of f ≡ e)). absurd (l.0 d (ap m s.1 ∙ was)))
    (λ (s : (entry_eq (entry_of f) e ≡ false) × (entry_of f ≢ e)).
    absurd (now (put_other m (entry_of f) e (Some (File kind file)) s.1 ∙ was)))
    (entry_cases (entry_of f) e)
gone m (DeleteDirEntry f node) e d l plain was now = ⊎_elim
    (λ (s : (entry_eq (entry_of f) e ≡ true) × (entry_of f ≡ e)).
    (let same = some_node node d (sym l.0 ∙ ap m s.1 ∙ was) in λ i. Delete (s.1 i) (same i)))
    (λ (s : (entry_eq (entry_of f) e ≡ false) × (entry_of f ≢ e)). absurd (now (put_other m (entry_of f) e None s.1 ∙ was)))
    (entry_cases (entry_of f) e)
gone m (MoveDirEntry a b (Directory c) old) e d l plain was now = absurd plain
gone m (MoveDirEntry a b (File kind file) (Some (Directory c))) e d l plain was now = absurd plain
gone m (MoveDirEntry a b (File kind file) None) e d l plain was now =
    absurd (now (moved_past m (entry_of a) (entry_of b) (File kind file) None e d l.1 l.2 (no_directory kind file d)
    (no_node (Directory d)) was))
gone m (MoveDirEntry a b (File kind file) (Some (File other number))) e d l plain was now =
    absurd (now (moved_past m (entry_of a) (entry_of b) (File kind file) (Some (File other number)) e d l.1 l.2 (no_directory kind file d)
    (no_directory other number d) was))
gone m (ChangeFileSize file to) e d l plain was now = absurd (now was)
gone m (WriteBlock file block start at bytes) e d l plain was now = absurd (now was)
gone m (SetAttr target rights) e d l plain was now = absurd (now was)
gone m Say e d l plain was now = absurd (now was)

not_moved : (m : Entries) (o : MicroOp) → IsLegalEntryOp m (entry_op o) → IsPlain o → (a : Entry) (d : ℕ) → IsMoved (entry_op o) a
    → m a ≡ Some (Directory d) → ⊥
not_moved m (MoveDirEntry f g (Directory c) old) l plain a d w held = plain
not_moved m (MoveDirEntry f g (File kind file) old) l plain a d w held =
    (let h = w.is in let same : entry_of f ≡ a = cc in no_directory kind file d (sym l.1 ∙ ap m same ∙ held))
not_moved m (CreateDirEntry f node rights bytes) l plain a d w held = (let h = w.is in cc)
not_moved m (DeleteDirEntry f node) l plain a d w held = (let h = w.is in cc)
not_moved m (LinkDirEntry f kind file old half) l plain a d w held = (let h = w.is in cc)
not_moved m (ChangeFileSize file to) l plain a d w held = (let h = w.is in cc)
not_moved m (WriteBlock file block start at bytes) l plain a d w held = (let h = w.is in cc)
not_moved m (SetAttr target rights) l plain a d w held = (let h = w.is in cc)
not_moved m Say l plain a d w held = (let h = w.is in cc)

-- and comes only by a making of it
pub come : (m : Entries) (o : MicroOp) (e : Entry) (d : ℕ) → IsLegalEntryOp m (entry_op o) → IsPlain o → m e ≢ Some (Directory d)
    → after m (entry_op o) e ≡ Some (Directory d) → entry_op o ≡ Create e (Directory d)
come m o e d l plain was now = ⊎_elim
    (λ (stays : m e ≡ Some (Directory d)). absurd (was stays))
    (λ (w : (entry_op o ≡ Create e (Directory d)) ⊎ ((a : Entry) × IsMoved (entry_op o) a × (m a ≡ Some (Directory d)))). ⊎_elim
    (λ (made : entry_op o ≡ Create e (Directory d)). made)
    (λ (moved : (a : Entry) × IsMoved (entry_op o) a × (m a ≡ Some (Directory d))).
    absurd (not_moved m o l plain moved.0 d moved.1 moved.2))
    w)
    (stays_or_moves m (entry_op o) e d now)

-- what touches a directory's entry removes it
pub only_removed : (m : Entries) (o : MicroOp) (f : DirEntry) (d : ℕ) → IsLegalEntryOp m (entry_op o) → IsPlain o
    → Contains (dir_entries o) f → m (entry_of f) ≡ Some (Directory d) → entry_op o ≡ Delete (entry_of f) (Directory d)
only_removed m (CreateDirEntry g node rights bytes) f d l plain (zero, low, is) held =
    absurd (no_node (Directory d) (sym l.0 ∙ ap (λ e. m (entry_of e)) is ∙ held))
only_removed m (CreateDirEntry g node rights bytes) f d l plain (suc k, low, is) held = absurd (omega (arith, low))
only_removed m (LinkDirEntry g kind file old half) f d l plain (zero, low, is) held =
    absurd (l.0 d (ap (λ e. m (entry_of e)) is ∙ held))
only_removed m (LinkDirEntry g kind file old half) f d l plain (suc k, low, is) held = absurd (omega (arith, low))
only_removed m (DeleteDirEntry g node) f d l plain (zero, low, is) held =
    (let same = some_node node d (sym l.0 ∙ ap (λ e. m (entry_of e)) is ∙ held) in λ i. Delete (entry_of (is i)) (same i))
only_removed m (DeleteDirEntry g node) f d l plain (suc k, low, is) held = absurd (omega (arith, low))
only_removed m (MoveDirEntry a b (Directory c) old) f d l plain w held = absurd plain
only_removed m (MoveDirEntry a b (File kind file) old) f d l plain (zero, low, is) held =
    absurd (no_directory kind file d (sym l.1 ∙ ap (λ e. m (entry_of e)) is ∙ held))
only_removed m (MoveDirEntry a b (File kind file) None) f d l plain (suc zero, low, is) held =
    absurd (no_node (Directory d) (sym l.2 ∙ ap (λ e. m (entry_of e)) is ∙ held))
only_removed m (MoveDirEntry a b (File kind file) (Some (Directory c))) f d l plain (suc zero, low, is) held = absurd plain
only_removed m (MoveDirEntry a b (File kind file) (Some (File other number))) f d l plain (suc zero, low, is) held =
    absurd (no_directory other number d (sym l.2 ∙ ap (λ e. m (entry_of e)) is ∙ held))
only_removed m (MoveDirEntry a b (File kind file) old) f d l plain (suc (suc k), low, is) held = absurd (omega (arith, low))
only_removed m (ChangeFileSize file to) f d l plain (k, low, is) held = absurd (omega (arith, low))
only_removed m (WriteBlock file block start at bytes) f d l plain (k, low, is) held = absurd (omega (arith, low))
only_removed m (SetAttr target rights) f d l plain (k, low, is) held = absurd (omega (arith, low))
only_removed m Say f d l plain (k, low, is) held = absurd (omega (arith, low))

-- and what leaves it there makes it
pub only_made : (m : Entries) (o : MicroOp) (f : DirEntry) (d : ℕ) → IsLegalEntryOp m (entry_op o) → IsPlain o
    → Contains (dir_entries o) f → after m (entry_op o) (entry_of f) ≡ Some (Directory d) → entry_op o ≡ Create (entry_of f) (Directory d)
only_made m o f d l plain w held = ⊎_elim
    (λ (was : m (entry_of f) ≡ Some (Directory d)).
    (let is = only_removed m o f d l plain w was in
    absurd (no_node (Directory d)
    (sym (put_here m (entry_of f) None) ∙ sym (ap (λ x. after m x (entry_of f)) is) ∙ held))))
    (λ (was : m (entry_of f) ≢ Some (Directory d)). come m o (entry_of f) d l plain was held)
    (directory_cases (m (entry_of f)) d)

-- ---- the trace

-- what each entry holds after so many of the micro-operations, where directories have homes
pub record IsHistory (ops : List MicroOp) (home : ℕ → Entry) (number : Entry → ℕ) (E : ℕ → Entries) : Type 0 where
  pub placed : (k : ℕ) → k ≤ length ops → IsPlaced home number (E k)
  pub step : (k : ℕ) → k < length ops → (e : Entry) → E (suc k) e ≡ after (E k) (entry_op_at ops k) e
  pub legal : (k : ℕ) → k < length ops → IsLegalEntryOp (E k) (entry_op_at ops k)
  pub named : (k : ℕ) → k < length ops → AreNamed (E k) (op_at ops k)
  pub plain : (k : ℕ) → k < length ops → IsPlain (op_at ops k)

module _ (ops : List MicroOp) (home : ℕ → Entry) (number : Entry → ℕ) (E : ℕ → Entries) (h : IsHistory ops home number E) where
  abbrev pub n : ℕ
  n = length ops

  abbrev pub Between : EntryOp → ℕ → ℕ → Type 0
  Between o i j = (k : ℕ) × (i ≤ k) × (k < j) × (entry_op_at ops k ≡ o)

  pub removed_between : (j i : ℕ) (e : Entry) (d : ℕ) → i ≤ j → j ≤ n → E i e ≡ Some (Directory d) → E j e ≢ Some (Directory d)
      → Between (Delete e (Directory d)) i j
  removed_between zero i e d le low was now =
      absurd (let z : i ≡ 0 = omega (arith, le) in now (subst (λ k. E k e ≡ Some (Directory d)) z was))
  removed_between (suc j) i e d le low was now = ⊎_elim
      (λ (s : i ≡ suc j). absurd (now (subst (λ k. E k e ≡ Some (Directory d)) s was)))
      (λ (s : i ≢ suc j). ⊎_elim
      (λ (there : E j e ≡ Some (Directory d)). (
        j,
        omega (arith, le, s),
        omega arith,
        gone (E j) (op_at ops j) e d (h.legal j (omega (arith, low))) (h.plain j (omega (arith, low))) there
            (λ w. now (h.step j (omega (arith, low)) e ∙ w)),
      ))
      (λ (other : E j e ≢ Some (Directory d)).
      (let w = removed_between j i e d (omega (arith, le, s)) (omega (arith, low)) was other in
      let below = w.2 in (w.0, w.1, omega (arith, below), w.3)))
      (directory_cases (E j e) d))
      (cases_eq i (suc j))

  pub made_between : (j i : ℕ) (e : Entry) (d : ℕ) → i ≤ j → j ≤ n → E i e ≢ Some (Directory d) → E j e ≡ Some (Directory d)
      → Between (Create e (Directory d)) i j
  made_between zero i e d le low was now =
      absurd (let z : 0 ≡ i = omega (arith, le) in was (subst (λ k. E k e ≡ Some (Directory d)) z now))
  made_between (suc j) i e d le low was now = ⊎_elim
      (λ (s : i ≡ suc j). absurd (was (subst (λ k. E k e ≡ Some (Directory d)) (sym s) now)))
      (λ (s : i ≢ suc j). ⊎_elim
      (λ (there : E j e ≡ Some (Directory d)).
      (let w = made_between j i e d (omega (arith, le, s)) (omega (arith, low)) was there in
      let below = w.2 in (w.0, w.1, omega (arith, below), w.3)))
      (λ (other : E j e ≢ Some (Directory d)). (
        j,
        omega (arith, le, s),
        omega arith,
        come (E j) (op_at ops j) e d (h.legal j (omega (arith, low))) (h.plain j (omega (arith, low))) other
            (sym (h.step j (omega (arith, low)) e) ∙ now),
      ))
      (directory_cases (E j e) d))
      (cases_eq i (suc j))

  pub named_at : (k : ℕ) → k < n → (f : DirEntry) → Contains (dir_entries (op_at ops k)) f → IsNamed (E k) f
  named_at k low f w = all_named (E k) (op_at ops k) f (h.named k low) w

  -- an entry that was named is named whenever it holds something
  pub held_named : (i k : ℕ) → i ≤ n → k ≤ n → (f : DirEntry) (node : Node) → IsNamed (E i) f → E k (entry_of f) ≡ Some node
      → IsNamed (E k) f
  held_named i k low high f node named held =
      let w = entry_path (E k) (h.placed k high).tree (entry_of f) node held in
      let same = one_path home number (E i) (E k) (h.placed i low) (h.placed k high) (parent_path f.path) w.0 f.directory named.1 w.1 in
      (named.0, ap (at_path (E k)) same ∙ w.1)

  -- what is at the path of an entry that was named
  pub entry_at_path : (k i : ℕ) → k ≤ n → i ≤ n → (f : DirEntry) (d : ℕ) → IsNamed (E i) f → at_path (E k) f.path ≡ Some (Directory d)
      → E k (entry_of f) ≡ Some (Directory d)
  entry_at_path k i high low f d named at =
      let whole = whole_path f.path named.0 in
      let w = in_directory (E k) (parent_path f.path) (last_name f.path) (Directory d) (ap (at_path (E k)) whole ∙ at) in
      let same = one_directory home number (E k) (E i) (h.placed k high) (h.placed i low) (parent_path f.path) w.directory f.directory
      w.above named.1 in
      ap (λ c. E k (entry_in c (last_name f.path))) (sym same) ∙ w.held

  -- two named entries of one path, or of one entry
  pub one_entry : (i j : ℕ) → i ≤ n → j ≤ n → (f g : DirEntry) → IsNamed (E i) f → IsNamed (E j) g → f.path ≡ g.path
      → entry_of f ≡ entry_of g
  one_entry i j low high f g nf ng is = entries_same home number (E i) (E j) (h.placed i low) (h.placed j high) f g nf ng is

  pub one_name : (i j : ℕ) → i ≤ n → j ≤ n → (f g : DirEntry) → IsNamed (E i) f → IsNamed (E j) g → entry_of f ≡ entry_of g
      → f.path ≡ g.path
  one_name i j low high f g nf ng is = paths_same home number (E i) (E j) (h.placed i low) (h.placed j high) f g nf ng is

  -- after it is made
  pub made_after : (k : ℕ) → k < n → (d : ℕ) → (w : Creates (op_at ops k) (Directory d)) → E (suc k) (entry_of w.0) ≡ Some (Directory d)
  made_after k low d w =
      h.step k low (entry_of w.0) ∙ ap (λ o. after (E k) (entry_op o) (entry_of w.0)) w.3
      ∙ put_here (E k) (entry_of w.0) (Some (Directory d))

  pub made_named : (k : ℕ) → k < n → (node : Node) (w : Creates (op_at ops k) node) → IsNamed (E k) w.0
  made_named k low node w =
      named_at k low w.0 (subst (λ o. Contains (dir_entries o) w.0) (sym w.3) (0, omega arith, refl))

pub touch : (o : MicroOp) (f : DirEntry) → Contains (dir_entries o) f → Touches o (entry_of f)
touch o f w = subst (λ es. Contains es (entry_of f)) (sym (entries_are o)) (contains_map entry_of (dir_entries o) f w)

pub touched : (o : MicroOp) (e : Entry) → Touches o e → (f : DirEntry) × Contains (dir_entries o) f × (entry_of f ≡ e)
touched o e w = map_contains entry_of (dir_entries o) e (subst (λ es. Contains es e) (entries_are o) w)

-- an operation on entries says what is made, what is removed, and what is touched
pub creates_by : (o : MicroOp) (e : Entry) (d : ℕ) → entry_op o ≡ Create e (Directory d) → Creates o (Directory d)
creates_by o e d is = makes_says o d (ap (λ x. makes x d) is ∙ eq-eqb d d refl)

pub created_there : (o : MicroOp) (e : Entry) (d : ℕ) → entry_op o ≡ Create e (Directory d) → (w : Creates o (Directory d))
    → entry_of w.0 ≡ e
created_there o e d is w = (let same = sym (ap entry_op w.3) ∙ is in cc)

pub removes_by : (o : MicroOp) (e : Entry) (d : ℕ) → entry_op o ≡ Delete e (Directory d) → Removes (entry_op o) d
removes_by o e d is = subst (λ x. Removes x d) (sym is) refl

pub touches_by : (o : MicroOp) (e : Entry) (x : EntryOp) → entry_op o ≡ x → Contains (entries_touched x) e → Touches o e
touches_by o e x is w = subst (λ y. Contains (entries_touched y) e) (sym is) w
