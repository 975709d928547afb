-- What a legal operation leaves: a tree, whose files and directories have numbers that were given.
use Rattle.std.proofs.Common.{◌≡◌, ◌≢◌, ◌⊎◌, ℕ, zero, suc, ◌+◌, ◌<◌, ◌≤◌, ◌==◌, Bool, true, false, cond, List, [], ◌∷◌, ◌++◌, length}
use Rattle.std.proofs.Common.{Option, None, Some, refl, sym, ap, ◌∙◌, subst, arith, ⊎_elim, inl, inr, length-append}
use Rattle.std.proofs.lemmas.Bool.{cases_lt, eq-eqb, eqb-true, false≢true}
use Rattle.std.proofs.lemmas.List.{length-set}
use Rattle.std.proofs.lemmas.Option.{same_Some}
use Rattle.std.specs.FinMap.{get}
use Rattle.std.specs.List.{slice_get}
use Rattle.std.specs.Prelude.{if◌then◌else◌}
use Rattle.cs_entries.specs.DirEntries.{entry_of, root_home}
use Rattle.cs_entries.specs.declared.entry.Entry.{Entry}
use Rattle.cs_entries.specs.Entries.{Entries, EntryOp, after, entry_eq, put}
use Rattle.cs_entries.specs.Entries as entry
use Rattle.cs_entries.specs.Laws.One.{entry_cases}
use Rattle.cs_entries.specs.Laws.Records.{table_step}
use Rattle.cs_entries.specs.Laws.Trees.{tree_after}
use Rattle.cs_entries.specs.Legal.{IsTree}
use Rattle.cs_entries.specs.Legal.{IsLegal as IsLegalEntryOp}
use Rattle.cs_entries.specs.Tables.{held_in, table_after}
use Rattle.cs_entries.specs.declared.entry.DirEntry.{DirEntry}
use Rattle.cs_entries.specs.declared.node.FileKind.{FileKind}
use Rattle.cs_entries.specs.declared.node.FileKind.TheVariants as kinds
use Rattle.cs_entries.specs.declared.node.Node.{Node}
use Rattle.cs_entries.specs.declared.node.Node.TheVariants.{Directory, File}
use Rattle.cs_trace.specs.Operations.{AreLegal, FileSystem, IsLegal, MayReplace, entry_op, homes_after, made_by, place_of, sizes_after}
use Rattle.cs_trace.specs.Operations.{system_after, system_after_all, written_size}
use Rattle.cs_trace.specs.declared.operation.Operation.{Operation}
use Rattle.cs_trace.specs.declared.operation.Operation.TheVariants as op
use Rattle.cs_trace_lines.specs.Versions.{is_fourth}
use Rattle.cs_trace_lines.specs.declared.version.Version.{Version}
use Rattle.cs_trace.proofs.Homed.{place_within}
use Rattle.cs_trace.proofs.Sound.{IsNow}
use Rattle.cs_trace.proofs.Taken.{place_at}

pub legal_push : (version : Version) (fs : FileSystem) (ops : List Operation) (o : Operation) → AreLegal version fs ops
    → IsLegal version (system_after_all fs ops) o → AreLegal version fs (ops ++ o ∷ [])
legal_push version fs [] o all last = (last, tt)
legal_push version fs (x ∷ ops) o all last = (all.0, legal_push version (system_after fs x) ops o all.1 last)

-- ---- lists that grow

pub slice_get-push_old : {X : Type 0} (xs : List X) (x : X) (n : ℕ) (y : X) → slice_get xs n ≡ Some y → slice_get (xs ++ x ∷ []) n ≡ Some y
slice_get-push_old [] x n y is = absurd (cc)
slice_get-push_old (z ∷ xs) x zero y is = is
slice_get-push_old (z ∷ xs) x (suc n) y is = slice_get-push_old xs x n y is

pub slice_get-push_new : {X : Type 0} (xs : List X) (x : X) → slice_get (xs ++ x ∷ []) (length xs) ≡ Some x
slice_get-push_new [] x = refl
slice_get-push_new (z ∷ xs) x = slice_get-push_new xs x

pub slice_get-push : {X : Type 0} (xs : List X) (x : X) (n : ℕ) (y : X) → slice_get (xs ++ x ∷ []) n ≡ Some y
    → (slice_get xs n ≡ Some y) ⊎ ((n ≡ length xs) × (y ≡ x))
slice_get-push [] x zero y is = inr (refl, sym (same_Some x y is))
slice_get-push [] x (suc n) y is = absurd (cc)
slice_get-push (z ∷ xs) x zero y is = inl is
slice_get-push (z ∷ xs) x (suc n) y is = ⊎_elim (λ old. inl old) (λ new. inr (ap suc new.0, new.1)) (slice_get-push xs x n y is)

-- ---- what is there afterwards was there before, or came

node_is : (a b : Node) → Some a ≡ Some b → a ≡ b
node_is a b h = cc

no_node : (node : Node) → None ≡ Some node → ⊥
no_node node h = cc

no_file : (d : ℕ) (kind : FileKind) (file : ℕ) → Directory d ≡ File kind file → ⊥
no_file d kind file h = cc

same_file : (k l : FileKind) (a b : ℕ) → File k a ≡ File l b → a ≡ b
same_file k l a b h = cc

same_directory : (a b : ℕ) → Directory a ≡ Directory b → a ≡ b
same_directory a b h = cc

module _ (m : Entries) where
  abbrev pub Comes : EntryOp → Entry → Node → Type 0
  Comes (entry.Create f n) e node = (f ≡ e) × (n ≡ node)
  Comes (entry.Link f kind file) e node = (f ≡ e) × (File kind file ≡ node)
  Comes (entry.Move a b n old) e node = (b ≡ e) × (m a ≡ Some node)
  Comes _ e node = ⊥

  pub after_cases : (o : EntryOp) (e : Entry) (node : Node) → after m o e ≡ Some node → (m e ≡ Some node) ⊎ Comes o e node
  after_cases (entry.Create f n) e node is = ⊎_elim
      (λ (one : (entry_eq f e ≡ true) × (f ≡ e)).
      inr (one.1, node_is n node (sym (ap (λ b. cond b (Some n) (m e)) one.0) ∙ is)))
      (λ (two : (entry_eq f e ≡ false) × (f ≢ e)). inl (sym (ap (λ b. cond b (Some n) (m e)) two.0) ∙ is))
      (entry_cases f e)
  after_cases (entry.Link f kind file) e node is = ⊎_elim
      (λ (one : (entry_eq f e ≡ true) × (f ≡ e)).
      inr (one.1, node_is (File kind file) node (sym (ap (λ b. cond b (Some (File kind file)) (m e)) one.0) ∙ is)))
      (λ (two : (entry_eq f e ≡ false) × (f ≢ e)). inl (sym (ap (λ b. cond b (Some (File kind file)) (m e)) two.0) ∙ is))
      (entry_cases f e)
  after_cases (entry.Delete f n) e node is = ⊎_elim
      (λ (one : (entry_eq f e ≡ true) × (f ≡ e)). absurd (no_node node (sym (ap (λ b. cond b None (m e)) one.0) ∙ is)))
      (λ (two : (entry_eq f e ≡ false) × (f ≢ e)). inl (sym (ap (λ b. cond b None (m e)) two.0) ∙ is))
      (entry_cases f e)
  after_cases (entry.Move a b n old) e node is = ⊎_elim
      (λ (one : (entry_eq b e ≡ true) × (b ≡ e)). inr (one.1, sym (ap (λ t. cond t (m a) (put m a None e)) one.0) ∙ is))
      (λ (two : (entry_eq b e ≡ false) × (b ≢ e)). (let there = sym (ap (λ t. cond t (m a) (put m a None e)) two.0) ∙ is in ⊎_elim
      (λ (here : (entry_eq a e ≡ true) × (a ≡ e)). absurd (no_node node (sym (ap (λ t. cond t None (m e)) here.0) ∙ there)))
      (λ (other : (entry_eq a e ≡ false) × (a ≢ e)). inl (sym (ap (λ t. cond t None (m e)) other.0) ∙ there))
      (entry_cases a e)))
      (entry_cases b e)
  after_cases entry.Other e node is = inl is

-- ---- sizes and homes grow

sizes_grow : (sizes : List ℕ) (o : Operation) → length sizes ≤ length (sizes_after sizes o)
sizes_grow sizes (op.Creat e file rights) = omega (arith, length-append sizes (0 ∷ []))
sizes_grow sizes (op.Mkdir e directory rights) = omega arith
sizes_grow sizes (op.Symlink e file rights target) = omega (arith, length-append sizes (length target ∷ []))
sizes_grow sizes (op.Link e file) = omega arith
sizes_grow sizes (op.Unlink e kind file) = omega arith
sizes_grow sizes (op.Rmdir e directory) = omega arith
sizes_grow sizes (op.Rename a b node old) = omega arith
sizes_grow sizes (op.Write file size offset bytes) = omega (arith, length-set sizes file (written_size size offset bytes))
sizes_grow sizes (op.Truncate file size to) = omega (arith, length-set sizes file to)
sizes_grow sizes (op.SetAttr target before after) = omega arith
sizes_grow sizes (op.Sync covered) = omega arith
sizes_grow sizes op.Say = omega arith

push_grows : (next : Bool) (homes : List Entry) (e : Entry) → length homes ≤ length (if next then homes ++ e ∷ [] else homes)
push_grows true homes e = omega (arith, length-append homes (e ∷ []))
push_grows false homes e = omega arith

homes_grow : (homes : List Entry) (o : Operation) → length homes ≤ length (homes_after homes o)
homes_grow homes (op.Mkdir e directory rights) = push_grows (directory == length homes) homes (entry_of e)
homes_grow homes (op.Creat e file rights) = omega arith
homes_grow homes (op.Symlink e file rights target) = omega arith
homes_grow homes (op.Link e file) = omega arith
homes_grow homes (op.Unlink e kind file) = omega arith
homes_grow homes (op.Rmdir e directory) = omega arith
homes_grow homes (op.Rename a b node old) = omega arith
homes_grow homes (op.Write file size offset bytes) = omega arith
homes_grow homes (op.Truncate file size to) = omega arith
homes_grow homes (op.SetAttr target before after) = omega arith
homes_grow homes (op.Sync covered) = omega arith
homes_grow homes op.Say = omega arith

push_keeps : (next : Bool) (homes : List Entry) (e : Entry) (n : ℕ) (f : Entry) → slice_get homes n ≡ Some f
    → slice_get (if next then homes ++ e ∷ [] else homes) n ≡ Some f
push_keeps true homes e n f at = slice_get-push_old homes e n f at
push_keeps false homes e n f at = at

homes_keep : (homes : List Entry) (o : Operation) (n : ℕ) (f : Entry) → slice_get homes n ≡ Some f → slice_get (homes_after homes o) n
    ≡ Some f
homes_keep homes (op.Mkdir e directory rights) n f at = push_keeps (directory == length homes) homes (entry_of e) n f at
homes_keep homes (op.Creat e file rights) n f at = at
homes_keep homes (op.Symlink e file rights target) n f at = at
homes_keep homes (op.Link e file) n f at = at
homes_keep homes (op.Unlink e kind file) n f at = at
homes_keep homes (op.Rmdir e directory) n f at = at
homes_keep homes (op.Rename a b node old) n f at = at
homes_keep homes (op.Write file size offset bytes) n f at = at
homes_keep homes (op.Truncate file size to) n f at = at
homes_keep homes (op.SetAttr target before after) n f at = at
homes_keep homes (op.Sync covered) n f at = at
homes_keep homes op.Say n f at = at

-- a directory that is made has its home, old or new
made_home : (homes : List Entry) (e : Entry) (d : ℕ) (next : Bool) → d == length homes ≡ next → (d ≡ place_of e homes) ⊎ (d ≡ length homes)
    → (d < length (if next then homes ++ e ∷ [] else homes)) × (slice_get (if next then homes ++ e ∷ [] else homes) d ≡ Some e)
made_home homes e d true is from =
    let same = eqb-true d (length homes) is in
    (omega (arith, same, length-append homes (e ∷ [])), ap (slice_get (homes ++ e ∷ [])) same ∙ slice_get-push_new homes e)
made_home homes e d false is from = ⊎_elim
    (λ (at : d ≡ place_of e homes).
    (let apart : d ≢ length homes = λ same. false≢true (sym is ∙ eq_test d (length homes) same) in
    let low : place_of e homes < length homes = below d (place_of e homes) (length homes) at apart (place_within e homes) in
    (omega (arith, at, low), ap (slice_get homes) at ∙ place_at e homes low)))
    (λ (same : d ≡ length homes). absurd (false≢true (sym is ∙ eq_test d (length homes) same)))
    from
  where
    eq_test : (a b : ℕ) → a ≡ b → a == b ≡ true
    eq_test a b h = eq-eqb a b h

    below : (d p n : ℕ) → d ≡ p → d ≢ n → p ≤ n → p < n
    below d p n at apart low = ⊎_elim
        (λ (less : p < n). less)
        (λ (more : n ≤ p). (let same : p ≡ n = omega (arith, low, more) in absurd (apart (at ∙ same))))
        (cases_lt p n)

made_by_version : (fourth : Bool) (homes : List Entry) (e : Entry) (d : ℕ) → d ≡ (if fourth then length homes else place_of e homes)
    → (d ≡ place_of e homes) ⊎ (d ≡ length homes)
made_by_version true homes e d is = inr is
made_by_version false homes e d is = inl is

-- in the fourth version the home of a new directory is a new one
fourth_home : (homes : List Entry) (e : Entry) (d : ℕ) (next : Bool) → d == length homes ≡ next → d ≡ length homes
    → d < length (if next then homes ++ e ∷ [] else homes)
fourth_home homes e d next is same = (made_home homes e d next is (inr same)).0

-- ---- the next system

-- the number of a file or a directory was given
abbrev pub IsGivenIn : FileSystem → Node → Type 0
IsGivenIn fs (Directory d) = d < length fs.homes
IsGivenIn fs (File kind file) = file < length fs.sizes

-- what an operation on entries leaves, with lists that keep what they had
module _ (version : Version) (fs next : FileSystem) (now : IsNow version fs) (o : EntryOp) (legal : IsLegalEntryOp (held_in fs.entries) o)
    (entries_are : next.entries ≡ table_after fs.entries o)
    (sizes_grown : length fs.sizes ≤ length next.sizes)
    (homes_kept : (n : ℕ) (f : Entry) → slice_get fs.homes n ≡ Some f → slice_get next.homes n ≡ Some f)
    (homes_grown : length fs.homes ≤ length next.homes)
    (given : (e : Entry) (node : Node) → Comes (held_in fs.entries) o e node → IsGivenIn next node)
    (placed : is_fourth version ≡ false → (e : Entry) (d : ℕ) → Comes (held_in fs.entries) o e (Directory d)
    → slice_get next.homes d ≡ Some e) where
  abbrev m : Entries
  m = held_in fs.entries

  held_next : (e : Entry) → get next.entries e ≡ after m o e
  held_next e = ap (λ t. get t e) entries_are ∙ table_step fs.entries o legal e

  old_given : (e : Entry) (node : Node) → m e ≡ Some node → IsGivenIn next node
  old_given e (Directory d) held = (let low = now.directories e d held in omega (arith, low, homes_grown))
  old_given e (File kind file) held = (let low = now.files e kind file held in omega (arith, low, sizes_grown))

  all_given : (e : Entry) (node : Node) → get next.entries e ≡ Some node → IsGivenIn next node
  all_given e node at = ⊎_elim
      (λ (old : m e ≡ Some node). old_given e node old)
      (λ (new : Comes m o e node). given e node new)
      (after_cases m o e node (sym (held_next e) ∙ at))

  pub now_by : IsNow version next
  now_by = record {
    tree = subst IsTree (λ i e. sym (held_next e) i) (tree_after m o now.tree legal);
    files = λ e kind file at. all_given e (File kind file) at;
    directories = λ e d at. all_given e (Directory d) at;
    rooted = (let some = now.rooted in omega (arith, some, homes_grown));
    root = homes_kept 0 root_home now.root;
    placed = λ early e d at. ⊎_elim
        (λ (old : m e ≡ Some (Directory d)). homes_kept d e (now.placed early e d old))
        (λ (new : Comes m o e (Directory d)). placed early e d new)
        (after_cases m o e (Directory d) (sym (held_next e) ∙ at));
  }

module _ (version : Version) (fs : FileSystem) (now : IsNow version fs) where
  abbrev held : Entries
  held = held_in fs.entries

  there_given : (e : Entry) (node : Node) → held e ≡ Some node → IsGivenIn fs node
  there_given e (Directory d) at = now.directories e d at
  there_given e (File kind file) at = now.files e kind file at

  moved_given : (a b : DirEntry) (node : Node) (old : Option Node) (same : Bool)
      → IsLegalEntryOp held (if same then entry.Other else entry.Move (entry_of a) (entry_of b) node old) → (e : Entry) (n : Node)
      → Comes held (if same then entry.Other else entry.Move (entry_of a) (entry_of b) node old) e n
      → (f : Entry) × (held f ≡ Some n)
  moved_given a b node old true legal e n comes = absurd comes
  moved_given a b node old false legal e n comes = (entry_of a, comes.1)

  -- before the fourth version no directory is moved
  moved_placed : (a b : DirEntry) (node : Node) (old : Option Node) (same : Bool) → is_fourth version ≡ false → MayReplace version node old
      → IsLegalEntryOp held (if same then entry.Other else entry.Move (entry_of a) (entry_of b) node old) → (e : Entry) (d : ℕ)
      → Comes held (if same then entry.Other else entry.Move (entry_of a) (entry_of b) node old) e (Directory d) → ⊥
  moved_placed a b node old true early may legal e d comes = absurd comes
  moved_placed a b (File kind file) old false early may legal e d comes =
      no_file d kind file (node_is (Directory d) (File kind file) (sym comes.1 ∙ legal.1))
  moved_placed a b (Directory c) None false early may legal e d comes = absurd (false≢true (sym early ∙ may))
  moved_placed a b (Directory c) (Some (Directory k)) false early may legal e d comes = absurd (false≢true (sym early ∙ may))
  moved_placed a b (Directory c) (Some (File kind file)) false early may legal e d comes = absurd may

  come_given : (o : Operation) (legal : IsLegal version fs o) (e : Entry) (node : Node) → Comes held (entry_op o) e node
      → IsGivenIn (system_after fs o) node
  come_given (op.Creat f file rights) legal e node comes =
      subst (IsGivenIn (system_after fs (op.Creat f file rights))) comes.1
      (omega (arith, legal.fitting.0, length-append fs.sizes (0 ∷ [])))
  come_given (op.Mkdir f directory rights) legal e node comes =
      subst (IsGivenIn (system_after fs (op.Mkdir f directory rights))) comes.1
      (made_home fs.homes (entry_of f) directory (directory == length fs.homes) refl
      (made_by_version (is_fourth version) fs.homes (entry_of f) directory legal.fitting.0)).0
  come_given (op.Symlink f file rights target) legal e node comes =
      subst (IsGivenIn (system_after fs (op.Symlink f file rights target))) comes.1
      (omega (arith, legal.fitting.1, length-append fs.sizes (length target ∷ [])))
  come_given (op.Link f file) legal e node comes =
      subst (IsGivenIn (system_after fs (op.Link f file))) comes.1 legal.fitting.2
  come_given (op.Unlink f kind file) legal e node comes = absurd comes
  come_given (op.Rmdir f directory) legal e node comes = absurd comes
  come_given (op.Rename a b n old) legal e node comes =
      (let from = moved_given a b n old (entry_eq (entry_of a) (entry_of b)) legal.entry e node comes in
      there_given from.0 node from.1)
  come_given (op.Write file size offset bytes) legal e node comes = absurd comes
  come_given (op.Truncate file size to) legal e node comes = absurd comes
  come_given (op.SetAttr target before after) legal e node comes = absurd comes
  come_given (op.Sync covered) legal e node comes = absurd comes
  come_given op.Say legal e node comes = absurd comes

  come_placed : (o : Operation) (legal : IsLegal version fs o) → is_fourth version ≡ false → (e : Entry) (d : ℕ)
      → Comes held (entry_op o) e (Directory d) → slice_get (homes_after fs.homes o) d ≡ Some e
  come_placed (op.Creat f file rights) legal early e d comes = absurd (no_file d kinds.Regular file (sym comes.1))
  come_placed (op.Mkdir f directory rights) legal early e d comes =
      (let same = same_directory directory d comes.1 in
      let home = made_home fs.homes (entry_of f) directory (directory == length fs.homes) refl
      (made_by_version (is_fourth version) fs.homes (entry_of f) directory legal.fitting.0) in
      ap (slice_get (homes_after fs.homes (op.Mkdir f directory rights))) (sym same) ∙ home.1 ∙ ap Some comes.0)
  come_placed (op.Symlink f file rights target) legal early e d comes = absurd (no_file d kinds.Symlink file (sym comes.1))
  come_placed (op.Link f file) legal early e d comes = absurd (no_file d kinds.Regular file (sym comes.1))
  come_placed (op.Unlink f kind file) legal early e d comes = absurd comes
  come_placed (op.Rmdir f directory) legal early e d comes = absurd comes
  come_placed (op.Rename a b n old) legal early e d comes =
      absurd (moved_placed a b n old (entry_eq (entry_of a) (entry_of b)) early legal.fitting.0 legal.entry e d comes)
  come_placed (op.Write file size offset bytes) legal early e d comes = absurd comes
  come_placed (op.Truncate file size to) legal early e d comes = absurd comes
  come_placed (op.SetAttr target before after) legal early e d comes = absurd comes
  come_placed (op.Sync covered) legal early e d comes = absurd comes
  come_placed op.Say legal early e d comes = absurd comes

  pub now_after : (o : Operation) → IsLegal version fs o → IsNow version (system_after fs o)
  now_after o legal =
      now_by version fs (system_after fs o) now (entry_op o) legal.entry refl (sizes_grow fs.sizes o) (homes_keep fs.homes o)
      (homes_grow fs.homes o) (come_given o legal) (come_placed o legal)

-- ---- counts

pub counted_after : (version : Version) (sizes : List ℕ) (made : ℕ) (o : Operation) → length sizes ≤ made
    → length (sizes_after sizes o) ≤ made + made_by version o
counted_after version sizes made (op.Creat e file rights) few = omega (arith, few, length-append sizes (0 ∷ []))
counted_after version sizes made (op.Mkdir e directory rights) few = omega (arith, few)
counted_after version sizes made (op.Symlink e file rights target) few = omega (arith, few, length-append sizes (length target ∷ []))
counted_after version sizes made (op.Link e file) few = omega (arith, few)
counted_after version sizes made (op.Unlink e kind file) few = omega (arith, few)
counted_after version sizes made (op.Rmdir e directory) few = omega (arith, few)
counted_after version sizes made (op.Rename a b node old) few = omega (arith, few)
counted_after version sizes made (op.Write file size offset bytes) few =
    omega (arith, few, length-set sizes file (written_size size offset bytes))
counted_after version sizes made (op.Truncate file size to) few = omega (arith, few, length-set sizes file to)
counted_after version sizes made (op.SetAttr target before after) few = omega (arith, few)
counted_after version sizes made (op.Sync covered) few = omega (arith, few)
counted_after version sizes made op.Say few = omega (arith, few)

push_counts : (next : Bool) (homes : List Entry) (e : Entry) (made : ℕ) → length homes ≤ made
    → length (if next then homes ++ e ∷ [] else homes) ≤ made + 1
push_counts true homes e made few = omega (arith, few, length-append homes (e ∷ []))
push_counts false homes e made few = omega (arith, few)

pub housed_after : (version : Version) (homes : List Entry) (made : ℕ) (o : Operation) → length homes ≤ made
    → length (homes_after homes o) ≤ made + made_by version o
housed_after version homes made (op.Mkdir e directory rights) few = push_counts (directory == length homes) homes (entry_of e) made few
housed_after version homes made (op.Creat e file rights) few = omega (arith, few)
housed_after version homes made (op.Symlink e file rights target) few = omega (arith, few)
housed_after version homes made (op.Link e file) few = omega (arith, few)
housed_after version homes made (op.Unlink e kind file) few = omega (arith, few)
housed_after version homes made (op.Rmdir e directory) few = omega (arith, few)
housed_after version homes made (op.Rename a b node old) few = omega (arith, few)
housed_after version homes made (op.Write file size offset bytes) few = omega (arith, few)
housed_after version homes made (op.Truncate file size to) few = omega (arith, few)
housed_after version homes made (op.SetAttr target before after) few = omega (arith, few)
housed_after version homes made (op.Sync covered) few = omega (arith, few)
housed_after version homes made op.Say few = omega (arith, few)
