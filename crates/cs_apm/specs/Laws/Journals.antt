-- The tests of what forces the log say what the sentences say.
use Rattle.std.proofs.Common.{◌≡◌, ◌<◌, ◌≤◌, ◌⊎◌, inl, inr, ℕ, zero, suc, ◌+◌, ◌-◌, ◌&&◌, ◌||◌, ◌==◌}
use Rattle.std.proofs.Common.{Bool, true, false, List, [], ◌∷◌, ◌++◌, Option, None, Some, get_or, refl}
use Rattle.std.proofs.Common.{sym, ap, ◌∙◌, subst, arith, ⊎_elim, length}
use Rattle.std.proofs.lemmas.Bool.{cases_Bool, false≢true, and_parts, and_from, or_cases, or_left}
use Rattle.std.proofs.lemmas.Bool.{or_right, eqb-true, eq-eqb, lt-ltb, leb-true, le-leb, ltb-true}
use Rattle.std.proofs.lemmas.List.Folds.{list_any-append}
use Rattle.std.proofs.lemmas.Option.{same_Some, slice_get_cases, slice_get_within, slice_get-get_or}
use Rattle.std.specs.Prelude.{if◌then◌else◌, nat_lt, nat_le, slice_get}
use Rattle.std.specs.List.{Contains, list_any}
use Rattle.cs_entries.specs.declared.node.FileKind.{FileKind}
use Rattle.cs_entries.specs.declared.node.Node.{Node}
use Rattle.cs_entries.specs.declared.node.Node.TheVariants.{Directory, File}
use Rattle.cs_trace.specs.declared.operation.Covers.{Covers}
use Rattle.cs_trace.specs.declared.operation.Covers.TheVariants as covers
use Rattle.cs_trace.specs.declared.operation.Target.TheVariants as targets
use Rattle.cs_trace_lines.specs.declared.profile.Profile.{Profile}
use Rattle.cs_trace_lines.specs.declared.profile.Profile.TheVariants as profiles
use Rattle.cs_micro.specs.declared.micro_op.MicroOp.{MicroOp}
use Rattle.cs_micro.specs.declared.micro_op.MicroOp.TheVariants.{CreateDirEntry, DeleteDirEntry}
use Rattle.cs_micro.specs.declared.micro_op.MicroOp.TheVariants.{MoveDirEntry, LinkDirEntry}
use Rattle.cs_micro.specs.declared.micro_op.MicroOp.TheVariants.{ChangeFileSize, WriteBlock}
use Rattle.cs_micro.specs.declared.micro_op.MicroOp.TheVariants.{SetAttr, Say}
use Rattle.cs_micro.specs.declared.sync_point.SyncPoint.{SyncPoint}
use Rattle.cs_apm.specs.Rules.{alters_directory, alters_file, alters_inode, forces_log, has_to_log}
use Rattle.cs_apm.specs.Rules.{is_directory_numbered, is_entry_operation, is_file_numbered}
use Rattle.cs_apm.specs.Rules.{is_journaled, is_of_all, log_forced_at, nodes_handled, op_at}
use Rattle.cs_apm.specs.Rules.{places_from, resizes_or_makes, sets_directory, touches_entry_of}
use Rattle.cs_apm.specs.Reasons.{AltersDirectory, AltersFile, ChangesSize, Creates, Handles, HasToLog}
use Rattle.cs_apm.specs.Reasons.{IsBefore, IsEntryOperation, IsFresh, IsLoggedBetween, Links}
use Rattle.cs_apm.specs.Reasons.{MovesOnto, ResizesOrMakes, SetsDirectory, SetsFile}
use Rattle.cs_apm.specs.Reasons.{TouchesEntryOf, Writes, links, links_over, makes, moves, removes}
use Rattle.cs_apm.specs.Reasons.{replaces}
use Rattle.cs_apm.specs.Laws.Lists.{any_between, any_found, any_from, found_between}
use Rattle.cs_apm.specs.Laws.Pairs.{directory_says, entry_operation_says}
use Rattle.cs_apm.specs.Laws.Touched.{entry_says}
use Rattle.cs_apm.specs.Laws.Pairs.{says_directory, says_entry_operation}
use Rattle.cs_apm.specs.Laws.Touched.{says_entry}

-- ---- what an operation handles

in_one : {X : Type 0} (x y : X) (k : ℕ) → k < 1 → get_or (x ∷ []) k y ≡ y → x ≡ y
in_one x y zero low is = is
in_one x y (suc k) low is = absurd (omega (arith, low))

in_two : {X : Type 0} (x z y : X) (k : ℕ) → k < 2 → get_or (x ∷ z ∷ []) k y ≡ y
    → (x ≡ y) ⊎ (z ≡ y)
in_two x z y zero low is = inl is
in_two x z y (suc zero) low is = inr is
in_two x z y (suc (suc k)) low is = absurd (omega (arith, low))

handles_of : (o : MicroOp) (node : Node) → Contains (nodes_handled o) node → Handles o node
handles_of (CreateDirEntry e n rights bytes) node h =
    makes (
      e,
      rights,
      bytes,
      ap (λ m. CreateDirEntry e m rights bytes)
          (in_one n node h.0 h.1 h.2),
    )
handles_of (DeleteDirEntry e n) node h = removes e (ap (DeleteDirEntry e) (in_one n node h.0 h.1 h.2))
handles_of (MoveDirEntry a b n None) node h =
    moves None (a, b, ap (λ m. MoveDirEntry a b m None) (in_one n node h.0 h.1 h.2))
handles_of (MoveDirEntry a b n (Some old)) node h = ⊎_elim
    (λ (s : n ≡ node). moves (Some old) (a, b, ap (λ m. MoveDirEntry a b m (Some old)) s))
    (λ (s : old ≡ node). replaces n (a, b, ap (λ m. MoveDirEntry a b n (Some m)) s))
    (in_two n old node h.0 h.1 h.2)
handles_of (LinkDirEntry e kind file None half) node h =
    links kind file (sym (in_one (File kind file) node h.0 h.1 h.2)) (e, None, half, refl)
handles_of (LinkDirEntry e kind file (Some old) half) node h = ⊎_elim
    (λ (s : File kind file ≡ node). links kind file (sym s) (e, Some old, half, refl))
    (λ (s : old ≡ node). links_over e kind file half
    (ap (λ m. LinkDirEntry e kind file (Some m) half) s))
    (in_two (File kind file) old node h.0 h.1 h.2)
handles_of (ChangeFileSize file to) node h = absurd (let low = h.1 in omega (arith, low))
handles_of (WriteBlock file block start at bytes) node h =
    absurd (let low = h.1 in omega (arith, low))
handles_of (SetAttr target rights) node h = absurd (let low = h.1 in omega (arith, low))
handles_of Say node h = absurd (let low = h.1 in omega (arith, low))

of_handles : (o : MicroOp) (node : Node) → Handles o node → Contains (nodes_handled o) node
of_handles o node (makes w) =
    subst (λ p. Contains (nodes_handled p) node) (sym w.3) (0, omega arith, refl)
of_handles o node (links kind file is w) =
    subst (λ p. Contains (nodes_handled p) node) (sym w.3)
    (subst (λ m. Contains (nodes_handled (LinkDirEntry w.0 kind file w.1 w.2)) m) (sym is)
    (first w.1))
  where
    first : (old : Option Node)
        → Contains (nodes_handled (LinkDirEntry w.0 kind file old w.2)) (File kind file)
    first None = (0, omega arith, refl)
    first (Some m) = (0, omega arith, refl)
of_handles o node (moves old w) =
    subst (λ p. Contains (nodes_handled p) node) (sym w.2) (first old)
  where
    first : (old : Option Node) → Contains (nodes_handled (MoveDirEntry w.0 w.1 node old)) node
    first None = (0, omega arith, refl)
    first (Some m) = (0, omega arith, refl)
of_handles o node (removes e is) =
    subst (λ p. Contains (nodes_handled p) node) (sym is) (0, omega arith, refl)
of_handles o node (replaces moved w) =
    subst (λ p. Contains (nodes_handled p) node) (sym w.2) (1, omega arith, refl)
of_handles o node (links_over e kind file half is) =
    subst (λ p. Contains (nodes_handled p) node) (sym is) (1, omega arith, refl)

file_numbered : (n : ℕ) (node : Node) → is_file_numbered n node ≡ true → (kind : FileKind)
    × (node ≡ File kind n)
file_numbered n (File kind file) h = (kind, ap (File kind) (eqb-true file n h))
file_numbered n (Directory d) h = absurd (false≢true h)

directory_numbered : (n : ℕ) (node : Node) → is_directory_numbered n node ≡ true
    → node ≡ Directory n
directory_numbered n (Directory d) h = ap Directory (eqb-true d n h)
directory_numbered n (File kind file) h = absurd (false≢true h)

-- ---- what has to be logged

inode_says : (n : ℕ) (o : MicroOp) → alters_inode n o ≡ true
    → (Writes o n ⊎ ChangesSize o n) ⊎ SetsFile o n
inode_says n (WriteBlock file block start at bytes) h =
    inl (inl (
      block,
      (
        start,
        at,
        bytes,
        ap (λ f. WriteBlock f block start at bytes)
            (eqb-true file n h),
      ),
    ))
inode_says n (ChangeFileSize file to) h =
    inl (inr (to, ap (λ f. ChangeFileSize f to) (eqb-true file n h)))
inode_says n (SetAttr (targets.File file) rights) h =
    inr (rights, ap (λ f. SetAttr (targets.File f) rights) (eqb-true file n h))
inode_says n (SetAttr (targets.Directory d path) rights) h = absurd (false≢true h)
inode_says n (CreateDirEntry e node rights bytes) h = absurd (false≢true h)
inode_says n (DeleteDirEntry e node) h = absurd (false≢true h)
inode_says n (MoveDirEntry a b node old) h = absurd (false≢true h)
inode_says n (LinkDirEntry e kind file old half) h = absurd (false≢true h)
inode_says n Say h = absurd (false≢true h)

says_inode : (n : ℕ) (o : MicroOp) → (Writes o n ⊎ ChangesSize o n) ⊎ SetsFile o n
    → alters_inode n o ≡ true
says_inode n o h = ⊎_elim
    (λ (b : Writes o n ⊎ ChangesSize o n). ⊎_elim
    (λ (w : Writes o n). ap (alters_inode n) w.1.3 ∙ eq-eqb n n refl)
    (λ (s : ChangesSize o n). ap (alters_inode n) s.1 ∙ eq-eqb n n refl) b)
    (λ (r : SetsFile o n). ap (alters_inode n) r.1 ∙ eq-eqb n n refl)
    h

file_says : (n : ℕ) (o : MicroOp) → alters_file n o ≡ true → AltersFile o n
file_says n o h = ⊎_elim
    (λ (own : alters_inode n o ≡ true). inl (inode_says n o own))
    (λ (held : list_any (is_file_numbered n) (nodes_handled o) ≡ true).
    (let w = any_found (is_file_numbered n) (nodes_handled o) held in
    let kind = file_numbered n w.0 w.2 in
    inr (kind.0, subst (Handles o) kind.1 (handles_of o w.0 w.1))))
    (or_cases (alters_inode n o) (list_any (is_file_numbered n) (nodes_handled o)) h)

says_altered : (n : ℕ) (o : MicroOp) → AltersFile o n → alters_file n o ≡ true
says_altered n o h = ⊎_elim
    (λ (own : (Writes o n ⊎ ChangesSize o n) ⊎ SetsFile o n). or_left (alters_inode n o)
    (list_any (is_file_numbered n) (nodes_handled o)) (says_inode n o own))
    (λ (held : (kind : FileKind) × Handles o (File kind n)). or_right (alters_inode n o)
    (list_any (is_file_numbered n) (nodes_handled o))
    (any_from (is_file_numbered n) (nodes_handled o) (File held.0 n)
    (of_handles o (File held.0 n) held.1) (eq-eqb n n refl)))
    h

altered_directory_says : (n : ℕ) (o : MicroOp) → alters_directory n o ≡ true → AltersDirectory o n
altered_directory_says n o h = ⊎_elim
    (λ (two : (touches_entry_of o n || sets_directory o n) ≡ true). inl (⊎_elim
    (λ (t : touches_entry_of o n ≡ true). inl (entry_says o n t))
    (λ (s : sets_directory o n ≡ true). inr (directory_says o n s))
    (or_cases (touches_entry_of o n) (sets_directory o n) two)))
    (λ (held : list_any (is_directory_numbered n) (nodes_handled o) ≡ true).
    (let w = any_found (is_directory_numbered n) (nodes_handled o) held in
    inr (subst (Handles o) (directory_numbered n w.0 w.2) (handles_of o w.0 w.1))))
    (or_cases (touches_entry_of o n || sets_directory o n)
    (list_any (is_directory_numbered n) (nodes_handled o)) h)

says_altered_directory : (n : ℕ) (o : MicroOp) → AltersDirectory o n → alters_directory n o ≡ true
says_altered_directory n o h = ⊎_elim
    (λ (two : TouchesEntryOf o n ⊎ SetsDirectory o n). or_left
    (touches_entry_of o n || sets_directory o n)
    (list_any (is_directory_numbered n) (nodes_handled o)) (⊎_elim
    (λ (t : TouchesEntryOf o n). or_left (touches_entry_of o n) (sets_directory o n)
    (says_entry o n t))
    (λ (s : SetsDirectory o n). or_right (touches_entry_of o n) (sets_directory o n)
    (says_directory o n s))
    two))
    (λ (held : Handles o (Directory n)). or_right (touches_entry_of o n || sets_directory o n)
    (list_any (is_directory_numbered n) (nodes_handled o))
    (any_from (is_directory_numbered n) (nodes_handled o) (Directory n)
    (of_handles o (Directory n) held) (eq-eqb n n refl)))
    h

sized_says : (n : ℕ) (o : MicroOp) → resizes_or_makes n o ≡ true → ResizesOrMakes o n
sized_says n (ChangeFileSize file to) h =
    inl (to, ap (λ f. ChangeFileSize f to) (eqb-true file n h))
sized_says n (CreateDirEntry e node rights bytes) h =
    (let k = file_numbered n node h in
    inr (k.0, (e, rights, bytes, ap (λ m. CreateDirEntry e m rights bytes) k.1)))
sized_says n (WriteBlock file block start at bytes) h = absurd (false≢true h)
sized_says n (SetAttr target rights) h = absurd (false≢true h)
sized_says n (DeleteDirEntry e node) h = absurd (false≢true h)
sized_says n (MoveDirEntry a b node old) h = absurd (false≢true h)
sized_says n (LinkDirEntry e kind file old half) h = absurd (false≢true h)
sized_says n Say h = absurd (false≢true h)

says_sized : (n : ℕ) (o : MicroOp) → ResizesOrMakes o n → resizes_or_makes n o ≡ true
says_sized n o h = ⊎_elim
    (λ (s : ChangesSize o n). ap (resizes_or_makes n) s.1 ∙ eq-eqb n n refl)
    (λ (c : (kind : FileKind) × Creates o (File kind n)). ap (resizes_or_makes n) c.1.3
    ∙ eq-eqb n n refl)
    h

log_says : (c : Covers) (o : MicroOp) → has_to_log c o ≡ true → HasToLog c o
log_says covers.All o h = tt
log_says (covers.File file) o h = file_says file o h
log_says (covers.Data file) o h = sized_says file o h
log_says (covers.Range file offset count) o h = sized_says file o h
log_says (covers.Directory d path) o h = altered_directory_says d o h

says_log : (c : Covers) (o : MicroOp) → HasToLog c o → has_to_log c o ≡ true
says_log covers.All o h = refl
says_log (covers.File file) o h = says_altered file o h
says_log (covers.Data file) o h = says_sized file o h
says_log (covers.Range file offset count) o h = says_sized file o h
says_log (covers.Directory d path) o h = says_altered_directory d o h

all_says : (c : Covers) → is_of_all c ≡ true → c ≡ covers.All
all_says covers.All h = refl
all_says (covers.File file) h = absurd (false≢true h)
all_says (covers.Data file) h = absurd (false≢true h)
all_says (covers.Range file offset count) h = absurd (false≢true h)
all_says (covers.Directory d path) h = absurd (false≢true h)

-- ---- where the log is forced

-- where the n-th sync point begins to look
abbrev looks_from : ℕ → List SyncPoint → ℕ → ℕ
looks_from from syncs zero = from
looks_from from [] (suc n) = from
looks_from from (s ∷ syncs) (suc n) = looks_from s.at syncs n

behind : (from : ℕ) (syncs : List SyncPoint) (n : ℕ) (point : SyncPoint)
    → slice_get syncs n ≡ Some point → looks_from from syncs (suc n) ≡ point.at
behind from [] n point is = absurd (let low = slice_get_within [] n point is in omega (arith, low))
behind from (s ∷ syncs) zero point is = ap (λ (p : SyncPoint). p.at) (same_Some s point is)
behind from (s ∷ syncs) (suc n) point is = behind s.at syncs n point is

before_says : (syncs : List SyncPoint) (n : ℕ) (point : SyncPoint) → slice_get syncs n ≡ Some point
    → IsBefore syncs n (looks_from 0 syncs n)
before_says syncs zero point is = refl
before_says syncs (suc n) point is =
    let low = slice_get_within syncs (suc n) point is in
    let there = slice_get-get_or syncs n point (omega (arith, low)) in
    (get_or syncs n point, there, behind 0 syncs n (get_or syncs n point) there)

says_before : (syncs : List SyncPoint) (n from : ℕ) → IsBefore syncs n from
    → looks_from 0 syncs n ≡ from
says_before syncs zero from is = sym is
says_before syncs (suc n) from w = behind 0 syncs n w.0 w.1 ∙ sym w.2

module _ (ops : List MicroOp) (t : ℕ → Bool) where
  abbrev forced : ℕ → SyncPoint → List ℕ
  forced from s = if forces_log ops from s then s.at ∷ [] else []

  one_forced : (from : ℕ) (s : SyncPoint) (b : Bool) → forces_log ops from s ≡ b
      → list_any t (if b then s.at ∷ [] else []) ≡ true
      → (forces_log ops from s ≡ true) × (t s.at ≡ true)
  one_forced from s true is h = ⊎_elim
      (λ (here : t s.at ≡ true). (is, here))
      (λ (none : false ≡ true). absurd (false≢true none))
      (or_cases (t s.at) false h)
  one_forced from s false is h = absurd (false≢true h)

  forced_says : (from : ℕ) (syncs : List SyncPoint)
      → list_any t (log_forced_at ops from syncs) ≡ true → (n : ℕ) × (point : SyncPoint)
      × (slice_get syncs n ≡ Some point)
      × (forces_log ops (looks_from from syncs n) point ≡ true) × (t point.at ≡ true)
  forced_says from [] h = absurd (false≢true h)
  forced_says from (s ∷ syncs) h = ⊎_elim
      (λ (here : list_any t (forced from s) ≡ true).
      (let w = one_forced from s (forces_log ops from s) refl here in (0, s, refl, w.0, w.1)))
      (λ (later : list_any t (log_forced_at ops s.at syncs) ≡ true).
      (let w = forced_says s.at syncs later in (suc w.0, w.1, w.2, w.3, w.4)))
      (or_cases (list_any t (forced from s)) (list_any t (log_forced_at ops s.at syncs))
      (sym (list_any-append t (forced from s) (log_forced_at ops s.at syncs)) ∙ h))

  says_forced : (from : ℕ) (syncs : List SyncPoint) (n : ℕ) (point : SyncPoint)
      → slice_get syncs n ≡ Some point
      → forces_log ops (looks_from from syncs n) point ≡ true → t point.at ≡ true
      → list_any t (log_forced_at ops from syncs) ≡ true
  says_forced from [] n point is force passes =
      absurd (let low = slice_get_within [] n point is in omega (arith, low))
  says_forced from (s ∷ syncs) zero point is force passes =
      (let same = same_Some s point is in
      list_any-append t (forced from s) (log_forced_at ops s.at syncs)
      ∙ or_left (list_any t (forced from s)) (list_any t (log_forced_at ops s.at syncs))
      (ap (λ b. list_any t (if b then s.at ∷ [] else []))
      (ap (forces_log ops from) same ∙ force)
      ∙ or_left (t s.at) false (ap (λ (p : SyncPoint). t p.at) same ∙ passes)))
  says_forced from (s ∷ syncs) (suc n) point is force passes =
      list_any-append t (forced from s) (log_forced_at ops s.at syncs)
      ∙ or_right (list_any t (forced from s)) (list_any t (log_forced_at ops s.at syncs))
      (says_forced s.at syncs n point is force passes)

-- ---- the rule

module _ (ops : List MicroOp) (syncs : List SyncPoint) (i j : ℕ) where
  abbrev between : ℕ → Bool
  between at = nat_lt i at && nat_le at j

  fresh_says : (n : ℕ) (point : SyncPoint) → slice_get syncs n ≡ Some point
      → forces_log ops (looks_from 0 syncs n) point ≡ true
      → (point.covers ≡ covers.All) ⊎ IsFresh ops syncs n point
  fresh_says n point is h = ⊎_elim
      (λ (whole : is_of_all point.covers ≡ true). inl (all_says point.covers whole))
      (λ (some : list_any (λ k. has_to_log point.covers (op_at ops k))
      (places_from (looks_from 0 syncs n) point.at) ≡ true).
      (let from = looks_from 0 syncs n in
      let w = found_between (λ k. has_to_log point.covers (op_at ops k)) from (point.at - from) some
      in let low = w.1 in let high = w.2 in
      inr (record {
        from = from;
        last = before_says syncs n point is;
        k = w.0;
        behind = low;
        ahead = omega (arith, low, high);
        logged = log_says point.covers (op_at ops w.0) w.3;
      })))
      (or_cases (is_of_all point.covers) (list_any (λ k. has_to_log point.covers (op_at ops k))
      (places_from (looks_from 0 syncs n) point.at)) h)

  says_fresh : (n : ℕ) (point : SyncPoint)
      → (point.covers ≡ covers.All) ⊎ IsFresh ops syncs n point
      → forces_log ops (looks_from 0 syncs n) point ≡ true
  says_fresh n point h = ⊎_elim
      (λ (whole : point.covers ≡ covers.All). or_left (is_of_all point.covers) (some n point)
      (ap is_of_all whole))
      (λ (w : IsFresh ops syncs n point). or_right (is_of_all point.covers) (some n point)
      (let at = says_before syncs n w.from w.last in let low = w.behind in let high = w.ahead in
      any_between (λ k. has_to_log point.covers (op_at ops k)) (looks_from 0 syncs n)
      (point.at - looks_from 0 syncs n) w.k (omega (arith, at, low)) (omega (arith, at, low, high))
      (says_log point.covers (op_at ops w.k) w.logged)))
      h
    where
      some : ℕ → SyncPoint → Bool
      some n point =
          list_any (λ k. has_to_log point.covers (op_at ops k))
          (places_from (looks_from 0 syncs n) point.at)

  pub journaled_says : (profile : Profile) → is_journaled profile ops syncs i j ≡ true
      → (profile ≡ profiles.Journal) × IsEntryOperation (op_at ops i)
      × IsLoggedBetween ops syncs i j
  journaled_says profiles.Blocks h = absurd (false≢true h)
  journaled_says profiles.Ordered h = absurd (false≢true h)
  journaled_says profiles.Journal h =
      let parts =
      and_parts (is_entry_operation (op_at ops i)) (list_any between (log_forced_at ops 0 syncs)) h
      in
      let w = forced_says ops between 0 syncs parts.1 in
      let times = and_parts (nat_lt i w.1.at) (nat_le w.1.at j) w.4 in (
        refl,
        entry_operation_says (op_at ops i) parts.0,
        record {
          n = w.0;
          point = w.1;
          there = w.2;
          behind = ltb-true i w.1.at times.0;
          ahead = leb-true w.1.at j times.1;
          forced = fresh_says w.0 w.1 w.2 w.3;
        },
      )

  pub says_journaled : (profile : Profile) → profile ≡ profiles.Journal
      → IsEntryOperation (op_at ops i) → IsLoggedBetween ops syncs i j
      → is_journaled profile ops syncs i j ≡ true
  says_journaled profile is entry w =
      ap (λ p. is_journaled p ops syncs i j) is
      ∙ and_from (is_entry_operation (op_at ops i)) (list_any between (log_forced_at ops 0 syncs))
      (says_entry_operation (op_at ops i) entry)
      (says_forced ops between 0 syncs w.n w.point w.there (says_fresh w.n w.point w.forced)
      (and_from (nat_lt i w.point.at) (nat_le w.point.at j) (lt-ltb i w.point.at w.behind)
      (le-leb w.point.at j w.ahead)))
