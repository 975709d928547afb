-- What the slots and the steps of an atlas refer to is there.
use Rattle.std.proofs.Common.{◌≡◌, ℕ, zero, suc, ◌+◌, ◌<◌, ◌≤◌, Bool, true, false, cond, List, [], ◌∷◌, inl, inr, None, Some, refl, sym, ap, ◌∙◌, subst}
use Rattle.std.proofs.Common.{arith, ⊎_elim, length}
use Rattle.std.proofs.lemmas.Bool.{cases_Bool, cases_lt}
use Rattle.std.proofs.lemmas.List.{get_or_past}
use Rattle.std.proofs.lemmas.Option.{slice_get_within}
use Rattle.std.specs.FinMap.{entries, entries_sorted, find, get, get-entries, get-from_entries}
use Rattle.std.specs.List.{flat_map}
use Rattle.std.specs.Ordering.{eq_by_cmp}
use Rattle.cs_entries.specs.declared.entry.Entry.{Entry}
use Rattle.cs_entries.specs.declared.node.FileKind.TheVariants.{Regular, Symlink}
use Rattle.cs_entries.specs.declared.node.Node.{Node}
use Rattle.cs_entries.specs.declared.node.Node.TheVariants.{Directory, File}
use Rattle.cs_entries.specs.DirEntries.{entry_of}
use Rattle.cs_entries.specs.Tables.{entry_cmp}
use Rattle.cs_entries.specs.Laws.Listed.{In}
use Rattle.cs_entries.specs.Laws.Records.{entry_total, in_find}
use Rattle.cs_trace.specs.Traces.{AreHomes, IsFileNumbered, IsPathOf, Paths, Trace, entries_of_paths, entry_in_paths, held_by_path, start_paths}
use Rattle.cs_trace.specs.Traces.{start_table}
use Rattle.cs_trace_lines.specs.declared.version.Version.{Version}
use Rattle.cs_tree_model.specs.Laws.Paths.{path_exact, path_total}
use Rattle.cs_tree_model.specs.Tree.{Path}
use Rattle.cs_micro.specs.declared.micro_op.MicroOp.{MicroOp}
use Rattle.cs_micro.specs.declared.micro_op.MicroOp.TheVariants.{CreateDirEntry, DeleteDirEntry, MoveDirEntry, LinkDirEntry, ChangeFileSize}
use Rattle.cs_micro.specs.declared.micro_op.MicroOp.TheVariants.{WriteBlock, SetAttr, Say}
use Rattle.cs_micro.specs.Legal.{AreLegal, IsLegal, Made, entry_op, files_after, made_after}
use Rattle.cs_apm.specs.Rules.{op_at}
use Rattle.cs_apm.specs.States.{directories_made, owners_made}
use Rattle.cs_apm.specs.declared.slot.Step.{Step}
use Rattle.cs_apm.specs.declared.slot.Step.TheVariants.{Set, Move, Other}
use Rattle.cs_apm.specs.Slots.{AreAscending, AreKnown, AreKnownSteps, AreSteps, IsKnown, IsKnownStep, IsStep, Mirror, Slot, entry_at}
use Rattle.cs_apm.specs.Slots.{slot_at, step_at}
use Rattle.cs_apm.specs.Laws.Homes.{few}
use Rattle.cs_apm.specs.Laws.Mirrors.{at_place, step_is}

-- ---- what the start holds

-- what an entry holds is at some path
path_found : (m : Paths) (es : List (Path × Node)) (e : Entry) (node : Node) → find entry_cmp e (flat_map (held_by_path m) es) ≡ Some node
    → (p : Path) × In (p, node) es
path_found m [] e node is = absurd (cc)
path_found m (([], x) ∷ es) e node is = (let w = path_found m es e node is in (w.0, inr w.1))
path_found m ((name ∷ p, x) ∷ es) e node is = ⊎_elim
    (λ (t : eq_by_cmp entry_cmp e (entry_in_paths m (name ∷ p)) ≡ true).
    (let same = value (sym is ∙ ap (λ b. cond b (Some x) (find entry_cmp e (flat_map (held_by_path m) es))) t) in
    (name ∷ p, inl (λ i. (name ∷ p, same i)))))
    (λ (t : eq_by_cmp entry_cmp e (entry_in_paths m (name ∷ p)) ≡ false).
    (let w = path_found m es e node
    (sym (ap (λ b. cond b (Some x) (find entry_cmp e (flat_map (held_by_path m) es))) t) ∙ is) in (w.0, inr w.1)))
    (cases_Bool (eq_by_cmp entry_cmp e (entry_in_paths m (name ∷ p))))
  where
    value : Some node ≡ Some x → node ≡ x
    value h = cc

at_some_path : (m : Paths) (e : Entry) (node : Node) → get (entries_of_paths m) e ≡ Some node → (p : Path) × (get m p ≡ Some node)
unfolding entries_of_paths
at_some_path m e node is =
    (let w = path_found m (entries m) e node (sym (get-from_entries entry_total (flat_map (held_by_path m) (entries m)) e) ∙ is) in
    (w.0, get-entries m w.0 ∙ in_find path_total path_exact w.0 (entries m) node (entries_sorted m) w.1))

module _ (t : Trace) (homes : List Entry) (are : AreHomes (start_table t) homes)
    (found : (n : ℕ) (p : Path) → IsFileNumbered n (get (start_paths t) p) → IsPathOf t n p)
    (es : List Entry) (slots : List Slot) (up : AreAscending es) (long : length slots ≡ length es)
    (mirror : Mirror es slots (start_table t)) where
  known_node : (d f : ℕ) → length homes ≤ d → length t.files ≤ f → (e : Entry) (s : Slot) → get (start_table t) e ≡ s → IsKnown d f s
  known_node d f few many e None is = tt
  known_node d f few many e (Some (Directory c)) is =
      (let low = slice_get_within homes c e (are.each e c is) in omega (arith, low, few))
  known_node d f few many e (Some (File kind n)) is =
      (let w = at_some_path (start_paths t) e (File kind n) is in
      let own : IsPathOf t n w.0 = found n w.0 (subst (IsFileNumbered n) (sym w.1) refl) in
      let low = slice_get_within t.files n own.own own.at in omega (arith, low, many))

  pub known_start : (d f : ℕ) → length homes ≤ d → length t.files ≤ f → AreKnown d f slots
  known_start d f few many i = ⊎_elim
      (λ (low : i < length slots).
      let inside : i < length es = subst (λ k. i < k) long low in
      known_node d f few many (entry_at es i) (slot_at slots i)
      (mirror (entry_at es i) ∙ at_place es slots up long i (entry_at es i) (inside, refl)))
      (λ (high : length slots ≤ i). subst (IsKnown d f) (sym (get_or_past slots i None high)) tt)
      (cases_lt i (length slots))

-- ---- the steps

-- what is made or linked has one of the first so many numbers
abbrev FilesBelow : ℕ → MicroOp → Type 0
FilesBelow f (CreateDirEntry e (File kind n) rights bytes) = n < f
FilesBelow f (LinkDirEntry e kind n old half) = n < f
FilesBelow f _ = Unit {0}

abbrev DirectoriesBelow : ℕ → MicroOp → Type 0
DirectoriesBelow d (CreateDirEntry e (Directory c) rights bytes) = c < d
DirectoriesBelow d _ = Unit {0}

counted : (files : ℕ) (o : MicroOp) (ops : List MicroOp)
    → files_after files o + length (owners_made ops) ≡ files + length (owners_made (o ∷ ops))
counted files (CreateDirEntry e (File kind n) rights bytes) ops = omega arith
counted files (CreateDirEntry e (Directory d) rights bytes) ops = refl
counted files (DeleteDirEntry e node) ops = refl
counted files (MoveDirEntry a b node old) ops = refl
counted files (LinkDirEntry e kind file old half) ops = refl
counted files (ChangeFileSize file size) ops = refl
counted files (WriteBlock file block start at bytes) ops = refl
counted files (SetAttr target rights) ops = refl
counted files Say ops = refl

first_below : (version : Version) (m : Made) (o : MicroOp) (ops : List MicroOp) → IsLegal version m o
    → FilesBelow (m.files + length (owners_made (o ∷ ops))) o
first_below version m (CreateDirEntry e (File Regular n) rights bytes) ops h = (let is = h.fitting.0.0 in omega (arith, is))
first_below version m (CreateDirEntry e (File Symlink n) rights bytes) ops h = (let is = h.fitting.0.1 in omega (arith, is))
first_below version m (CreateDirEntry e (Directory d) rights bytes) ops h = tt
first_below version m (DeleteDirEntry e node) ops h = tt
first_below version m (MoveDirEntry a b node old) ops h = tt
first_below version m (LinkDirEntry e kind file old half) ops h = (let low = h.fitting.0 in omega (arith, low))
first_below version m (ChangeFileSize file to) ops h = tt
first_below version m (WriteBlock file block start at bytes) ops h = tt
first_below version m (SetAttr target rights) ops h = tt
first_below version m Say ops h = tt

files_below : (version : Version) (m : Made) (ops : List MicroOp) → AreLegal version m ops → (k : ℕ)
    → FilesBelow (m.files + length (owners_made ops)) (op_at ops k)
files_below version m [] h zero = tt
files_below version m [] h (suc k) = tt
files_below version m (o ∷ ops) h zero = first_below version m o ops h.0
files_below version m (o ∷ ops) h (suc k) =
    subst (λ f. FilesBelow f (op_at ops k)) (counted m.files o ops) (files_below version (made_after m o) ops h.1 k)

directories_below : (version : Version) (m : Made) (ops : List MicroOp) → AreLegal version m ops → AreHomes m.entries m.homes → (k : ℕ)
    → DirectoriesBelow (length m.homes + length (directories_made ops)) (op_at ops k)
directories_below version m ops legal homes k = ⊎_elim
    (λ (low : k < length ops). by (op_at ops k) refl low)
    (λ (high : length ops ≤ k). subst (DirectoriesBelow (length m.homes + length (directories_made ops)))
    (sym (get_or_past ops k Say high)) tt)
    (cases_lt k (length ops))
  where
    by : (o : MicroOp) → op_at ops k ≡ o → k < length ops → DirectoriesBelow (length m.homes + length (directories_made ops)) o
    by (CreateDirEntry e (Directory c) rights bytes) is low =
        (few version m ops legal homes).made k (entry_of e) c low (ap entry_op is)
    by (CreateDirEntry e (File kind n) rights bytes) is low = tt
    by (DeleteDirEntry e node) is low = tt
    by (MoveDirEntry a b node old) is low = tt
    by (LinkDirEntry e kind file old half) is low = tt
    by (ChangeFileSize file to) is low = tt
    by (WriteBlock file block start at bytes) is low = tt
    by (SetAttr target rights) is low = tt
    by Say is low = tt

known_step : (es : List Entry) (n d f : ℕ) (o : MicroOp) (s : Step) → n ≡ length es → DirectoriesBelow d o → FilesBelow f o → IsStep es o s
    → IsKnownStep n d f s
known_step es n d f (CreateDirEntry e (Directory c) rights bytes) (Set i s) long low below is =
    (subst (λ w. i < w) (sym long) is.0.0, subst (IsKnown d f) (sym is.1) low)
known_step es n d f (CreateDirEntry e (File kind m) rights bytes) (Set i s) long low below is =
    (subst (λ w. i < w) (sym long) is.0.0, subst (IsKnown d f) (sym is.1) below)
known_step es n d f (DeleteDirEntry e node) (Set i s) long low below is =
    (subst (λ w. i < w) (sym long) is.0.0, subst (IsKnown d f) (sym is.1) tt)
known_step es n d f (MoveDirEntry a b node old) (Move i j) long low below is =
    (subst (λ w. i < w) (sym long) is.0.0, subst (λ w. j < w) (sym long) is.1.0)
known_step es n d f (LinkDirEntry e kind m old half) (Set i s) long low below is =
    (subst (λ w. i < w) (sym long) is.0.0, subst (IsKnown d f) (sym is.1) below)
known_step es n d f (ChangeFileSize file size) Other long low below is = tt
known_step es n d f (WriteBlock file block start at bytes) Other long low below is = tt
known_step es n d f (SetAttr target rights) Other long low below is = tt
known_step es n d f Say Other long low below is = tt
known_step es n d f o s long low below is = absurd is

pub known_steps : (version : Version) (m : Made) (ops : List MicroOp) → AreLegal version m ops → AreHomes m.entries m.homes
    → (es : List Entry) (n : ℕ) (steps : List Step) → n ≡ length es → AreSteps es ops steps
    → AreKnownSteps n (length m.homes + length (directories_made ops)) (m.files + length (owners_made ops)) steps
known_steps version m ops legal homes es n steps long are k =
    known_step es n (length m.homes + length (directories_made ops)) (m.files + length (owners_made ops)) (op_at ops k) (step_at steps k)
    long
    (directories_below version m ops legal homes k) (files_below version m ops legal k) (step_is es ops steps are k)
