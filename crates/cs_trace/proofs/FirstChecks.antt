-- The fault of a line is that of the first of its checks that fails.
use Rattle.std.proofs.Common.{◌≡◌, ℕ, suc, ◌+◌, ◌-◌, ◌<◌, ◌==◌, ◌||◌, ◌&&◌, not, Bool, true, false, List, [], ◌∷◌, ◌++◌, length, take, inl, inr}
use Rattle.std.proofs.Common.{Option, Some, None, Result, Ok, Err, refl, sym, ap, ◌∙◌, arith, subst}
use Rattle.std.specs.FinMap.{get}
use Rattle.std.specs.List.{slice_index_or}
use Rattle.std.specs.Option.{option_map, option_map_or}
use Rattle.std.specs.Result.{result_err}
use Rattle.std.specs.Prelude.{if◌then◌else◌, is_none, nat_le, nat_lt}
use Rattle.cs_entries.specs.Tables.{Table, has_entries}
use Rattle.cs_entries.specs.declared.entry.DirEntry.{DirEntry}
use Rattle.cs_entries.specs.declared.node.FileKind.{FileKind}
use Rattle.cs_entries.specs.declared.node.FileKind.TheVariants.{Regular, Symlink}
use Rattle.cs_entries.specs.declared.node.Node.{Node}
use Rattle.cs_entries.specs.declared.node.Node.TheVariants.{Directory, File}
use Rattle.cs_names.specs.Paths.{path_eq}
use Rattle.cs_names.specs.declared.limits.TheConstants.{SAY_BYTES, TREE_RECORDS}
use Rattle.cs_start.proofs.Paths.{same_path}
use Rattle.cs_start.specs.Below.{is_below}
use Rattle.cs_start.specs.Entries.{size_of}
use Rattle.cs_start.specs.Names.{entry_path_of, path_of}
use Rattle.cs_start.specs.declared.entry.StartEntry.{StartEntry}
use Rattle.cs_tree_model.specs.Tree.{Path, parent_path}
use Rattle.cs_trace.specs.Checks as checks
use Rattle.cs_trace.specs.Checks.{Check, IsFaultOf, above_checks, emptied_checks, file_checks, first_checks, first_fault, later_checks}
use Rattle.cs_trace.specs.Checks.{leaf_checks, limit, line_checks, linked_checks, made_checks, move_limit, moved_checks, moved_checks_by}
use Rattle.cs_trace.specs.Checks.{moved_directory_checks, moved_file_checks, new_checks, on_path, operation_checks, set_checks_by}
use Rattle.cs_trace.specs.Checks.{set_checks_of, start_checks, synced_checks, text_checks, written_checks}
use Rattle.cs_trace.specs.Judging.{and_then, covered_by, directory_number, emptied_by, ends_above, entry_below, file_by, free_at, has_too_many_names, held_by}
use Rattle.cs_trace.specs.Judging.{is_path_of, is_too_much, leaf_by, may_set, moved, node_at, or_missing, parent_by, rename_by}
use Rattle.cs_trace.specs.Judging.{rename_directory, rename_file, resolve, rights_after, set_attr_of, under_directory, under_file, unless_too_large, vacant_by}
use Rattle.cs_trace.specs.Judging.{unmoved, with_path}
use Rattle.cs_trace.specs.Limits.{most_bytes}
use Rattle.cs_trace.specs.Names.{are_user_names, new_path_of, set_path_of}
use Rattle.cs_trace.specs.State.{State, empty_state}
use Rattle.cs_trace.specs.States.{after_header, after_operation, at_line, bytes_of, first_step, later_step, line_step, start_file_at}
use Rattle.cs_trace.specs.States.{start_file_by, start_link_step, start_step, state_from, state_in, step}
use Rattle.cs_trace.specs.declared.fault.TraceFault.{TraceFault}
use Rattle.cs_trace.specs.declared.fault.TraceFaultKind.{TraceFaultKind}
use Rattle.cs_trace.specs.declared.fault.TraceFaultKind.TheVariants.{Syntax, UnknownOp, BadName, Missing, NotDir, NotEmpty, NotFile}
use Rattle.cs_trace.specs.declared.operation.Operation.{Operation}
use Rattle.cs_trace.specs.declared.operation.Operation.TheVariants as operation
use Rattle.cs_trace_lines.specs.Lines as line
use Rattle.cs_trace_lines.specs.Lines.{Change, Line, OperationLine, line_in}
use Rattle.cs_trace_lines.specs.Values.{is_blank}
use Rattle.cs_trace_lines.specs.Versions.{is_fourth}

-- ---- one check after another

-- the first check that fails gives the fault
abbrev pub Tells : {A : Type 0} → List Check → Result A TraceFaultKind → Type 0
Tells cs r = result_err r ≡ first_fault cs

or_false : (b : Bool) → b || false ≡ b
or_false true = refl
or_false false = refl

and_true : (b : Bool) → b && true ≡ b
and_true true = refl
and_true false = refl

and_false : (b : Bool) → b && false ≡ false
and_false true = refl
and_false false = refl

module _ {A : Type 0} where
  tells_limit : (large : Bool) (x : A) → Tells (limit large) (unless_too_large large x)
  tells_limit true x = refl
  tells_limit false x = refl

  tells_same : (a b : Bool) (x : A) → a ≡ b → Tells (limit a) (unless_too_large b x)
  tells_same a b x same = tells_limit b x ∙ ap (λ c. first_fault (limit c)) (sym same)

  tells_name : (path : Option Path) (f : Path → Result A TraceFaultKind) (cs : Path → List Check) → ((p : Path) → Tells (cs p) (f p))
      → Tells (on_path path cs) (with_path path f)
  tells_name None f cs each = refl
  tells_name (Some p) f cs each = each p

  tells_above : (above : Option Node) (p : Path) (f : DirEntry → Result A TraceFaultKind) (cs : List Check)
      → ((d : ℕ) → above ≡ Some (Directory d) → Tells cs (f (entry_below d p)))
      → Tells (above_checks above ++ cs) (and_then (and_then (parent_by above) (λ d. Ok (entry_below d p))) f)
  tells_above None p f cs each = refl
  tells_above (Some (File kind file)) p f cs each = refl
  tells_above (Some (Directory d)) p f cs each = each d refl

  tells_new : (above here : Option Node) (p : Path) (f : DirEntry → Result A TraceFaultKind) (cs : List Check)
      → ((e : DirEntry) → Tells cs (f e))
      → Tells (new_checks above here ++ cs)
      (and_then (and_then (and_then (parent_by above) (λ d. Ok (entry_below d p))) (λ e. and_then (vacant_by here) (λ _. Ok e))) f)
  tells_new None here p f cs each = refl
  tells_new (Some (File kind file)) here p f cs each = refl
  tells_new (Some (Directory d)) (Some node) p f cs each = refl
  tells_new (Some (Directory d)) None p f cs each = each (entry_below d p)

  tells_file : (here : Option Node) (f : ℕ → Result A TraceFaultKind) (cs : List Check) → ((file : ℕ) → Tells cs (f file))
      → Tells (file_checks here ++ cs) (and_then (file_by here) f)
  tells_file None f cs each = refl
  tells_file (Some (Directory d)) f cs each = refl
  tells_file (Some (File Symlink file)) f cs each = refl
  tells_file (Some (File Regular file)) f cs each = each file

  tells_leaf : (here : Option Node) (f : FileKind × ℕ → Result A TraceFaultKind) (cs : List Check)
      → ((leaf : FileKind × ℕ) → Tells cs (f leaf)) → Tells (leaf_checks here ++ cs) (and_then (leaf_by here) f)
  tells_leaf None f cs each = refl
  tells_leaf (Some (Directory d)) f cs each = refl
  tells_leaf (Some (File kind file)) f cs each = each (kind, file)

  tells_filled : (filled : Bool) (d : ℕ) (f : ℕ → Result A TraceFaultKind) (cs : List Check) → Tells cs (f d)
      → Tells ((filled, NotEmpty) ∷ cs) (and_then (if filled then Err NotEmpty else Ok d) f)
  tells_filled true d f cs rest = refl
  tells_filled false d f cs rest = rest

  tells_emptied : (s : State) (here : Option Node) (f : ℕ → Result A TraceFaultKind) (cs : List Check)
      → ((d : ℕ) → Tells cs (f d)) → Tells (emptied_checks s here ++ cs) (and_then (emptied_by s.system.entries here) f)
  tells_emptied s None f cs each = refl
  tells_emptied s (Some (File kind file)) f cs each = refl
  tells_emptied s (Some (Directory d)) f cs each = tells_filled (has_entries s.system.entries d) d f cs (each d)

  tells_start_by : (e : StartEntry) (node : Node) (f : StartEntry × ℕ → Result A TraceFaultKind) (cs : List Check)
      → ((x : StartEntry × ℕ) → Tells cs (f x))
      → Tells (file_checks (Some node) ++ cs) (and_then (start_file_by e node) f)
  tells_start_by e (Directory d) f cs each = refl
  tells_start_by e (File Symlink file) f cs each = refl
  tells_start_by e (File Regular file) f cs each = each (e, file)

  tells_start_file : (o : Option StartEntry) (f : StartEntry × ℕ → Result A TraceFaultKind) (cs : List Check)
      → ((x : StartEntry × ℕ) → Tells cs (f x))
      → Tells (file_checks (option_map (λ e. e.node) o) ++ cs) (and_then (start_file_at o) f)
  tells_start_file None f cs each = refl
  tells_start_file (Some e) f cs each = tells_start_by e e.node f cs each

  tells_either : (t : Bool) (kind : TraceFaultKind) (r : Result A TraceFaultKind) (cs : List Check) → Tells cs r
      → Tells (if t then cs else (true, kind) ∷ []) (if t then r else Err kind)
  tells_either true kind r cs rest = rest
  tells_either false kind r cs rest = refl

  tells_found : {X : Type 0} (o : Option X) (f : X → Result A TraceFaultKind) (cs : List Check) → ((x : X) → Tells cs (f x))
      → Tells ((is_none o, Missing) ∷ cs) (and_then (or_missing o) f)
  tells_found None f cs each = refl
  tells_found (Some x) f cs each = each x

-- a value that is made of another
same_err : {A B : Type 0} (r : Result A TraceFaultKind) (f : A → B) → result_err (and_then r (λ x. Ok (f x))) ≡ result_err r
same_err (Ok x) f = refl
same_err (Err kind) f = refl

-- ---- renames

module _ (s : State) (p q : Path) where
  abbrev long : Bool
  long = has_too_many_names p || has_too_many_names q

  -- a rename that does nothing makes no record
  nothing_made : checks.is_too_much_to_move s true p q ≡ false
  nothing_made = λ i. and_false (is_fourth s.version) i && checks.are_apart (node_at s (parent_path p)) (node_at s (parent_path q))
      && nat_le TREE_RECORDS s.made

  still_limit : long || checks.is_too_much_to_move s true p q ≡ long
  still_limit = ap (λ b. long || b) nothing_made ∙ or_false long

  moved_limit : (d : ℕ) → node_at s (parent_path q) ≡ Some (Directory d)
      → long || checks.is_too_much_to_move s false p q
      ≡ long || (is_fourth s.version && not (directory_number (node_at s (parent_path p)) == d) && nat_le TREE_RECORDS s.made)
  moved_limit d above = λ i. long || (and_true (is_fourth s.version) i
      && not (directory_number (node_at s (parent_path p)) == directory_number (above i)) && nat_le TREE_RECORDS s.made)

  tells_moved : (d : ℕ) → node_at s (parent_path q) ≡ Some (Directory d) → (node : Node) (old : Option Node)
      → Tells (move_limit s false p q) (moved s p (entry_below d q) node old)
  tells_moved d above node old = tells_same _ _ _ (moved_limit d above)

  file_by_path : (d : ℕ) → node_at s (parent_path q) ≡ Some (Directory d) → (kind : FileKind) (file : ℕ) (same : Bool) (old : Option Node)
      → Tells (move_limit s same p q)
      (if same then unless_too_large long (unmoved (entry_below d q) (File kind file)) else moved s p (entry_below d q) (File kind file)
      old)
  file_by_path d above kind file true old = tells_same _ _ _ still_limit
  file_by_path d above kind file false old = tells_moved d above (File kind file) old

  file_moved : (d : ℕ) → node_at s (parent_path q) ≡ Some (Directory d) → (kind : FileKind) (file : ℕ) (here : Option Node)
      → Tells ((checks.is_directory here, NotFile) ∷ move_limit s (is_path_of file here) p q)
      (and_then (under_file here) (λ old.
      if is_path_of file old then unless_too_large long (unmoved (entry_below d q) (File kind file))
      else moved s p (entry_below d q) (File kind file) old))
  file_moved d above kind file None = tells_moved d above (File kind file) None
  file_moved d above kind file (Some (Directory c)) = refl
  file_moved d above kind file (Some (File other n)) = file_by_path d above kind file (n == file) (Some (File other n))

  tells_rename_file : (kind : FileKind) (file : ℕ) → Tells (moved_file_checks s file p q) (rename_file s p q kind file)
  tells_rename_file kind file =
      tells_above (node_at s (parent_path q)) q _ ((checks.is_directory (node_at s q), NotFile) ∷ move_limit s
      (is_path_of file (node_at s q)) p q)
      (λ d above. file_moved d above kind file (node_at s q))

  -- a directory is moved onto nothing or an empty one
  under_filled : (d c : ℕ) → node_at s (parent_path q) ≡ Some (Directory d) → (number : ℕ) (filled : Bool)
      → Tells ((filled, NotEmpty) ∷ move_limit s false p q)
      (and_then (if filled then Err NotEmpty else Ok (Some (Directory c))) (moved s p (entry_below d q) (Directory number)))
  under_filled d c above number true = refl
  under_filled d c above number false = tells_moved d above (Directory number) (Some (Directory c))

  directory_apart : (d : ℕ) → node_at s (parent_path q) ≡ Some (Directory d) → (number : ℕ) (here : Option Node)
      → Tells ((checks.is_leaf here, NotDir) ∷ (checks.is_filled s here, NotEmpty) ∷ move_limit s false p q)
      (and_then (under_directory s.system.entries here) (moved s p (entry_below d q) (Directory number)))
  directory_apart d above number None = tells_moved d above (Directory number) None
  directory_apart d above number (Some (File kind file)) = refl
  directory_apart d above number (Some (Directory c)) = under_filled d c above number (has_entries s.system.entries c)

  directory_still : (d number : ℕ) → node_at s p ≡ Some (Directory number) → p ≡ q
      → Tells ((checks.is_leaf (node_at s q), NotDir) ∷ (false, NotEmpty) ∷ move_limit s true p q)
      (unless_too_large (has_too_many_names q) (unmoved (entry_below d q) (Directory number)))
  directory_still d number at same =
      tells_same _ _ _ (still_limit ∙ ap (λ r. has_too_many_names r || has_too_many_names q) same ∙ or_itself (has_too_many_names q))
      ∙ ap (λ b. first_fault ((b, NotDir) ∷ (false, NotEmpty) ∷ move_limit s true p q)) (sym no_leaf)
    where
      or_itself : (b : Bool) → b || b ≡ b
      or_itself true = refl
      or_itself false = refl

      no_leaf : checks.is_leaf (node_at s q) ≡ false
      no_leaf = ap checks.is_leaf (ap (node_at s) (sym same) ∙ at)

  directory_by : (d number : ℕ) → node_at s p ≡ Some (Directory number) → node_at s (parent_path q) ≡ Some (Directory d)
      → (same : Bool) → path_eq p q ≡ same
      → Tells ((checks.is_leaf (node_at s q), NotDir) ∷ (not same && checks.is_filled s (node_at s q), NotEmpty) ∷ move_limit s same p q)
      (if same then unless_too_large (has_too_many_names q) (unmoved (entry_below d q) (Directory number))
      else and_then (under_directory s.system.entries (node_at s q)) (moved s p (entry_below d q) (Directory number)))
  directory_by d number at above true is = directory_still d number at (same_path p q is)
  directory_by d number at above false is = directory_apart d above number (node_at s q)

  below_by : (below : Bool) (r : Result Operation TraceFaultKind) (cs : List Check) → Tells cs r
      → Tells ((below, BadName) ∷ cs) (if below then Err BadName else r)
  below_by true r cs rest = refl
  below_by false r cs rest = rest

  tells_rename_directory : (number : ℕ) → node_at s p ≡ Some (Directory number)
      → Tells (moved_directory_checks s p q) (rename_directory s p q number)
  tells_rename_directory number at =
      tells_above (node_at s (parent_path q)) q _
      ((is_below p q, BadName) ∷ (checks.is_leaf (node_at s q), NotDir)
      ∷ (not (path_eq p q) && checks.is_filled s (node_at s q), NotEmpty) ∷ move_limit s (path_eq p q) p q)
      (λ d above. below_by (is_below p q) _
      ((checks.is_leaf (node_at s q), NotDir) ∷ (not (path_eq p q) && checks.is_filled s (node_at s q), NotEmpty)
      ∷ move_limit s (path_eq p q) p q)
      (directory_by d number at above (path_eq p q) refl))

  tells_rename_by : (here : Option Node) → node_at s p ≡ here → Tells (moved_checks_by s p q here) (rename_by s p q here)
  tells_rename_by None at = refl
  tells_rename_by (Some (File kind file)) at = tells_rename_file kind file
  tells_rename_by (Some (Directory number)) at =
      tells_either (is_fourth s.version) NotFile _ _ (tells_rename_directory number at)

-- ---- operations

module _ (s : State) where
  tells_made : {A : Type 0} (p : Path) (f : DirEntry → A)
      → Tells (made_checks s p) (and_then (free_at s p) (λ e. unless_too_large (is_too_much s.made p) (f e)))
  tells_made p f =
      tells_new (node_at s (parent_path p)) (node_at s p) p _ (limit (is_too_much s.made p)) (λ e. tells_limit (is_too_much s.made p) (f e))

  tells_set_by : (p : Path) (change : Change) (node : Node) (may : Bool)
      → Tells ((not may, NotFile) ∷ (is_none (held_by s.attributes p node), Missing) ∷ limit (has_too_many_names p))
      (if may then and_then (or_missing (held_by s.attributes p node)) (λ h.
      unless_too_large (has_too_many_names p) (operation.SetAttr h.0 h.1 (rights_after change h.1))) else Err NotFile)
  tells_set_by p change node true =
      tells_found (held_by s.attributes p node) _ (limit (has_too_many_names p)) (λ h. tells_limit (has_too_many_names p) _)
  tells_set_by p change node false = refl

  tells_set : (p : Path) (change : Change) (here : Option Node)
      → Tells (set_checks_by s p change here) (and_then (or_missing here) (set_attr_of s p change))
  tells_set p change None = refl
  tells_set p change (Some node) = tells_set_by p change node (may_set change node)

  tells_covered : (p : Path) (here : Option Node)
      → Tells ((is_none here, Missing) ∷ (checks.is_symlink here, NotFile) ∷ limit (has_too_many_names p))
      (and_then (covered_by here p) (unless_too_large (has_too_many_names p)))
  tells_covered p None = refl
  tells_covered p (Some (Directory d)) = tells_limit (has_too_many_names p) _
  tells_covered p (Some (File Symlink file)) = refl
  tells_covered p (Some (File Regular file)) = tells_limit (has_too_many_names p) _

  tells_written : {A : Type 0} (large : Bool) (p : Path) (f : ℕ → A)
      → Tells (written_checks s large p) (and_then (file_by (node_at s p))
      (λ file. unless_too_large (has_too_many_names p || large) (f file)))
  tells_written large p f =
      tells_file (node_at s p) _ (limit (has_too_many_names p || large)) (λ file. tells_limit (has_too_many_names p || large) (f file))

  tells_synced : {A : Type 0} (p : Path) (f : ℕ → A)
      → Tells (written_checks s false p) (and_then (file_by (node_at s p)) (λ file. unless_too_large (has_too_many_names p) (f file)))
  tells_synced p f =
      tells_file (node_at s p) _ (limit (has_too_many_names p || false))
      (λ file. tells_same _ _ (f file) (or_false (has_too_many_names p)))

  resolve_tells : (l : OperationLine) → Tells (operation_checks s l) (resolve s l)
  resolve_tells (line.Creat text claims) = tells_name (new_path_of text claims) _ (made_checks s) (λ p. tells_made p _)
  resolve_tells (line.Mkdir text claims) = tells_name (new_path_of text claims) _ (made_checks s) (λ p. tells_made p _)
  resolve_tells (line.Symlink text claims target) = tells_name (new_path_of text claims) _ (made_checks s) (λ p. tells_made p _)
  resolve_tells (line.Link from to) =
      tells_name (entry_path_of from) _ (λ p. on_path (entry_path_of to) (linked_checks s p (node_at s p)))
      (λ p. tells_name (entry_path_of to) _ (linked_checks s p (node_at s p))
      (λ q. tells_file (node_at s p) _
      (new_checks (node_at s (parent_path q)) (node_at s q) ++ limit (has_too_many_names p || is_too_much s.made q))
      (λ _. tells_new (node_at s (parent_path q)) (node_at s q) q _ (limit (has_too_many_names p || is_too_much s.made q))
      (λ e. tells_limit (has_too_many_names p || is_too_much s.made q) _))))
  resolve_tells (line.Unlink text) =
      tells_name (entry_path_of text) _ (λ p. leaf_checks (node_at s p) ++ limit (has_too_many_names p))
      (λ p. tells_leaf (node_at s p) _ (limit (has_too_many_names p)) (λ _. tells_limit (has_too_many_names p) _))
  resolve_tells (line.Rmdir text) =
      tells_name (entry_path_of text) _ (λ p. emptied_checks s (node_at s p) ++ limit (has_too_many_names p))
      (λ p. tells_emptied s (node_at s p) _ (limit (has_too_many_names p)) (λ _. tells_limit (has_too_many_names p) _))
  resolve_tells (line.Rename from to) =
      tells_name (entry_path_of from) _ (λ p. on_path (entry_path_of to) (moved_checks s p))
      (λ p. tells_name (entry_path_of to) _ (moved_checks s p) (λ q. tells_rename_by s p q (node_at s p) refl))
  resolve_tells (line.Write text offset bytes) =
      tells_name (entry_path_of text) _ (written_checks s (ends_above s.version offset bytes))
      (λ p. tells_written (ends_above s.version offset bytes) p _)
  resolve_tells (line.Truncate text size) =
      tells_name (entry_path_of text) _ (written_checks s (nat_lt (most_bytes s.version) size))
      (λ p. tells_written (nat_lt (most_bytes s.version) size) p _)
  resolve_tells (line.SetAttr text change) =
      tells_name (set_path_of text change) _ (λ p. set_checks_by s p change (node_at s p)) (λ p. tells_set p change (node_at s p))
  resolve_tells (line.Fsync text) = tells_name (path_of text) _ (synced_checks s) (λ p. tells_covered p (node_at s p))
  resolve_tells (line.Fdatasync text) = tells_name (entry_path_of text) _ (written_checks s false) (λ p. tells_synced p _)
  resolve_tells (line.FsyncRange text offset count) = tells_name (entry_path_of text) _ (written_checks s false) (λ p. tells_synced p _)
  resolve_tells line.Sync = refl
  resolve_tells (line.Say text) = tells_limit (nat_lt SAY_BYTES (length text)) _

-- ---- a line

names_tell : (t : Bool) (s : State) → Tells ((not t, BadName) ∷ []) (if t then Ok s else Err BadName)
names_tell true s = refl
names_tell false s = refl

first_tells : (s : State) (l : Line) → Tells (first_checks l) (first_step s l)
first_tells s (line.Header version claims) = names_tell (are_user_names claims) (after_header s version claims)
first_tells s (line.Start l) = refl
first_tells s (line.StartLink path from) = refl
first_tells s line.UnknownStart = refl
first_tells s (line.Operation l) = refl
first_tells s line.UnknownOperation = refl

start_tells : (t : Bool) (r : Result State TraceFaultKind) (cs : List Check) → Tells cs r
    → Tells ((not t, Syntax) ∷ cs) (if t then r else Err Syntax)
start_tells true r cs rest = rest
start_tells false r cs rest = refl

later_tells : (s : State) (l : Line) → Tells (later_checks s l) (later_step s l)
later_tells s (line.Header version claims) = refl
later_tells s (line.Start l) =
    (let large = λ (p : Path). is_too_much s.made p || nat_lt (most_bytes s.version) (size_of (bytes_of l.content)) in
    start_tells (length s.operations == 0) (start_step s l) (on_path (new_path_of l.path l.claims) (start_checks s l.content))
    (tells_name (new_path_of l.path l.claims) _ (start_checks s l.content)
    (λ p. tells_new (node_at s (parent_path p)) (node_at s p) p _ (limit (large p)) (λ _. tells_limit (large p) _))))
later_tells s (line.StartLink path from) =
    start_tells (length s.operations == 0) (start_link_step s path from)
    (on_path (entry_path_of path) (λ q. on_path (entry_path_of from)
    (λ p. linked_checks s p (option_map (λ (e : StartEntry). e.node) (get s.start p)) q)))
    (tells_name (entry_path_of path) _ (λ q. on_path (entry_path_of from)
    (λ p. linked_checks s p (option_map (λ (e : StartEntry). e.node) (get s.start p)) q))
    (λ q. tells_name (entry_path_of from) _ (λ p. linked_checks s p (option_map (λ (e : StartEntry). e.node) (get s.start p)) q)
    (λ p. tells_start_file (get s.start p) _
    (new_checks (node_at s (parent_path q)) (node_at s q) ++ limit (has_too_many_names p || is_too_much s.made q))
    (λ e. tells_new (node_at s (parent_path q)) (node_at s q) q _ (limit (has_too_many_names p || is_too_much s.made q))
    (λ _. tells_limit (has_too_many_names p || is_too_much s.made q) _)))))
later_tells s line.UnknownStart = start_tells (length s.operations == 0) (Err UnknownOp) ((true, UnknownOp) ∷ []) refl
later_tells s (line.Operation l) = same_err (resolve s l) (after_operation s) ∙ resolve_tells s l
later_tells s line.UnknownOperation = refl

either_tells : (t : Bool) (s : State) (l : Line)
    → Tells (if t then first_checks l else later_checks s l) (if t then first_step s l else later_step s l)
either_tells true s l = first_tells s l
either_tells false s l = later_tells s l

line_tells : (s : State) (l : Option Line) → Tells (line_checks s l) (option_map_or (line_step s) l (Err Syntax))
line_tells s None = refl
line_tells s (Some l) = either_tells (s.made == 0) s l

blank_tells : (t : Bool) (s : State) (l : Option Line)
    → Tells (if t then [] else line_checks s l) (if t then Ok s else option_map_or (line_step s) l (Err Syntax))
blank_tells true s l = refl
blank_tells false s l = line_tells s l

pub step_tells : (s : State) (text : List ℕ) → Tells (text_checks s text) (step s text)
step_tells s text = blank_tells (is_blank text) s (line_in s.version text)
