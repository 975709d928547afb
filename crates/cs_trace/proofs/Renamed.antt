-- What renames and the other lines of operations are, by what was found.
use Rattle.std.proofs.Common.{◌≡◌, ℕ, ◌||◌, ◌&&◌, Bool, true, false, Option, None, Some, Result, Ok, Err, List, refl, ap, ◌∙◌, length}
use Rattle.std.specs.Prelude.{if◌then◌else◌, nat_lt}
use Rattle.cs_entries.specs.declared.entry.DirEntry.{DirEntry}
use Rattle.cs_entries.specs.declared.node.FileKind.{FileKind}
use Rattle.cs_entries.specs.declared.node.FileKind.TheVariants.{Regular, Symlink}
use Rattle.cs_entries.specs.declared.node.Node.{Node}
use Rattle.cs_entries.specs.declared.node.Node.TheVariants.{Directory, File}
use Rattle.cs_names.specs.Paths.{path_eq}
use Rattle.cs_start.specs.Below.{is_below}
use Rattle.cs_tree_model.specs.Tree.{Path, parent_path}
use Rattle.cs_trace.specs.Judging.{and_then, covered_by, emptied_by, entry_at, entry_below, fdatasync, file_at, fsync, fsync_range}
use Rattle.cs_trace.specs.Judging.{has_too_many_names, is_path_of, leaf_by, moved, node_at, parent_at, rename_directory, rename_file}
use Rattle.cs_trace.specs.Judging.{rmdir, under_directory, under_file, unless_too_large, unlink, unmoved}
use Rattle.cs_trace.specs.Kept.{Freely, parent_number}
use Rattle.cs_trace.specs.Outcomes.{Fails, Gives}
use Rattle.cs_trace.specs.Resolving.{covers_at, covers_by, synced_file_at, unmoved_within}
use Rattle.cs_trace.specs.State.{State}
use Rattle.cs_trace.specs.declared.fault.TraceFaultKind.{TraceFaultKind}
use Rattle.cs_trace.specs.declared.fault.TraceFaultKind.TheVariants.{BadName}
use Rattle.cs_trace.specs.declared.operation.Covers.{Covers}
use Rattle.cs_trace.specs.declared.operation.Covers.TheVariants as covers
use Rattle.cs_trace.specs.declared.operation.Operation.{Operation}
use Rattle.cs_trace.specs.declared.operation.Operation.TheVariants as operation
use Rattle.cs_trace.proofs.Entering.{covered, last, parent_found, parent_refused}

module _ (s : State) (p q : Path) where
  -- ---- of a file

  module _ (kind : FileKind) (file : ℕ) where
    abbrev rest : DirEntry → Option Node → Result Operation TraceFaultKind
    rest b old =
        if is_path_of file old then unless_too_large (has_too_many_names p || has_too_many_names q) (unmoved b (File kind file))
        else moved s p b (File kind file) old

    pub file_refused : (fault : TraceFaultKind) → parent_number s.system.entries q ≡ Err fault → rename_file s p q kind file ≡ Err fault
    file_refused fault is = ap (λ r. and_then r (λ b. and_then (under_file (node_at s q)) (rest b))) (parent_refused s q fault is)

    pub file_over : (d : ℕ) (fault : TraceFaultKind) → parent_number s.system.entries q ≡ Ok d → under_file (node_at s q) ≡ Err fault
        → rename_file s p q kind file ≡ Err fault
    file_over d fault is under = λ i. and_then (parent_found s q d is i) (λ b. and_then (under i) (rest b))

    module _ (d : ℕ) (old : Option Node) (is : parent_number s.system.entries q ≡ Ok d) (under : under_file (node_at s q) ≡ Ok old) where
      pub file_unmoved : is_path_of file old ≡ true
          → rename_file s p q kind file ≡ unmoved_within (length p) (entry_below d q) (File kind file)
      file_unmoved same = ap (λ r. and_then r (λ b. and_then (under_file (node_at s q)) (rest b))) (parent_found s q d is)
          ∙ ap (λ r. and_then r (rest (entry_below d q))) under
          ∙ ap (λ t. if t then unless_too_large (has_too_many_names p || has_too_many_names q) (unmoved (entry_below d q) (File kind file))
          else moved s p (entry_below d q) (File kind file) old) same

      pub file_moved : is_path_of file old ≡ false → rename_file s p q kind file ≡ moved s p (entry_below d q) (File kind file) old
      file_moved apart = ap (λ r. and_then r (λ b. and_then (under_file (node_at s q)) (rest b))) (parent_found s q d is)
          ∙ ap (λ r. and_then r (rest (entry_below d q))) under
          ∙ ap (λ t. if t then unless_too_large (has_too_many_names p || has_too_many_names q) (unmoved (entry_below d q) (File kind file))
          else moved s p (entry_below d q) (File kind file) old) apart

  -- ---- of a directory

  module _ (number : ℕ) where
    abbrev still : DirEntry → Result Operation TraceFaultKind
    still b =
        if path_eq p q then unless_too_large (has_too_many_names q) (unmoved b (Directory number))
        else and_then (under_directory s.system.entries (node_at s q)) (moved s p b (Directory number))

    pub directory_refused : (fault : TraceFaultKind) → parent_number s.system.entries q ≡ Err fault
        → rename_directory s p q number ≡ Err fault
    directory_refused fault is =
        ap (λ r. and_then r (λ b. if is_below p q then Err BadName else still b)) (parent_refused s q fault is)

    module _ (d : ℕ) (is : parent_number s.system.entries q ≡ Ok d) where
      abbrev b : DirEntry
      b = entry_below d q

      found : rename_directory s p q number ≡ (if is_below p q then Err BadName else still b)
      found = ap (λ r. and_then r (λ b. if is_below p q then Err BadName else still b)) (parent_found s q d is)

      pub directory_below : is_below p q ≡ true → rename_directory s p q number ≡ Err BadName
      directory_below below = found ∙ ap (λ t. if t then Err BadName else still b) below

      pub directory_unmoved : is_below p q ≡ false → path_eq p q ≡ true
          → rename_directory s p q number ≡ unmoved_within 0 b (Directory number)
      directory_unmoved beside same =
          found ∙ ap (λ t. if t then Err BadName else still b) beside
          ∙ ap (λ t. if t then unless_too_large (has_too_many_names q) (unmoved b (Directory number))
          else and_then (under_directory s.system.entries (node_at s q)) (moved s p b (Directory number))) same

      apart : is_below p q ≡ false → path_eq p q ≡ false
          → rename_directory s p q number ≡ and_then (under_directory s.system.entries (node_at s q)) (moved s p b (Directory number))
      apart beside other =
          found ∙ ap (λ t. if t then Err BadName else still b) beside
          ∙ ap (λ t. if t then unless_too_large (has_too_many_names q) (unmoved b (Directory number))
          else and_then (under_directory s.system.entries (node_at s q)) (moved s p b (Directory number))) other

      pub directory_over : (fault : TraceFaultKind) → is_below p q ≡ false → path_eq p q ≡ false
          → under_directory s.system.entries (node_at s q) ≡ Err fault → rename_directory s p q number ≡ Err fault
      directory_over fault beside other under = apart beside other ∙ ap (λ r. and_then r (moved s p b (Directory number))) under

      pub directory_moved : (old : Option Node) → is_below p q ≡ false → path_eq p q ≡ false
          → under_directory s.system.entries (node_at s q) ≡ Ok old → rename_directory s p q number ≡ moved s p b (Directory number) old
      directory_moved old beside other under = apart beside other ∙ ap (λ r. and_then r (moved s p b (Directory number))) under

-- ---- syncs

module _ (s : State) (p : Path) where
  covered_at : fsync s p ≡ and_then (and_then (covers_at s p) (λ c. Ok (operation.Sync c))) (unless_too_large (has_too_many_names p))
  covered_at = ap (λ r. and_then r (unless_too_large (has_too_many_names p))) (covered (node_at s p) p)

  pub fsync_fails : (kind : TraceFaultKind) → covers_at s p ≡ Err kind → fsync s p ≡ Err kind
  fsync_fails kind is =
      covered_at ∙ ap (λ r. and_then (and_then r (λ c. Ok (operation.Sync c))) (unless_too_large (has_too_many_names p))) is

  pub fsync_made : (c : Covers) → covers_at s p ≡ Ok c → fsync s p ≡ unless_too_large (has_too_many_names p) (operation.Sync c)
  fsync_made c is =
      covered_at ∙ ap (λ r. and_then (and_then r (λ c. Ok (operation.Sync c))) (unless_too_large (has_too_many_names p))) is

  synced : {B : Type 0} (f : ℕ → B) (r : Result ℕ TraceFaultKind) → Gives (synced_file_at s p) r Freely
      → Gives (and_then (file_at s p) (λ file. unless_too_large (has_too_many_names p) (f file))) (and_then r (λ x. Ok (f x))) Freely
  synced f (Ok file) is =
      last (file_at s p) (has_too_many_names p) f ∙ ap (λ r. and_then r (λ x. Ok (f x))) is
  synced f (Err kind) fails = record {
    fault = λ other. last (file_at s p) (has_too_many_names p) f ∙ ap (λ r. and_then r (λ x. Ok (f x))) (fails.fault other);
    memory = λ _. tt;
  }

  pub fdatasync_made : (file : ℕ) → synced_file_at s p ≡ Ok file → fdatasync s p ≡ Ok (operation.Sync (covers.Data file))
  fdatasync_made file is = synced (λ n. operation.Sync (covers.Data n)) (Ok file) is

  pub fdatasync_fails : (kind : TraceFaultKind) → Fails (synced_file_at s p) kind Freely → Fails (fdatasync s p) kind Freely
  fdatasync_fails kind fails = synced (λ n. operation.Sync (covers.Data n)) (Err kind) fails

  pub fsync_range_made : (offset count file : ℕ) → synced_file_at s p ≡ Ok file
      → fsync_range s p offset count ≡ Ok (operation.Sync (covers.Range file offset count))
  fsync_range_made offset count file is = synced (λ n. operation.Sync (covers.Range n offset count)) (Ok file) is

  pub fsync_range_fails : (offset count : ℕ) (kind : TraceFaultKind) → Fails (synced_file_at s p) kind Freely
      → Fails (fsync_range s p offset count) kind Freely
  fsync_range_fails offset count kind fails = synced (λ n. operation.Sync (covers.Range n offset count)) (Err kind) fails
