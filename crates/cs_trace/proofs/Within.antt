-- An accepted operation is within the limits of all versions.
use Rattle.std.proofs.Common.{◌≡◌, ℕ, ◌+◌, ◌<◌, ◌≤◌, ◌||◌, ◌&&◌, not, ◌==◌, Bool, true, false, List, length}
use Rattle.std.proofs.Common.{Option, None, Some, Result, Ok, Err, refl, arith}
use Rattle.std.proofs.lemmas.Bool.{or_parts}
use Rattle.std.proofs.lemmas.Bool.Decides.{nat_tests}
use Rattle.std.specs.Prelude.{if◌then◌else◌, nat_le, nat_lt}
use Rattle.cs_entries.specs.DirEntries.{entry_of}
use Rattle.cs_entries.specs.declared.entry.DirEntry.{DirEntry}
use Rattle.cs_entries.specs.declared.node.FileKind.{FileKind}
use Rattle.cs_entries.specs.declared.node.FileKind.TheVariants.{Regular, Symlink}
use Rattle.cs_entries.specs.declared.node.Node.{Node}
use Rattle.cs_entries.specs.declared.node.Node.TheVariants.{Directory, File}
use Rattle.cs_names.specs.Paths.{path_eq}
use Rattle.cs_names.specs.declared.limits.TheConstants.{SAY_BYTES, TREE_RECORDS}
use Rattle.cs_start.specs.Below.{is_below}
use Rattle.cs_start.specs.Names.{entry_path_of, path_of}
use Rattle.cs_tree_model.specs.Tree.{Path}
use Rattle.cs_trace.specs.Judging.{and_then, covered_by, emptied_by, ends_above, entry_at, file_at, free_at, has_too_many_names, held_by}
use Rattle.cs_trace.specs.Judging.{is_path_of, is_too_much, is_too_much_to_move, leaf_by, may_set, moved, node_at, or_bad_name, or_missing}
use Rattle.cs_trace.specs.Judging.{parent_at, rename_by, rename_directory, rename_file, resolve, rights_after, set_attr_of, size_in}
use Rattle.cs_trace.specs.Judging.{under_directory, under_file, unless_too_large, unmoved}
use Rattle.cs_trace.specs.Kept.{IsWithin}
use Rattle.cs_trace.specs.Limits.{most_bytes}
use Rattle.cs_trace.specs.Names.{new_path_of, rights_of, set_path_of}
use Rattle.cs_trace.specs.Operations.{number_for}
use Rattle.cs_trace.specs.State.{State}
use Rattle.cs_trace.specs.declared.fault.TraceFaultKind.{TraceFaultKind}
use Rattle.cs_trace.specs.declared.fault.TraceFaultKind.TheVariants.{BadName, NotFile}
use Rattle.cs_trace.specs.declared.limits.TheConstants.{LARGE_FILE_BYTES}
use Rattle.cs_trace.specs.declared.operation.Covers.TheVariants as covers
use Rattle.cs_trace.specs.declared.operation.Operation.{Operation}
use Rattle.cs_trace.specs.declared.operation.Operation.TheVariants as op
use Rattle.cs_trace_lines.specs.Lines as line
use Rattle.cs_trace_lines.specs.Lines.{Change, OperationLine}
use Rattle.cs_trace_lines.specs.Versions.{is_fourth}
use Rattle.cs_trace_lines.specs.declared.version.Version.{Version}
use Rattle.cs_trace_lines.specs.declared.version.Version.TheVariants.{First, Second, Third, Fourth}
use Rattle.cs_trace.proofs.Accepted.{limit_by, then_by, value_by}

if_any : {B : Type 0} (t : Bool) (a b : Result B TraceFaultKind) (P : B → Type 0) → ((x : B) → a ≡ Ok x → P x)
    → ((x : B) → b ≡ Ok x → P x) → (x : B) → (if t then a else b) ≡ Ok x → P x
if_any true a b P f g = f
if_any false a b P f g = g

none_by : {B : Type 0} (kind : TraceFaultKind) (P : B → Type 0) (x : B) → (r : Result B TraceFaultKind) → r ≡ Err kind → r ≡ Ok x → P x
none_by kind P x r fails is = absurd (cc)

most_known : (version : Version) → most_bytes version ≤ LARGE_FILE_BYTES
most_known First = omega arith
most_known (Second profile) = omega arith
most_known (Third profile block) = omega arith
most_known (Fourth profile block) = omega arith

ends_within : (most offset : ℕ) (bytes : List ℕ) → most ≤ LARGE_FILE_BYTES
    → nat_lt 0 (length bytes) && nat_lt most (offset + length bytes) ≡ false
    → 0 < length bytes → offset + length bytes ≤ LARGE_FILE_BYTES
ends_within most offset bytes known is some = grind (arith, nat_tests)

module _ (s : State) where
  moved_within : (p : Path) (b : DirEntry) (node : Node) (old : Option Node) (o : Operation) → moved s p b node old ≡ Ok o → IsWithin o
  moved_within p b node old =
      limit_by (has_too_many_names p || has_too_many_names b.path || is_too_much_to_move s (entry_at s p) b)
      (op.Rename (entry_at s p) b node old) IsWithin (λ _. tt)

  file_within : (p q : Path) (kind : FileKind) (file : ℕ) (o : Operation) → rename_file s p q kind file ≡ Ok o → IsWithin o
  file_within p q kind file =
      then_by (parent_at s q) _ IsWithin (λ b _.
      then_by (under_file (node_at s q)) _ IsWithin (λ old _.
      if_any (is_path_of file old)
      (unless_too_large (has_too_many_names p || has_too_many_names q) (unmoved b (File kind file)))
      (moved s p b (File kind file) old) IsWithin
      (limit_by (has_too_many_names p || has_too_many_names q) (unmoved b (File kind file)) IsWithin (λ _. tt))
      (moved_within p b (File kind file) old)))

  directory_within : (p q : Path) (d : ℕ) (o : Operation) → rename_directory s p q d ≡ Ok o → IsWithin o
  directory_within p q d =
      then_by (parent_at s q) _ IsWithin (λ b _.
      if_any (is_below p q) (Err BadName) _ IsWithin (λ o is. none_by BadName IsWithin o (Err BadName) refl is)
      (if_any (path_eq p q) (unless_too_large (has_too_many_names q) (unmoved b (Directory d))) _ IsWithin
      (limit_by (has_too_many_names q) (unmoved b (Directory d)) IsWithin (λ _. tt))
      (then_by (under_directory s.system.entries (node_at s q)) _ IsWithin (λ old _. moved_within p b (Directory d) old))))

  rename_within : (p q : Path) (here : Option Node) (o : Operation) → rename_by s p q here ≡ Ok o → IsWithin o
  rename_within p q None o is = absurd (cc)
  rename_within p q (Some (File kind file)) o is = file_within p q kind file o is
  rename_within p q (Some (Directory d)) o is =
      if_any (is_fourth s.version) (rename_directory s p q d) (Err NotFile) IsWithin (directory_within p q d)
      (λ x no. none_by NotFile IsWithin x (Err NotFile) refl no) o is

  set_within : (p : Path) (change : Change) (node : Node) (o : Operation) → set_attr_of s p change node ≡ Ok o → IsWithin o
  set_within p change node =
      if_any (may_set change node) _ (Err NotFile) IsWithin
      (then_by (or_missing (held_by s.attributes p node)) _ IsWithin (λ h _.
      limit_by (has_too_many_names p) (op.SetAttr h.0 h.1 (rights_after change h.1)) IsWithin (λ _. tt)))
      (λ o is. none_by NotFile IsWithin o (Err NotFile) refl is)

  covered_within : (p : Path) (here : Option Node) (c : Operation) → covered_by here p ≡ Ok c → IsWithin c
  covered_within p None c is = absurd (cc)
  covered_within p (Some (Directory d)) c is = value_by (op.Sync (covers.Directory d p)) IsWithin tt c is
  covered_within p (Some (File Symlink file)) c is = absurd (cc)
  covered_within p (Some (File Regular file)) c is = value_by (op.Sync (covers.File file)) IsWithin tt c is

  pub resolve_within : (l : OperationLine) (o : Operation) → resolve s l ≡ Ok o → IsWithin o
  resolve_within (line.Creat text claims) =
      then_by (or_bad_name (new_path_of text claims)) _ IsWithin (λ p _.
      then_by (free_at s p) _ IsWithin (λ e _.
      limit_by (is_too_much s.made p) (op.Creat e (length s.system.sizes) (rights_of claims)) IsWithin (λ _. tt)))
  resolve_within (line.Mkdir text claims) =
      then_by (or_bad_name (new_path_of text claims)) _ IsWithin (λ p _.
      then_by (free_at s p) _ IsWithin (λ e _.
      limit_by (is_too_much s.made p) (op.Mkdir e (number_for s.version s.system.homes (entry_of e)) (rights_of claims)) IsWithin
      (λ _. tt)))
  resolve_within (line.Symlink text claims target) =
      then_by (or_bad_name (new_path_of text claims)) _ IsWithin (λ p _.
      then_by (free_at s p) _ IsWithin (λ e _.
      limit_by (is_too_much s.made p) (op.Symlink e (length s.system.sizes) (rights_of claims) target) IsWithin (λ _. tt)))
  resolve_within (line.Link from to) =
      then_by (or_bad_name (entry_path_of from)) _ IsWithin (λ p _.
      then_by (or_bad_name (entry_path_of to)) _ IsWithin (λ q _.
      then_by (file_at s p) _ IsWithin (λ file _.
      then_by (free_at s q) _ IsWithin (λ e _.
      limit_by (has_too_many_names p || is_too_much s.made q) (op.Link e file) IsWithin (λ _. tt)))))
  resolve_within (line.Unlink text) =
      then_by (or_bad_name (entry_path_of text)) _ IsWithin (λ p _.
      then_by (leaf_by (node_at s p)) _ IsWithin (λ leaf _.
      limit_by (has_too_many_names p) (op.Unlink (entry_at s p) leaf.0 leaf.1) IsWithin (λ _. tt)))
  resolve_within (line.Rmdir text) =
      then_by (or_bad_name (entry_path_of text)) _ IsWithin (λ p _.
      then_by (emptied_by s.system.entries (node_at s p)) _ IsWithin (λ d _.
      limit_by (has_too_many_names p) (op.Rmdir (entry_at s p) d) IsWithin (λ _. tt)))
  resolve_within (line.Rename from to) =
      then_by (or_bad_name (entry_path_of from)) _ IsWithin (λ p _.
      then_by (or_bad_name (entry_path_of to)) _ IsWithin (λ q _. rename_within p q (node_at s p)))
  resolve_within (line.Write text offset bytes) =
      then_by (or_bad_name (entry_path_of text)) _ IsWithin (λ p _.
      then_by (file_at s p) _ IsWithin (λ file _.
      limit_by (has_too_many_names p || ends_above s.version offset bytes) (op.Write file (size_in s.system.sizes file) offset bytes)
      IsWithin
      (λ small. ends_within (most_bytes s.version) offset bytes (most_known s.version)
      (or_parts (has_too_many_names p) (ends_above s.version offset bytes) small).1)))
  resolve_within (line.Truncate text size) =
      then_by (or_bad_name (entry_path_of text)) _ IsWithin (λ p _.
      then_by (file_at s p) _ IsWithin (λ file _.
      limit_by (has_too_many_names p || nat_lt (most_bytes s.version) size) (op.Truncate file (size_in s.system.sizes file) size) IsWithin
      (λ _. tt)))
  resolve_within (line.SetAttr text change) =
      then_by (or_bad_name (set_path_of text change)) _ IsWithin (λ p _.
      then_by (or_missing (node_at s p)) _ IsWithin (λ node _. set_within p change node))
  resolve_within (line.Fsync text) =
      then_by (or_bad_name (path_of text)) _ IsWithin (λ p _.
      then_by (covered_by (node_at s p) p) _ IsWithin (λ c is.
      limit_by (has_too_many_names p) c IsWithin (λ _. covered_within p (node_at s p) c is)))
  resolve_within (line.Fdatasync text) =
      then_by (or_bad_name (entry_path_of text)) _ IsWithin (λ p _.
      then_by (file_at s p) _ IsWithin (λ file _.
      limit_by (has_too_many_names p) (op.Sync (covers.Data file)) IsWithin (λ _. tt)))
  resolve_within (line.FsyncRange text offset count) =
      then_by (or_bad_name (entry_path_of text)) _ IsWithin (λ p _.
      then_by (file_at s p) _ IsWithin (λ file _.
      limit_by (has_too_many_names p) (op.Sync (covers.Range file offset count)) IsWithin (λ _. tt)))
  resolve_within line.Sync = value_by (op.Sync covers.All) IsWithin tt
  resolve_within (line.Say text) = limit_by (nat_lt SAY_BYTES (length text)) op.Say IsWithin (λ _. tt)
