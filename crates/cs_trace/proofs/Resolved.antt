-- An operation that is accepted is legal.
use Rattle.std.proofs.Common.{◌≡◌, ◌≢◌, ℕ, zero, suc, ◌+◌, ◌<◌, ◌≤◌, ◌||◌, ◌&&◌, Bool, true, false, List, [], length}
use Rattle.std.proofs.Common.{Option, None, Some, Ok, Err, refl, ap, subst, arith}
use Rattle.std.proofs.lemmas.Bool.{or_parts}
use Rattle.std.proofs.lemmas.Bool.Decides.{nat_tests}
use Rattle.std.specs.List.{slice_get}
use Rattle.std.specs.Option.{option_map}
use Rattle.std.specs.Prelude.{if◌then◌else◌, nat_lt}
use Rattle.cs_entries.specs.DirEntries.{entry_of, last_name}
use Rattle.cs_entries.specs.Entries.{Entries}
use Rattle.cs_entries.specs.Legal.{Any, IsReached}
use Rattle.cs_entries.specs.Tables.{held_in}
use Rattle.cs_entries.specs.declared.node.FileKind.TheVariants.{Regular, Symlink}
use Rattle.cs_entries.specs.declared.node.Node.{Node}
use Rattle.cs_entries.specs.declared.node.Node.TheVariants.{Directory, File}
use Rattle.cs_names.specs.declared.limits.TheConstants.{SAY_BYTES, TREE_RECORDS}
use Rattle.cs_start.specs.Names.{entry_path_of, path_of}
use Rattle.cs_start.specs.declared.rights.Rights.{Rights}
use Rattle.cs_tree_model.specs.Tree.{Path}
use Rattle.cs_trace.specs.Judging.{and_then, covered_by, emptied_by, ends_above, entry_at, file_at}
use Rattle.cs_trace.specs.Judging.{free_at, has_too_many_names, held_by, is_too_much}
use Rattle.cs_trace.specs.Judging.{leaf_by, may_set, node_at, or_bad_name, or_missing}
use Rattle.cs_trace.specs.Judging.{resolve, rights_after, size_in, symlink}
use Rattle.cs_trace.specs.Judging.{unless_too_large}
use Rattle.cs_trace.specs.Limits.{most_bytes}
use Rattle.cs_trace.specs.Names.{new_path_of, rights_of, set_path_of}
use Rattle.cs_trace.specs.Operations.{IsOctal as HasOctalRights}
use Rattle.cs_trace.specs.Operations.{number_for}
use Rattle.cs_trace.specs.State.{State}
use Rattle.cs_trace.specs.declared.fault.TraceFaultKind.TheVariants.{NotFile}
use Rattle.cs_trace.specs.declared.operation.Covers.TheVariants as covers
use Rattle.cs_trace.specs.declared.operation.Operation.{Operation}
use Rattle.cs_trace.specs.declared.operation.Operation.TheVariants.{Creat, Link, Mkdir, Rmdir, Say, SetAttr, Symlink as MakeSymlink}
use Rattle.cs_trace.specs.declared.operation.Operation.TheVariants.{Sync, Truncate, Unlink, Write}
use Rattle.cs_trace.specs.declared.operation.Target.{Target}
use Rattle.cs_trace.specs.declared.operation.Target.TheVariants as targets
use Rattle.cs_trace_lines.specs.Lines as line
use Rattle.cs_trace_lines.specs.Lines.{Change, Mode, OperationLine, Owner}
use Rattle.cs_trace_lines.specs.Values.{Claims}
use Rattle.cs_trace_lines.proofs.Octal.{HasOctalChange, IsOctal}
use Rattle.cs_trace_lines.proofs.Versioned.{IsOfVersion as IsLineOfVersion}
use Rattle.cs_trace.proofs.Accepted.{found_is, legal_is, limit_by, then_by, value_by}
use Rattle.cs_trace.proofs.Named.{entry_named, named_new}
use Rattle.cs_trace.proofs.Sound.{AreOctal, IsNow}
use Rattle.cs_trace.proofs.StartPuts.{path_reached}
use Rattle.cs_trace.proofs.Taken.{empty_is_bare, emptied_is, file_is_bare, file_stands, leaf_is, limits_by}
use Rattle.cs_trace.proofs.TakenMoves.{IsTaken, file_of, linked_entry, new_entry, new_named, no_held, number_is_new, old_held, old_named, renamed_by, size_of_file}

-- a symlink is a line of the fourth version, with a target that is one
abbrev pub IsOfVersion : OperationLine → State → Type 0
IsOfVersion l s = IsLineOfVersion s.version (line.Operation l)

ends_within : (most offset : ℕ) (bytes : List ℕ) → nat_lt 0 (length bytes) && nat_lt most (offset + length bytes) ≡ false
    → 0 < length bytes → offset + length bytes ≤ most
ends_within most offset bytes is some = grind (arith, nat_tests)

within : (most size : ℕ) → nat_lt most size ≡ false → size ≤ most
within most size is = grind (arith, nat_tests)

changed_octal : (change : Change) (r : Rights) → HasOctalChange change → HasOctalRights r → HasOctalRights (rights_after change r)
changed_octal (Mode permissions) r octal was = octal
changed_octal (Owner owner group) r octal was = was

paired : (target : Target) (o : Option Rights) (h : Target × Rights) → option_map (λ rights. (target, rights)) o ≡ Some h → (target ≡ h.0)
    × (o ≡ Some h.1)
paired target None h is = absurd (cc)
paired target (Some r) h is =
    let same : (target, r) ≡ h = cc in (ap (λ (q : Target × Rights). q.0) same, ap (λ (q : Target × Rights). Some q.1) same)

module _ (s : State) (now : IsNow s.version s.system) (rights : AreOctal s.attributes) (few : s.made ≤ TREE_RECORDS) where
  abbrev m : Entries
  m = held_in s.system.entries

  abbrev Taken : Operation → Type 0
  Taken o = IsTaken s o

  same_made : s.made + 0 ≤ TREE_RECORDS
  same_made = omega arith

  -- ---- attributes and syncs

  set_taken : (p : Path) (change : Change) → HasOctalChange change → (node : Node) → node_at s p ≡ Some node → (h : Target × Rights)
      → held_by s.attributes p node ≡ Some h → Taken (SetAttr h.0 h.1 (rights_after change h.1))
  set_taken p change octal (Directory d) at h is =
      let both = paired (targets.Directory d p) (slice_get s.attributes.directories d) h is in
      subst (λ target. Taken (SetAttr target h.1 (rights_after change h.1))) both.0
      (record {
        legal = record {
          named = at;
          entry = tt;
          fitting = changed_octal change h.1 octal (rights.directories d h.1 both.1);
        };
        few = same_made;
      })
  set_taken p change octal (File kind file) at h is =
      let both = paired (targets.File file) (slice_get s.attributes.files file) h is in
      let stands = file_stands m p kind file at in
      subst (λ target. Taken (SetAttr target h.1 (rights_after change h.1))) both.0
      (record {
        legal = record {
          named = tt;
          entry = tt;
          fitting = (
            (kind, stands),
            now.files stands.0 kind file stands.1,
            changed_octal change h.1 octal (rights.files file h.1 both.1),
          );
        };
        few = same_made;
      })

  set_by : (p : Path) (change : Change) → HasOctalChange change → (node : Node) → node_at s p ≡ Some node → (may : Bool) → (o : Operation)
      → (if may then and_then (or_missing (held_by s.attributes p node)) (λ h.
      unless_too_large (has_too_many_names p) (SetAttr h.0 h.1 (rights_after change h.1))) else Err NotFile) ≡ Ok o → Taken o
  set_by p change octal node at false o does = absurd (cc)
  set_by p change octal node at true o does =
      then_by (or_missing (held_by s.attributes p node)) _ Taken (λ h is.
      limit_by (has_too_many_names p) (SetAttr h.0 h.1 (rights_after change h.1)) Taken
      (λ _. set_taken p change octal node at h (found_is (held_by s.attributes p node) h is))) o does

  -- a directory that a path leads to has a number that was given
  directory_given : (p : Path) (d : ℕ) → node_at s p ≡ Some (Directory d) → d < length s.system.homes
  directory_given p d at = by (path_reached m p d at)
    where
      by : IsReached m Any d → d < length s.system.homes
      by (zero, w) = (let some = now.rooted in omega (arith, some, w))
      by (suc n, w) = now.directories w.0 d w.1

  covered_taken : (p : Path) (here : Option Node) → node_at s p ≡ here → (c : Operation) → covered_by here p ≡ Ok c → Taken c
  covered_taken p None at c is = absurd (cc)
  covered_taken p (Some (Directory d)) at c is =
      value_by (Sync (covers.Directory d p)) Taken
      (record { legal = record { named = at; entry = tt; fitting = directory_given p d at }; few = same_made }) c is
  covered_taken p (Some (File Symlink file)) at c is = absurd (cc)
  covered_taken p (Some (File Regular file)) at c is =
      (let stands = file_stands m p Regular file at in
      value_by (Sync (covers.File file)) Taken
      (record {
        legal = record { named = tt; entry = tt; fitting = (stands, now.files stands.0 Regular file stands.1) };
        few = same_made;
      }) c is)

  -- ---- each line

  named_path : (text : List ℕ) (p : Path) → or_bad_name (entry_path_of text) ≡ Ok p → p ≢ []
  named_path text p is = (entry_named text p (legal_is (entry_path_of text) p is)).0

  new_path : (text : List ℕ) (claims : Claims) (p : Path) → or_bad_name (new_path_of text claims) ≡ Ok p → (p ≢ []) × (last_name p ≢ [])
  new_path text claims p is = named_new text claims p (legal_is (new_path_of text claims) p is)

  pub resolve_taken : (l : OperationLine) → IsOctal (line.Operation l) → IsOfVersion l s → (o : Operation) → resolve s l ≡ Ok o → Taken o
  resolve_taken (line.Creat text claims) octal version =
      then_by (or_bad_name (new_path_of text claims)) _ Taken (λ p is.
      then_by (free_at s p) _ Taken (λ e free.
      limit_by (is_too_much s.made p) (Creat e (length s.system.sizes) (rights_of claims)) Taken (λ small.
      record {
        legal = record {
          named = new_named s now rights few p (new_path text claims p is).0 e free;
          entry = new_entry s now rights few p (new_path text claims p is).0 e free (File Regular (length s.system.sizes)) tt;
          fitting = (refl, octal);
        };
        few = limits_by s.made p small;
      })))
  resolve_taken (line.Mkdir text claims) octal version =
      then_by (or_bad_name (new_path_of text claims)) _ Taken (λ p is.
      then_by (free_at s p) _ Taken (λ e free.
      limit_by (is_too_much s.made p) (Mkdir e (number_for s.version s.system.homes (entry_of e)) (rights_of claims)) Taken (λ small.
      record {
        legal = record {
          named = new_named s now rights few p (new_path text claims p is).0 e free;
          entry =
              new_entry s now rights few p (new_path text claims p is).0 e free
              (Directory (number_for s.version s.system.homes (entry_of e)))
              (number_is_new s now rights few p (new_path text claims p is).0 e free (new_path text claims p is).1);
          fitting = (refl, octal);
        };
        few = limits_by s.made p small;
      })))
  resolve_taken (line.Symlink text claims target) octal version =
      then_by (or_bad_name (new_path_of text claims)) _ Taken (λ p is.
      then_by (free_at s p) _ Taken (λ e free.
      limit_by (is_too_much s.made p) (MakeSymlink e (length s.system.sizes) (rights_of claims) target) Taken (λ small.
      record {
        legal = record {
          named = new_named s now rights few p (new_path text claims p is).0 e free;
          entry = new_entry s now rights few p (new_path text claims p is).0 e free (File Symlink (length s.system.sizes)) tt;
          fitting = (version.0, refl, octal, version.1);
        };
        few = limits_by s.made p small;
      })))
  resolve_taken (line.Link from to) octal version =
      then_by (or_bad_name (entry_path_of from)) _ Taken (λ p _.
      then_by (or_bad_name (entry_path_of to)) _ Taken (λ q is.
      then_by (file_at s p) _ Taken (λ file there.
      then_by (free_at s q) _ Taken (λ e free.
      limit_by (has_too_many_names p || is_too_much s.made q) (Link e file) Taken (λ small.
      (let given = file_of s now rights few p file there in
      record {
        legal = record {
          named = new_named s now rights few q (named_path to q is) e free;
          entry = linked_entry s now rights few q (named_path to q is) e free Regular file;
          fitting = (no_held s now rights few q (named_path to q is) e free, given.0, given.1);
        };
        few = limits_by s.made q (or_parts (has_too_many_names p) (is_too_much s.made q) small).1;
      }))))))
  resolve_taken (line.Unlink text) octal version =
      then_by (or_bad_name (entry_path_of text)) _ Taken (λ p is.
      then_by (leaf_by (node_at s p)) _ Taken (λ leaf there.
      limit_by (has_too_many_names p) (Unlink (entry_at s p) leaf.0 leaf.1) Taken (λ _.
      (let at = leaf_is (node_at s p) leaf there in
      let named = named_path text p is in
      record {
        legal = record {
          named = old_named s now rights few p (File leaf.0 leaf.1) named at;
          entry = (old_held s now rights few p (File leaf.0 leaf.1) named at, file_is_bare m leaf.0 leaf.1);
          fitting = tt;
        };
        few = same_made;
      }))))
  resolve_taken (line.Rmdir text) octal version =
      then_by (or_bad_name (entry_path_of text)) _ Taken (λ p is.
      then_by (emptied_by s.system.entries (node_at s p)) _ Taken (λ d there.
      limit_by (has_too_many_names p) (Rmdir (entry_at s p) d) Taken (λ _.
      (let at = emptied_is s.system.entries (node_at s p) d there in
      let named = named_path text p is in
      record {
        legal = record {
          named = old_named s now rights few p (Directory d) named at.0;
          entry = (old_held s now rights few p (Directory d) named at.0, empty_is_bare m d at.1);
          fitting = tt;
        };
        few = same_made;
      }))))
  resolve_taken (line.Rename from to) octal version =
      then_by (or_bad_name (entry_path_of from)) _ Taken (λ p named.
      then_by (or_bad_name (entry_path_of to)) _ Taken (λ q other.
      renamed_by s now rights few p q (named_path from p named) (named_path to q other) (node_at s p) refl))
  resolve_taken (line.Write text offset bytes) octal version =
      then_by (or_bad_name (entry_path_of text)) _ Taken (λ p _.
      then_by (file_at s p) _ Taken (λ file there.
      limit_by (has_too_many_names p || ends_above s.version offset bytes) (Write file (size_in s.system.sizes file) offset bytes) Taken
      (λ small.
      record {
        legal = record {
          named = tt;
          entry = tt;
          fitting = (
            (file_of s now rights few p file there).0,
            size_of_file s now rights few p file there,
            ends_within (most_bytes s.version) offset bytes (or_parts (has_too_many_names p) (ends_above s.version offset bytes) small).1,
          );
        };
        few = same_made;
      })))
  resolve_taken (line.Truncate text size) octal version =
      then_by (or_bad_name (entry_path_of text)) _ Taken (λ p _.
      then_by (file_at s p) _ Taken (λ file there.
      limit_by (has_too_many_names p || nat_lt (most_bytes s.version) size) (Truncate file (size_in s.system.sizes file) size) Taken
      (λ small.
      record {
        legal = record {
          named = tt;
          entry = tt;
          fitting = (
            (file_of s now rights few p file there).0,
            size_of_file s now rights few p file there,
            within (most_bytes s.version) size (or_parts (has_too_many_names p) (nat_lt (most_bytes s.version) size) small).1,
          );
        };
        few = same_made;
      })))
  resolve_taken (line.SetAttr text change) octal version =
      then_by (or_bad_name (set_path_of text change)) _ Taken (λ p _.
      then_by (or_missing (node_at s p)) _ Taken (λ node there.
      set_by p change octal node (found_is (node_at s p) node there) (may_set change node)))
  resolve_taken (line.Fsync text) octal version =
      then_by (or_bad_name (path_of text)) _ Taken (λ p _.
      then_by (covered_by (node_at s p) p) _ Taken (λ c is.
      limit_by (has_too_many_names p) c Taken (λ _. covered_taken p (node_at s p) refl c is)))
  resolve_taken (line.Fdatasync text) octal version =
      then_by (or_bad_name (entry_path_of text)) _ Taken (λ p _.
      then_by (file_at s p) _ Taken (λ file there.
      limit_by (has_too_many_names p) (Sync (covers.Data file)) Taken (λ _.
      record { legal = record { named = tt; entry = tt; fitting = file_of s now rights few p file there }; few = same_made })))
  resolve_taken (line.FsyncRange text offset count) octal version =
      then_by (or_bad_name (entry_path_of text)) _ Taken (λ p _.
      then_by (file_at s p) _ Taken (λ file there.
      limit_by (has_too_many_names p) (Sync (covers.Range file offset count)) Taken (λ _.
      record { legal = record { named = tt; entry = tt; fitting = file_of s now rights few p file there }; few = same_made })))
  resolve_taken line.Sync octal version =
      value_by (Sync covers.All) Taken (record { legal = record { named = tt; entry = tt; fitting = tt }; few = same_made })
  resolve_taken (line.Say text) octal version =
      limit_by (nat_lt SAY_BYTES (length text)) Say Taken
      (λ _. record { legal = record { named = tt; entry = tt; fitting = tt }; few = same_made })
