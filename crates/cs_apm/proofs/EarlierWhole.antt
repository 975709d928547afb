-- The states of a trace of a version before the fourth are those of before version 4.
use Rattle.std.proofs.Common.{◌≡◌, ◌≢◌, ℕ, zero, suc, ◌+◌, true, false, List, [], ◌∷◌, ◌⊎◌, Option, None, Some}
use Rattle.std.proofs.Common.{refl, sym, ap, ◌∙◌, map, ⊎_elim}
use Rattle.std.proofs.lemmas.Bool.{false≢true}
use Rattle.std.specs.FinMap.{FinMap, get, same_map}
use Rattle.std.specs.Option.{option_map}
use Rattle.std.specs.Prelude.{fold, slice_index_or, slice_set}
use Rattle.cs_tree_model.specs.Fresh.{fresh}
use Rattle.cs_tree_model.specs.Laws.Paths.{path_exact, path_total}
use Rattle.cs_tree_model.specs.Maps.Values.{get-map_values, map_values}
use Rattle.cs_tree_model.specs.Tree.{Path, path_cmp}
use Rattle.cs_entries.specs.declared.entry.Entry.{Entry}
use Rattle.cs_entries.specs.declared.node.FileKind.TheVariants.{Regular, Symlink}
use Rattle.cs_entries.specs.declared.node.Node.{Node}
use Rattle.cs_entries.specs.declared.node.Node.TheVariants.{Directory, File}
use Rattle.cs_entries.specs.Entries.{Entries}
use Rattle.cs_entries.specs.Paths.{at_path, entry_in}
use Rattle.cs_entries.specs.Laws.Paths.{IsMore, in_directory, last_cases}
use Rattle.cs_start.specs.declared.rights.Rights.{Rights}
use Rattle.cs_trace_lines.specs.Versions.{is_fourth}
use Rattle.cs_trace_lines.specs.declared.version.Version.{Version}
use Rattle.cs_trace.specs.declared.operation.Target.TheVariants as targets
use Rattle.cs_micro.specs.declared.micro_op.MicroOp.{MicroOp}
use Rattle.cs_micro.specs.declared.micro_op.MicroOp.TheVariants.{CreateDirEntry, DeleteDirEntry, MoveDirEntry, LinkDirEntry, ChangeFileSize}
use Rattle.cs_micro.specs.declared.micro_op.MicroOp.TheVariants.{WriteBlock, SetAttr, Say}
use Rattle.cs_micro.specs.Earlier.Same.{op_before}
use Rattle.cs_micro.specs.Legal.{AreLegal, Made, made_after}
use Rattle.cs_apm.specs.Rules.{op_at}
use Rattle.cs_apm.specs.States.{Content, State, content_of_bytes, files_after, files_made, no_content, no_rights, owners_after, owners_made, record_of}
use Rattle.cs_apm.specs.States.{state_after}
use Rattle.cs_apm.specs.Earlier.Rules as rules_before
use Rattle.cs_apm.specs.Earlier.States as before
use Rattle.cs_apm.proofs.EarlierLeft.{IsWithoutLinks}
use Rattle.cs_apm.proofs.EarlierRules.{at_before}
use Rattle.cs_apm.proofs.EarlierStates.{AreAlike, entry_before}

-- ---- files

abbrev pub content_before : Content → before.Content
content_before c = record { size = c.size; bytes = c.bytes }

abbrev pub files_before : List Content → List before.Content
files_before = map content_before

read_before : (files : List Content) (n : ℕ) → slice_index_or (files_before files) n before.no_content ≡ content_before
    (slice_index_or files n no_content)
read_before [] n = refl
read_before (f ∷ files) zero = refl
read_before (f ∷ files) (suc n) = read_before files n

set_before : (files : List Content) (n : ℕ) (c : Content)
    → files_before (slice_set files n c) ≡ slice_set (files_before files) n (content_before c)
set_before [] n c = refl
set_before (f ∷ files) zero c = refl
set_before (f ∷ files) (suc n) c = ap (λ v. content_before f ∷ v) (set_before files n c)

files_one : (files : List Content) (o : MicroOp) → files_before (files_after files o) ≡ before.files_after (files_before files)
    (op_before o)
files_one files (ChangeFileSize file size) =
    set_before files file _ ∙ ap (λ c. slice_set (files_before files) file (before.content_with_size size c)) (sym (read_before files file))
files_one files (WriteBlock file block start at bytes) =
    set_before files file _ ∙ ap (λ c. slice_set (files_before files) file (before.overwritten (start + at) bytes c))
    (sym (read_before files file))
files_one files (CreateDirEntry e node rights bytes) = refl
files_one files (DeleteDirEntry e node) = refl
files_one files (MoveDirEntry a b node old) = refl
files_one files (LinkDirEntry e kind file old half) = refl
files_one files (SetAttr target rights) = refl
files_one files Say = refl

owners_one : (owners : List Rights) (o : MicroOp) → owners_after owners o ≡ before.owners_after owners (op_before o)
owners_one owners (SetAttr (targets.File file) rights) = refl
owners_one owners (SetAttr (targets.Directory d path) rights) = refl
owners_one owners (CreateDirEntry e node rights bytes) = refl
owners_one owners (DeleteDirEntry e node) = refl
owners_one owners (MoveDirEntry a b node old) = refl
owners_one owners (LinkDirEntry e kind file old half) = refl
owners_one owners (ChangeFileSize file to) = refl
owners_one owners (WriteBlock file block start at bytes) = refl
owners_one owners Say = refl

abbrev pub after_before : before.State → MicroOp → before.State
after_before s o = before.state_after s (op_before o)

pub files_alike : (s : State) (old : before.State) → files_before s.files ≡ old.files → (os : List MicroOp)
    → files_before (fold state_after s os).files ≡ (fold after_before old os).files
files_alike s old same [] = same
files_alike s old same (o ∷ os) =
    files_alike (state_after s o) (after_before old o) (files_one s.files o ∙ ap (λ v. before.files_after v (op_before o)) same) os

pub owners_alike : (s : State) (old : before.State) → s.owners ≡ old.owners → (os : List MicroOp)
    → (fold state_after s os).owners ≡ (fold after_before old os).owners
owners_alike s old same [] = same
owners_alike s old same (o ∷ os) =
    owners_alike (state_after s o) (after_before old o) (owners_one s.owners o ∙ ap (λ v. before.owners_after v (op_before o)) same) os

-- the members, by the micro-operations of now
pub same_fold : (old : before.State) (ops : List MicroOp) (places : List ℕ)
    → fold before.state_after old (map (rules_before.op_at (map op_before ops)) places) ≡ fold after_before old (map (op_at ops) places)
same_fold old ops [] = refl
same_fold old ops (k ∷ places) =
    ap (λ o. fold before.state_after (before.state_after old o) (map (rules_before.op_at (map op_before ops)) places)) (at_before ops k)
    ∙ same_fold (after_before old (op_at ops k)) ops places

-- ---- what is made

pub owners_made_before : (ops : List MicroOp) → owners_made ops ≡ before.owners_made (map op_before ops)
owners_made_before [] = refl
owners_made_before (CreateDirEntry e (File kind file) rights bytes ∷ ops) = ap (λ v. rights ∷ v) (owners_made_before ops)
owners_made_before (CreateDirEntry e (Directory d) rights bytes ∷ ops) = owners_made_before ops
owners_made_before (DeleteDirEntry e node ∷ ops) = owners_made_before ops
owners_made_before (MoveDirEntry a b node old ∷ ops) = owners_made_before ops
owners_made_before (LinkDirEntry e kind file old half ∷ ops) = owners_made_before ops
owners_made_before (ChangeFileSize file to ∷ ops) = owners_made_before ops
owners_made_before (WriteBlock file block start at bytes ∷ ops) = owners_made_before ops
owners_made_before (SetAttr target rights ∷ ops) = owners_made_before ops
owners_made_before (Say ∷ ops) = owners_made_before ops

pub files_made_before : (version : Version) → is_fourth version ≡ false → (m : Made) (ops : List MicroOp) → AreLegal version m ops
    → files_before (files_made ops) ≡ before.empty_files (map op_before ops)
files_made_before version early m [] legal = refl
files_made_before version early m (CreateDirEntry e (File Regular file) rights bytes ∷ ops) legal =
    (λ i. content_before (content_of_bytes (legal.0.fitting.0.1 i)) ∷ files_made_before version early
    (made_after m (CreateDirEntry e (File Regular file) rights bytes)) ops legal.1 i)
files_made_before version early m (CreateDirEntry e (File Symlink file) rights bytes ∷ ops) legal =
    absurd (false≢true (sym early ∙ legal.0.fitting.0.0))
files_made_before version early m (CreateDirEntry e (Directory d) rights bytes ∷ ops) legal =
    files_made_before version early (made_after m (CreateDirEntry e (Directory d) rights bytes)) ops legal.1
files_made_before version early m (DeleteDirEntry e node ∷ ops) legal =
    files_made_before version early (made_after m (DeleteDirEntry e node)) ops legal.1
files_made_before version early m (MoveDirEntry a b node old ∷ ops) legal =
    files_made_before version early (made_after m (MoveDirEntry a b node old)) ops legal.1
files_made_before version early m (LinkDirEntry e kind file old half ∷ ops) legal =
    files_made_before version early (made_after m (LinkDirEntry e kind file old half)) ops legal.1
files_made_before version early m (ChangeFileSize file to ∷ ops) legal =
    files_made_before version early (made_after m (ChangeFileSize file to)) ops legal.1
files_made_before version early m (WriteBlock file block start at bytes ∷ ops) legal =
    files_made_before version early (made_after m (WriteBlock file block start at bytes)) ops legal.1
files_made_before version early m (SetAttr target rights ∷ ops) legal =
    files_made_before version early (made_after m (SetAttr target rights)) ops legal.1
files_made_before version early m (Say ∷ ops) legal = files_made_before version early (made_after m Say) ops legal.1

-- ---- records

-- without symbolic links, the record of what was at a path is that of what is there
pub record_before : (s : State) (old : before.State) → files_before s.files ≡ old.files → s.owners ≡ old.owners → (node : Node)
    → ((file : ℕ) → node ≢ File Symlink file)
    → record_of s node ≡ before.record_of old.owners old.files (entry_before s.directories node)
record_before s old files owners (Directory d) plain = refl
record_before s old files owners (File Symlink file) plain = absurd (plain file refl)
record_before s old files owners (File Regular file) plain =
    ap (λ c. before.record_with (slice_index_or s.owners file no_rights) 0 (Some (before.visible c))) (sym (read_before s.files file))
    ∙ (λ i. before.record_with (slice_index_or (owners i) file no_rights) 0
    (Some (before.visible (slice_index_or (files i) file before.no_content))))

-- what is at a path of entries without symbolic links is none
plain_at : (m : Entries) → IsWithoutLinks m → (q : Path) (file : ℕ) → at_path m q ≢ Some (File Symlink file)
plain_at m without q file at = ⊎_elim
    (λ (nil : q ≡ []). (let h = sym (ap (at_path m) nil) ∙ at in no_file h))
    (λ (w : IsMore q).
    (let i = in_directory m w.front w.last (File Symlink file) (ap (at_path m) (sym w.is) ∙ at) in without (entry_in i.directory w.last)
    file i.held))
    (last_cases q)
  where
    no_file : Some (Directory 0) ≡ Some (File Symlink file) → ⊥
    no_file h = cc

pub trees_alike : (s : State) (old : before.State) (nodes : FinMap path_cmp Node) (m : Entries) → IsWithoutLinks m
    → ((q : Path) → get nodes q ≡ at_path m q) → AreAlike s.directories m old.paths → files_before s.files ≡ old.files
    → s.owners ≡ old.owners
    → fresh (map_values (record_of s) nodes) ≡ before.tree_of_state old
trees_alike s old nodes m without leads alike files owners =
    ap fresh (same_map path_total path_exact (map_values (record_of s) nodes) (before.records_of old) each)
  where
    one : (o : Option Node) → ((file : ℕ) → o ≢ Some (File Symlink file))
        → option_map (record_of s) o ≡ option_map (before.record_of old.owners old.files) (option_map (entry_before s.directories) o)
    one None plain = refl
    one (Some node) plain = ap Some (record_before s old files owners node (λ file is. plain file (ap Some is)))

    each : (q : Path) → get (map_values (record_of s) nodes) q ≡ get (before.records_of old) q
    each q =
        get-map_values path_cmp (record_of s) nodes q ∙ ap (option_map (record_of s)) (leads q)
        ∙ one (at_path m q) (plain_at m without q)
        ∙ ap (option_map (before.record_of old.owners old.files)) (sym (alike q))
        ∙ sym (get-map_values path_cmp (before.record_of old.owners old.files) old.paths q)
