-- The tests of one operation and of two say what the sentences say.
use Rattle.std.proofs.Common.{◌≡◌, ◌⊎◌, inl, inr, ℕ, ◌==◌, ◌||◌, ◌&&◌, true}
use Rattle.std.proofs.Common.{Option, None, Some, refl, sym, ap, ◌∙◌, subst, arith, ⊎_elim}
use Rattle.std.proofs.lemmas.Bool.{false≢true, and_parts, and_from, eqb-true, eq-eqb, or_cases}
use Rattle.std.proofs.lemmas.Bool.{or_left, or_right}
use Rattle.std.specs.List.{Contains, list_any}
use Rattle.cs_entries.specs.declared.entry.DirEntry.{DirEntry}
use Rattle.cs_entries.specs.declared.node.FileKind.{FileKind}
use Rattle.cs_entries.specs.declared.node.Node.{Node}
use Rattle.cs_entries.specs.declared.node.Node.TheVariants.{Directory, File}
use Rattle.cs_entries.specs.declared.entry.Entry.{Entry}
use Rattle.cs_entries.specs.Entries.{EntryOp, Create, Link, Delete, Move, Other, MovesDirectory}
use Rattle.cs_entries.specs.Entries.{Removes}
use Rattle.cs_entries.specs.Rules.{entries_touched, makes, moves_directory, removes}
use Rattle.cs_entries.specs.Rules.{empties}
use Rattle.cs_trace.specs.declared.operation.Target.TheVariants as targets
use Rattle.cs_trace_lines.specs.Versions.{says_first}
use Rattle.cs_trace_lines.specs.declared.profile.Profile.{Profile}
use Rattle.cs_trace_lines.specs.declared.profile.Profile.TheVariants as profiles
use Rattle.cs_trace_lines.specs.declared.version.Version.{Version}
use Rattle.cs_micro.specs.Legal.{entry_op}
use Rattle.cs_micro.specs.declared.micro_op.MicroOp.{MicroOp}
use Rattle.cs_micro.specs.declared.micro_op.MicroOp.TheVariants.{CreateDirEntry, DeleteDirEntry}
use Rattle.cs_micro.specs.declared.micro_op.MicroOp.TheVariants.{MoveDirEntry, LinkDirEntry}
use Rattle.cs_micro.specs.declared.micro_op.MicroOp.TheVariants.{ChangeFileSize, WriteBlock}
use Rattle.cs_micro.specs.declared.micro_op.MicroOp.TheVariants.{SetAttr, Say}
use Rattle.cs_apm.specs.Rules.{both_say, creates_linked, directories_settled, directory_in}
use Rattle.cs_apm.specs.Rules.{is_entry_operation, is_first_half, keeps_order}
use Rattle.cs_apm.specs.Rules.{same_block_or_size, says_before, sets_directory, sets_same_file}
use Rattle.cs_apm.specs.Rules.{settles}
use Rattle.cs_apm.specs.Reasons.{ChangesSize, Creates, IsEntryOperation, KeepsOrder, Links}
use Rattle.cs_apm.specs.Reasons.{SetsDirectory, SetsFile, Settles, TouchesEntryOf}
use Rattle.cs_apm.specs.Reasons.{WritesBlock}
use Rattle.cs_apm.specs.Laws.Lists.{any_found, any_from}
use Rattle.cs_apm.specs.Laws.Touched.{only_one}

-- ---- directories

pub makes_says : (o : MicroOp) (d : ℕ) → makes (entry_op o) d ≡ true → Creates o (Directory d)
makes_says (CreateDirEntry e (Directory c) rights bytes) d h =
    (e, rights, bytes, ap (λ n. CreateDirEntry e (Directory n) rights bytes) (eqb-true c d h))
makes_says (CreateDirEntry e (File kind file) rights bytes) d h = absurd (false≢true h)
makes_says (DeleteDirEntry e node) d h = absurd (false≢true h)
makes_says (MoveDirEntry a b node old) d h = absurd (false≢true h)
makes_says (LinkDirEntry e kind file old half) d h = absurd (false≢true h)
makes_says (ChangeFileSize file to) d h = absurd (false≢true h)
makes_says (WriteBlock file block start at bytes) d h = absurd (false≢true h)
makes_says (SetAttr target rights) d h = absurd (false≢true h)
makes_says Say d h = absurd (false≢true h)

pub says_makes : (o : MicroOp) (d : ℕ) → Creates o (Directory d) → makes (entry_op o) d ≡ true
says_makes o d w = ap (λ p. makes (entry_op p) d) w.3 ∙ eq-eqb d d refl

pub removes_says : (o : EntryOp) (d : ℕ) → removes o d ≡ true → Removes o d
removes_says (Delete e (Directory c)) d h = eqb-true c d h
removes_says (Delete e (File kind file)) d h = absurd (false≢true h)
removes_says (Move a b node (Some (Directory c))) d h = eqb-true c d h
removes_says (Move a b node (Some (File kind file))) d h = absurd (false≢true h)
removes_says (Move a b node None) d h = absurd (false≢true h)
removes_says (Create e node) d h = absurd (false≢true h)
removes_says (Link e kind file) d h = absurd (false≢true h)
removes_says Other d h = absurd (false≢true h)

pub says_removes : (o : EntryOp) (d : ℕ) → Removes o d → removes o d ≡ true
says_removes (Delete e (Directory c)) d h = eq-eqb c d h
says_removes (Delete e (File kind file)) d h = absurd h
says_removes (Move a b node (Some (Directory c))) d h = eq-eqb c d h
says_removes (Move a b node (Some (File kind file))) d h = absurd h
says_removes (Move a b node None) d h = absurd h
says_removes (Create e node) d h = absurd h
says_removes (Link e kind file) d h = absurd h
says_removes Other d h = absurd h

pub directory_says : (o : MicroOp) (d : ℕ) → sets_directory o d ≡ true → SetsDirectory o d
directory_says (SetAttr (targets.Directory c path) rights) d h =
    (path, rights, ap (λ n. SetAttr (targets.Directory n path) rights) (eqb-true c d h))
directory_says (SetAttr (targets.File file) rights) d h = absurd (false≢true h)
directory_says (CreateDirEntry e node rights bytes) d h = absurd (false≢true h)
directory_says (DeleteDirEntry e node) d h = absurd (false≢true h)
directory_says (MoveDirEntry a b node old) d h = absurd (false≢true h)
directory_says (LinkDirEntry e kind file old half) d h = absurd (false≢true h)
directory_says (ChangeFileSize file to) d h = absurd (false≢true h)
directory_says (WriteBlock file block start at bytes) d h = absurd (false≢true h)
directory_says Say d h = absurd (false≢true h)

pub says_directory : (o : MicroOp) (d : ℕ) → SetsDirectory o d → sets_directory o d ≡ true
says_directory o d s = ap (λ w. sets_directory w d) s.2 ∙ eq-eqb d d refl

settles_says : (o : MicroOp) (d : ℕ) → settles o d ≡ true → Settles o d
settles_says o d h = ⊎_elim
    (λ (two : (makes (entry_op o) d || removes (entry_op o) d) ≡ true). ⊎_elim
    (λ (m : makes (entry_op o) d ≡ true). inl (inl (makes_says o d m)))
    (λ (r : removes (entry_op o) d ≡ true). inl (inr (removes_says (entry_op o) d r)))
    (or_cases (makes (entry_op o) d) (removes (entry_op o) d) two))
    (λ (s : sets_directory o d ≡ true). inr (directory_says o d s))
    (or_cases (makes (entry_op o) d || removes (entry_op o) d) (sets_directory o d) h)

says_settles : (o : MicroOp) (d : ℕ) → Settles o d → settles o d ≡ true
says_settles o d h = ⊎_elim
    (λ (two : Creates o (Directory d) ⊎ Removes (entry_op o) d). or_left
    (makes (entry_op o) d || removes (entry_op o) d) (sets_directory o d) (⊎_elim
    (λ (m : Creates o (Directory d)). or_left (makes (entry_op o) d) (removes (entry_op o) d)
    (says_makes o d m))
    (λ (r : Removes (entry_op o) d). or_right (makes (entry_op o) d) (removes (entry_op o) d)
    (says_removes (entry_op o) d r))
    two))
    (λ (s : SetsDirectory o d). or_right (makes (entry_op o) d || removes (entry_op o) d)
    (sets_directory o d) (says_directory o d s))
    h

-- a directory that it settles is listed
in_node : (node : Node) (d : ℕ) → node ≡ Directory d → Contains (directory_in node) d
in_node node d is = subst (λ n. Contains (directory_in n) d) (sym is) (0, omega arith, refl)

removed_listed : (o : MicroOp) (d : ℕ) → Removes (entry_op o) d → Contains (directories_settled o) d
removed_listed (DeleteDirEntry e (Directory c)) d h = (0, omega arith, h)
removed_listed (DeleteDirEntry e (File kind file)) d h = absurd h
removed_listed (MoveDirEntry a b node (Some (Directory c))) d h = (0, omega arith, h)
removed_listed (MoveDirEntry a b node (Some (File kind file))) d h = absurd h
removed_listed (MoveDirEntry a b node None) d h = absurd h
removed_listed (CreateDirEntry e node rights bytes) d h = absurd h
removed_listed (LinkDirEntry e kind file old half) d h = absurd h
removed_listed (ChangeFileSize file to) d h = absurd h
removed_listed (WriteBlock file block start at bytes) d h = absurd h
removed_listed (SetAttr target rights) d h = absurd h
removed_listed Say d h = absurd h

settled_listed : (o : MicroOp) (d : ℕ) → Settles o d → Contains (directories_settled o) d
settled_listed o d h = ⊎_elim
    (λ (two : Creates o (Directory d) ⊎ Removes (entry_op o) d). ⊎_elim
    (λ (m : Creates o (Directory d)). subst (λ w. Contains (directories_settled w) d) (sym m.3)
    (0, omega arith, refl))
    (λ (r : Removes (entry_op o) d). removed_listed o d r) two)
    (λ (s : SetsDirectory o d). subst (λ w. Contains (directories_settled w) d) (sym s.2)
    (0, omega arith, refl))
    h

listed_settled : (o : MicroOp) (d : ℕ) → Contains (directories_settled o) d → Settles o d
listed_settled (CreateDirEntry e (Directory c) rights bytes) d h =
    inl (inl (
      e,
      rights,
      bytes,
      ap (λ n. CreateDirEntry e (Directory n) rights bytes)
          (only_one c d h.0 h.1 h.2),
    ))
listed_settled (CreateDirEntry e (File kind file) rights bytes) d h =
    absurd (let low = h.1 in omega (arith, low))
listed_settled (DeleteDirEntry e (Directory c)) d h = inl (inr (only_one c d h.0 h.1 h.2))
listed_settled (DeleteDirEntry e (File kind file)) d h =
    absurd (let low = h.1 in omega (arith, low))
listed_settled (MoveDirEntry a b node (Some (Directory c))) d h =
    inl (inr (only_one c d h.0 h.1 h.2))
listed_settled (MoveDirEntry a b node (Some (File kind file))) d h =
    absurd (let low = h.1 in omega (arith, low))
listed_settled (MoveDirEntry a b node None) d h = absurd (let low = h.1 in omega (arith, low))
listed_settled (LinkDirEntry e kind file old half) d h =
    absurd (let low = h.1 in omega (arith, low))
listed_settled (ChangeFileSize file to) d h = absurd (let low = h.1 in omega (arith, low))
listed_settled (WriteBlock file block start at bytes) d h =
    absurd (let low = h.1 in omega (arith, low))
listed_settled (SetAttr (targets.Directory c path) rights) d h =
    inr (
      path,
      rights,
      ap (λ n. SetAttr (targets.Directory n path) rights)
          (only_one c d h.0 h.1 h.2),
    )
listed_settled (SetAttr (targets.File file) rights) d h =
    absurd (let low = h.1 in omega (arith, low))
listed_settled Say d h = absurd (let low = h.1 in omega (arith, low))

-- both settle one directory
pub settled_says : (a b : MicroOp) → list_any (settles a) (directories_settled b) ≡ true → (d : ℕ)
    × Settles a d × Settles b d
settled_says a b h =
    let w = any_found (settles a) (directories_settled b) h in
    (w.0, settles_says a w.0 w.2, listed_settled b w.0 w.1)

pub says_settled : (a b : MicroOp) (d : ℕ) → Settles a d → Settles b d
    → list_any (settles a) (directories_settled b) ≡ true
says_settled a b d x y =
    any_from (settles a) (directories_settled b) d (settled_listed b d y) (says_settles a d x)

-- b removes a directory, and a touches an entry in it
pub empties_says : (a b : MicroOp) → empties (entry_op a) (entry_op b) ≡ true → (d : ℕ)
    × Removes (entry_op b) d × TouchesEntryOf a d
empties_says a b h =
    let w = any_found (λ (e : Entry). removes (entry_op b) e.directory)
    (entries_touched (entry_op a)) h in (
      w.0.directory,
      removes_says (entry_op b) w.0.directory w.2,
      record { entry = w.0; touching = w.1; inside = refl },
    )

pub says_empties : (a b : MicroOp) (d : ℕ) → Removes (entry_op b) d → TouchesEntryOf a d
    → empties (entry_op a) (entry_op b) ≡ true
says_empties a b d gone w =
    any_from (λ (e : Entry). removes (entry_op b) e.directory) (entries_touched (entry_op a))
    w.entry w.touching
    (ap (removes (entry_op b)) w.inside ∙ says_removes (entry_op b) d gone)

pub moves_says : (o : EntryOp) → moves_directory o ≡ true → MovesDirectory o
moves_says (Move a b (Directory c) old) h = tt
moves_says (Move a b (File kind file) old) h = absurd (false≢true h)
moves_says (Create e node) h = absurd (false≢true h)
moves_says (Link e kind file) h = absurd (false≢true h)
moves_says (Delete e node) h = absurd (false≢true h)
moves_says Other h = absurd (false≢true h)

pub says_moves : (o : EntryOp) → MovesDirectory o → moves_directory o ≡ true
says_moves (Move a b (Directory c) old) h = refl
says_moves (Move a b (File kind file) old) h = absurd h
says_moves (Create e node) h = absurd h
says_moves (Link e kind file) h = absurd h
says_moves (Delete e node) h = absurd h
says_moves Other h = absurd h

-- ---- the rules that look at the two alone

abbrev pub OneBlock : MicroOp → MicroOp → Type 0
OneBlock a b = (file : ℕ) × (block : ℕ) × WritesBlock a file block × WritesBlock b file block

abbrev pub OneFile : MicroOp → MicroOp → Type 0
OneFile a b = (file : ℕ) × ChangesSize a file × ChangesSize b file

pub place_says : (a b : MicroOp) → same_block_or_size a b ≡ true → OneBlock a b ⊎ OneFile a b
place_says (WriteBlock file block start at bytes) (WriteBlock other number begin from more) h =
    let parts = and_parts (file == other) (block == number) h in
    let f = sym (eqb-true file other parts.0) in
    let b = sym (eqb-true block number parts.1) in
    inl (
      file,
      block,
      (start, at, bytes, refl),
      (begin, from, more, λ w. WriteBlock (f w) (b w) begin from more),
    )
place_says (ChangeFileSize file to) (ChangeFileSize other size) h =
    inr (file, (to, refl), (size, ap (λ w. ChangeFileSize w size) (sym (eqb-true file other h))))
place_says a b h = absurd (false≢true h)

pub block_place : (a b : MicroOp) (file block : ℕ) → WritesBlock a file block
    → WritesBlock b file block → same_block_or_size a b ≡ true
block_place a b file block x y =
    (λ w. same_block_or_size (x.3 w) (y.3 w)) ∙ and_from (file == file) (block == block)
    (eq-eqb file file refl) (eq-eqb block block refl)

pub size_place : (a b : MicroOp) (file : ℕ) → ChangesSize a file → ChangesSize b file
    → same_block_or_size a b ≡ true
size_place a b file x y = (λ w. same_block_or_size (x.1 w) (y.1 w)) ∙ eq-eqb file file refl

pub say_says : (a b : MicroOp) → both_say a b ≡ true → (a ≡ Say) × (b ≡ Say)
say_says Say Say h = (refl, refl)
say_says a b h = absurd (false≢true h)

abbrev pub OneOwner : MicroOp → MicroOp → Type 0
OneOwner a b = (file : ℕ) × SetsFile a file × SetsFile b file

pub file_says : (a b : MicroOp) → sets_same_file a b ≡ true → OneOwner a b
file_says (SetAttr (targets.File file) rights) (SetAttr (targets.File other) more) h = (
  file,
  (rights, refl),
  (more, ap (λ w. SetAttr (targets.File w) more) (sym (eqb-true file other h))),
)
file_says a b h = absurd (false≢true h)

pub says_file : (a b : MicroOp) (file : ℕ) → SetsFile a file → SetsFile b file
    → sets_same_file a b ≡ true
says_file a b file x y = (λ w. sets_same_file (x.1 w) (y.1 w)) ∙ eq-eqb file file refl

pub entry_operation_says : (o : MicroOp) → is_entry_operation o ≡ true → IsEntryOperation o
entry_operation_says (CreateDirEntry e node rights bytes) h = tt
entry_operation_says (DeleteDirEntry e node) h = tt
entry_operation_says (MoveDirEntry a b node old) h = tt
entry_operation_says (LinkDirEntry e kind file old half) h = tt
entry_operation_says (ChangeFileSize file size) h = absurd (false≢true h)
entry_operation_says (WriteBlock file block start at bytes) h = absurd (false≢true h)
entry_operation_says (SetAttr target rights) h = absurd (false≢true h)
entry_operation_says Say h = absurd (false≢true h)

pub says_entry_operation : (o : MicroOp) → IsEntryOperation o → is_entry_operation o ≡ true
says_entry_operation (CreateDirEntry e node rights bytes) h = refl
says_entry_operation (DeleteDirEntry e node) h = refl
says_entry_operation (MoveDirEntry a b node old) h = refl
says_entry_operation (LinkDirEntry e kind file old half) h = refl
says_entry_operation (ChangeFileSize file size) h = absurd h
says_entry_operation (WriteBlock file block start at bytes) h = absurd h
says_entry_operation (SetAttr target rights) h = absurd h
says_entry_operation Say h = absurd h

both_operations : (a b : MicroOp) → (is_entry_operation a && is_entry_operation b) ≡ true
    → IsEntryOperation a × IsEntryOperation b
both_operations a b h =
    let parts = and_parts (is_entry_operation a) (is_entry_operation b) h in
    (entry_operation_says a parts.0, entry_operation_says b parts.1)

pub order_says : (profile : Profile) (a b : MicroOp) → keeps_order profile a b ≡ true
    → KeepsOrder profile × IsEntryOperation a × IsEntryOperation b
order_says profiles.Blocks a b h = absurd (false≢true h)
order_says profiles.Ordered a b h = (let w = both_operations a b h in (tt, w.0, w.1))
order_says profiles.Journal a b h = (let w = both_operations a b h in (tt, w.0, w.1))

pub says_order : (profile : Profile) (a b : MicroOp) → KeepsOrder profile → IsEntryOperation a
    → IsEntryOperation b → keeps_order profile a b ≡ true
says_order profiles.Blocks a b keeps x y = absurd keeps
says_order profiles.Ordered a b keeps x y =
    and_from (is_entry_operation a) (is_entry_operation b) (says_entry_operation a x)
    (says_entry_operation b y)
says_order profiles.Journal a b keeps x y =
    and_from (is_entry_operation a) (is_entry_operation b) (says_entry_operation a x)
    (says_entry_operation b y)

pub first_line_says : (version : Version) (a : MicroOp) → says_before version a ≡ true
    → (says_first version ≡ true) × (a ≡ Say)
first_line_says version Say h = (h, refl)
first_line_says version a h = absurd (false≢true h)

pub says_first_line : (version : Version) (a : MicroOp) → says_first version ≡ true → a ≡ Say
    → says_before version a ≡ true
says_first_line version a first is = ap (says_before version) is ∙ first

abbrev pub LinkedFile : MicroOp → MicroOp → Type 0
LinkedFile a b =
    (file : ℕ) × (kind : FileKind) × (other : FileKind) × Creates a (File kind file)
    × Links b other file

pub linked_says : (a b : MicroOp) → creates_linked a b ≡ true → LinkedFile a b
linked_says (CreateDirEntry e (File kind file) rights bytes) (LinkDirEntry f other number old half)
    h = (
      file,
      kind,
      other,
      (e, rights, bytes, refl),
      (f, old, half, ap (λ n. LinkDirEntry f other n old half) (sym (eqb-true file number h))),
    )
linked_says a b h = absurd (false≢true h)

pub says_linked : (a b : MicroOp) (file : ℕ) (kind other : FileKind) → Creates a (File kind file)
    → Links b other file → creates_linked a b ≡ true
says_linked a b file kind other x y =
    (λ w. creates_linked (x.3 w) (y.3 w)) ∙ eq-eqb file file refl

pub half_says : (o : MicroOp) → is_first_half o ≡ true → (e : DirEntry) × (kind : FileKind)
    × (file : ℕ) × (old : Option Node) × (o ≡ LinkDirEntry e kind file old true)
half_says (LinkDirEntry e kind file old half) h =
    (e, kind, file, old, ap (LinkDirEntry e kind file old) h)
half_says o h = absurd (false≢true h)
