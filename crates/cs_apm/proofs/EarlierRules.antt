-- Rules that look at two micro-operations alone, as they were before version 4.
use Rattle.std.proofs.Common.{◌≡◌, ℕ, zero, suc, ◌<◌, ◌&&◌, true, false, List, [], ◌∷◌, ◌⊎◌, inl, inr, Some}
use Rattle.std.proofs.Common.{refl, sym, ap, ◌∙◌, subst, arith, length, map, get_or}
use Rattle.std.proofs.lemmas.Bool.{false≢true}
use Rattle.std.specs.List.{Contains}
use Rattle.cs_entries.specs.declared.entry.DirEntry.{DirEntry}
use Rattle.cs_entries.specs.declared.entry.Entry.{Entry}
use Rattle.cs_entries.specs.declared.node.Node.TheVariants.{Directory, File}
use Rattle.cs_entries.specs.DirEntries.{IsNamed, entry_of}
use Rattle.cs_entries.specs.Entries.{Entries}
use Rattle.cs_entries.specs.Entries as entry
use Rattle.cs_entries.specs.Rules.{entries_touched}
use Rattle.cs_start.specs.declared.rights.Rights.{Rights}
use Rattle.cs_tree_model.specs.Tree.{Path}
use Rattle.cs_trace_lines.specs.Lines.{is_early}
use Rattle.cs_trace_lines.specs.Versions.{is_fourth, profile_of}
use Rattle.cs_trace_lines.specs.Earlier.Version as versions_before
use Rattle.cs_trace_lines.specs.declared.profile.Profile.{Profile}
use Rattle.cs_trace_lines.specs.declared.profile.Profile.TheVariants.{Blocks, Ordered, Journal}
use Rattle.cs_trace_lines.specs.declared.version.Version.{Version}
use Rattle.cs_trace_lines.specs.declared.version.Version.TheVariants.{First, Second, Third, Fourth}
use Rattle.cs_trace.specs.declared.operation.Target.TheVariants as targets
use Rattle.cs_trace.specs.Earlier.Same.{version_before}
use Rattle.cs_micro.specs.declared.micro_op.MicroOp.{MicroOp}
use Rattle.cs_micro.specs.declared.micro_op.MicroOp.TheVariants.{CreateDirEntry, DeleteDirEntry, MoveDirEntry, LinkDirEntry, ChangeFileSize}
use Rattle.cs_micro.specs.declared.micro_op.MicroOp.TheVariants.{WriteBlock, SetAttr, Say}
use Rattle.cs_micro.specs.Earlier.MicroOp.{MicroOp as EarlierMicroOp}
use Rattle.cs_micro.specs.Earlier.Same.{op_before}
use Rattle.cs_micro.specs.Legal.{AreNamed, entry_op}
use Rattle.cs_apm.specs.Rules as rules
use Rattle.cs_apm.specs.Rules.{op_at}
use Rattle.cs_apm.specs.Earlier.Rules as before

-- ---- the same tests

pub at_before : (ops : List MicroOp) (k : ℕ) → before.op_at (map op_before ops) k ≡ op_before (op_at ops k)
at_before [] k = refl
at_before (o ∷ ops) zero = refl
at_before (o ∷ ops) (suc k) = at_before ops k

pub early_place : (a b : MicroOp) → before.same_block_or_size (op_before a) (op_before b) ≡ rules.same_block_or_size a b
early_place (CreateDirEntry e node rights bytes) b = refl
early_place (DeleteDirEntry e node) b = refl
early_place (MoveDirEntry c d node old) b = refl
early_place (LinkDirEntry e kind file old half) b = refl
early_place (SetAttr target rights) b = refl
early_place Say b = refl
early_place (WriteBlock file block start at bytes) (WriteBlock other number begin from more) = refl
early_place (WriteBlock file block start at bytes) (CreateDirEntry e node rights some) = refl
early_place (WriteBlock file block start at bytes) (DeleteDirEntry e node) = refl
early_place (WriteBlock file block start at bytes) (MoveDirEntry c d node old) = refl
early_place (WriteBlock file block start at bytes) (LinkDirEntry e kind linked old half) = refl
early_place (WriteBlock file block start at bytes) (ChangeFileSize other to) = refl
early_place (WriteBlock file block start at bytes) (SetAttr target rights) = refl
early_place (WriteBlock file block start at bytes) Say = refl
early_place (ChangeFileSize file to) (ChangeFileSize other size) = refl
early_place (ChangeFileSize file to) (CreateDirEntry e node rights bytes) = refl
early_place (ChangeFileSize file to) (DeleteDirEntry e node) = refl
early_place (ChangeFileSize file to) (MoveDirEntry c d node old) = refl
early_place (ChangeFileSize file to) (LinkDirEntry e kind linked old half) = refl
early_place (ChangeFileSize file to) (WriteBlock other block start at bytes) = refl
early_place (ChangeFileSize file to) (SetAttr target rights) = refl
early_place (ChangeFileSize file to) Say = refl

pub early_say : (a b : MicroOp) → before.both_say (op_before a) (op_before b) ≡ rules.both_say a b
early_say Say (CreateDirEntry e node rights bytes) = refl
early_say Say (DeleteDirEntry e node) = refl
early_say Say (MoveDirEntry c d node old) = refl
early_say Say (LinkDirEntry e kind file old half) = refl
early_say Say (ChangeFileSize file to) = refl
early_say Say (WriteBlock file block start at bytes) = refl
early_say Say (SetAttr target rights) = refl
early_say Say Say = refl
early_say (CreateDirEntry e node rights bytes) b = refl
early_say (DeleteDirEntry e node) b = refl
early_say (MoveDirEntry c d node old) b = refl
early_say (LinkDirEntry e kind file old half) b = refl
early_say (ChangeFileSize file to) b = refl
early_say (WriteBlock file block start at bytes) b = refl
early_say (SetAttr target rights) b = refl

pub early_owner : (a b : MicroOp) → before.sets_same_file (op_before a) (op_before b) ≡ rules.sets_same_file a b
early_owner (SetAttr (targets.File file) rights) (CreateDirEntry e node more bytes) = refl
early_owner (SetAttr (targets.File file) rights) (DeleteDirEntry e node) = refl
early_owner (SetAttr (targets.File file) rights) (MoveDirEntry c d node old) = refl
early_owner (SetAttr (targets.File file) rights) (LinkDirEntry e kind linked old half) = refl
early_owner (SetAttr (targets.File file) rights) (ChangeFileSize other to) = refl
early_owner (SetAttr (targets.File file) rights) (WriteBlock other block start at bytes) = refl
early_owner (SetAttr (targets.File file) rights) (SetAttr (targets.File other) more) = refl
early_owner (SetAttr (targets.File file) rights) (SetAttr (targets.Directory d path) more) = refl
early_owner (SetAttr (targets.File file) rights) Say = refl
early_owner (SetAttr (targets.Directory c path) rights) b = refl
early_owner (CreateDirEntry e node rights bytes) b = refl
early_owner (DeleteDirEntry e node) b = refl
early_owner (MoveDirEntry c d node old) b = refl
early_owner (LinkDirEntry e kind file old half) b = refl
early_owner (ChangeFileSize file to) b = refl
early_owner (WriteBlock file block start at bytes) b = refl
early_owner Say b = refl

early_kind : (o : MicroOp) → before.is_entry_operation (op_before o) ≡ rules.is_entry_operation o
early_kind (CreateDirEntry e node rights bytes) = refl
early_kind (DeleteDirEntry e node) = refl
early_kind (MoveDirEntry c d node old) = refl
early_kind (LinkDirEntry e kind file old half) = refl
early_kind (ChangeFileSize file to) = refl
early_kind (WriteBlock file block start at bytes) = refl
early_kind (SetAttr target rights) = refl
early_kind Say = refl

pub early_order : (profile : Profile) (a b : MicroOp) → is_early profile ≡ true
    → before.keeps_order profile (op_before a) (op_before b) ≡ rules.keeps_order profile a b
early_order Blocks a b early = refl
early_order Ordered a b early = λ i. early_kind a i && early_kind b i
early_order Journal a b early = absurd (false≢true early)

pub early_profile : (version : Version) → is_fourth version ≡ false
    → versions_before.profile_of (version_before version) ≡ profile_of version
early_profile First early = refl
early_profile (Second profile) early = refl
early_profile (Third profile block) early = refl
early_profile (Fourth profile block) early = absurd (false≢true (sym early))

pub early_first : (version : Version) (a : MicroOp) → is_fourth version ≡ false
    → before.says_before (version_before version) (op_before a) ≡ rules.says_before version a
early_first First Say early = refl
early_first (Second profile) Say early = refl
early_first (Third profile block) Say early = refl
early_first (Fourth profile block) Say early = absurd (false≢true (sym early))
early_first version (CreateDirEntry e node rights bytes) early = refl
early_first version (DeleteDirEntry e node) early = refl
early_first version (MoveDirEntry c d node old) early = refl
early_first version (LinkDirEntry e kind file old half) early = refl
early_first version (ChangeFileSize file to) early = refl
early_first version (WriteBlock file block start at bytes) early = refl
early_first version (SetAttr target rights) early = refl

pub early_linked : (a b : MicroOp) → before.creates_linked (op_before a) (op_before b) ≡ rules.creates_linked a b
early_linked (CreateDirEntry e (Directory d) rights bytes) b = refl
early_linked (CreateDirEntry e (File kind file) rights bytes) (CreateDirEntry f node more some) = refl
early_linked (CreateDirEntry e (File kind file) rights bytes) (DeleteDirEntry f node) = refl
early_linked (CreateDirEntry e (File kind file) rights bytes) (MoveDirEntry c d node old) = refl
early_linked (CreateDirEntry e (File kind file) rights bytes) (LinkDirEntry f other number old half) = refl
early_linked (CreateDirEntry e (File kind file) rights bytes) (ChangeFileSize number to) = refl
early_linked (CreateDirEntry e (File kind file) rights bytes) (WriteBlock number block start at some) = refl
early_linked (CreateDirEntry e (File kind file) rights bytes) (SetAttr target more) = refl
early_linked (CreateDirEntry e (File kind file) rights bytes) Say = refl
early_linked (DeleteDirEntry e node) b = refl
early_linked (MoveDirEntry c d node old) b = refl
early_linked (LinkDirEntry e kind file old half) b = refl
early_linked (ChangeFileSize file to) b = refl
early_linked (WriteBlock file block start at bytes) b = refl
early_linked (SetAttr target rights) b = refl
early_linked Say b = refl

-- ---- what is named

abbrev pub dir_entries : MicroOp → List DirEntry
dir_entries (CreateDirEntry e node rights bytes) = e ∷ []
dir_entries (DeleteDirEntry e node) = e ∷ []
dir_entries (MoveDirEntry a b node old) = a ∷ b ∷ []
dir_entries (LinkDirEntry e kind file old half) = e ∷ []
dir_entries _ = []

pub entries_are : (o : MicroOp) → entries_touched (entry_op o) ≡ map entry_of (dir_entries o)
entries_are (CreateDirEntry e node rights bytes) = refl
entries_are (DeleteDirEntry e node) = refl
entries_are (MoveDirEntry c d node old) = refl
entries_are (LinkDirEntry e kind file old half) = refl
entries_are (ChangeFileSize file to) = refl
entries_are (WriteBlock file block start at bytes) = refl
entries_are (SetAttr target rights) = refl
entries_are Say = refl

pub paths_are : (o : MicroOp) → before.paths_touched (op_before o) ≡ map (λ (e : DirEntry). e.path) (dir_entries o)
paths_are (CreateDirEntry e node rights bytes) = refl
paths_are (DeleteDirEntry e node) = refl
paths_are (MoveDirEntry c d node old) = refl
paths_are (LinkDirEntry e kind file old half) = refl
paths_are (ChangeFileSize file to) = refl
paths_are (WriteBlock file block start at bytes) = refl
paths_are (SetAttr target rights) = refl
paths_are Say = refl

-- it sets owner, group and permissions of the directory by this path
abbrev pub SetsAt : MicroOp → ℕ → Path → Type 0
SetsAt o d p = (rights : Rights) × (o ≡ SetAttr (targets.Directory d p) rights)

pub contains_map : {X Y : Type 0} (g : X → Y) (xs : List X) (x : X) → Contains xs x → Contains (map g xs) (g x)
contains_map {X = X} {Y = Y} g xs x w = (w.0, low xs w.0 w.1, at xs w.0 ∙ ap g w.2)
  where
    low : (xs : List X) (k : ℕ) → k < length xs → k < length (map g xs)
    low [] k h = h
    low (y ∷ ys) zero h = omega arith
    low (y ∷ ys) (suc k) h = (let rest = low ys k (omega (arith, h)) in omega (arith, rest))

    at : (xs : List X) (k : ℕ) → get_or (map g xs) k (g x) ≡ g (get_or xs k x)
    at [] k = refl
    at (y ∷ ys) zero = refl
    at (y ∷ ys) (suc k) = at ys k

pub map_contains : {X Y : Type 0} (g : X → Y) (xs : List X) (y : Y) → Contains (map g xs) y → (x : X) × Contains xs x × (g x ≡ y)
map_contains g [] y (k, low, is) = absurd (omega (arith, low))
map_contains g (x ∷ xs) y (zero, low, is) = (x, (0, omega arith, refl), is)
map_contains g (x ∷ xs) y (suc k, low, is) =
    (let w = map_contains g xs y (k, omega (arith, low), is) in
    let inside = w.1.1 in
    (w.0, (suc w.1.0, omega (arith, inside), w.1.2), w.2))

-- the path of an entry that it touches, or of the directory that it sets
pub named_says : (o : MicroOp) (p : Path) → Contains (before.paths_named (op_before o)) p
    → ((e : DirEntry) × Contains (dir_entries o) e × (e.path ≡ p)) ⊎ ((d : ℕ) × SetsAt o d p)
named_says (CreateDirEntry e node rights bytes) p w = inl (map_contains (λ (e : DirEntry). e.path) (e ∷ []) p w)
named_says (DeleteDirEntry e node) p w = inl (map_contains (λ (e : DirEntry). e.path) (e ∷ []) p w)
named_says (MoveDirEntry a b node old) p w = inl (map_contains (λ (e : DirEntry). e.path) (a ∷ b ∷ []) p w)
named_says (LinkDirEntry e kind file old half) p w = inl (map_contains (λ (e : DirEntry). e.path) (e ∷ []) p w)
named_says (ChangeFileSize file to) p (k, low, is) = absurd (omega (arith, low))
named_says (WriteBlock file block start at bytes) p (k, low, is) = absurd (omega (arith, low))
named_says (SetAttr (targets.File file) rights) p (k, low, is) = absurd (omega (arith, low))
named_says (SetAttr (targets.Directory d path) rights) p (zero, low, is) =
    inr (d, (rights, ap (λ q. SetAttr (targets.Directory d q) rights) is))
named_says (SetAttr (targets.Directory d path) rights) p (suc k, low, is) = absurd (omega (arith, low))
named_says Say p (k, low, is) = absurd (omega (arith, low))

pub touched_named : (o : MicroOp) (e : DirEntry) → Contains (dir_entries o) e → Contains (before.paths_named (op_before o)) e.path
touched_named (CreateDirEntry f node rights bytes) e w = contains_map (λ (e : DirEntry). e.path) (f ∷ []) e w
touched_named (DeleteDirEntry f node) e w = contains_map (λ (e : DirEntry). e.path) (f ∷ []) e w
touched_named (MoveDirEntry a b node old) e w = contains_map (λ (e : DirEntry). e.path) (a ∷ b ∷ []) e w
touched_named (LinkDirEntry f kind file old half) e w = contains_map (λ (e : DirEntry). e.path) (f ∷ []) e w
touched_named (ChangeFileSize file to) e (k, low, is) = absurd (omega (arith, low))
touched_named (WriteBlock file block start at bytes) e (k, low, is) = absurd (omega (arith, low))
touched_named (SetAttr target rights) e (k, low, is) = absurd (omega (arith, low))
touched_named Say e (k, low, is) = absurd (omega (arith, low))

pub set_named : (o : MicroOp) (d : ℕ) (p : Path) → SetsAt o d p → Contains (before.paths_named (op_before o)) p
set_named o d p w =
    subst (λ o. Contains (before.paths_named (op_before o)) p) (sym w.1) (0, omega arith, refl)

-- ---- what is legal before the fourth version

-- no directory is moved or replaced, and no rename comes in halves
abbrev pub IsPlain : MicroOp → Type 0
IsPlain (MoveDirEntry a b (Directory d) old) = ⊥
IsPlain (MoveDirEntry a b (File kind file) (Some (Directory d))) = ⊥
IsPlain (LinkDirEntry e kind file old true) = ⊥
IsPlain _ = Unit {0}

pub all_named : (m : Entries) (o : MicroOp) (e : DirEntry) → AreNamed m o → Contains (dir_entries o) e → IsNamed m e
all_named m (CreateDirEntry f node rights bytes) e named (zero, low, is) = subst (IsNamed m) is named
all_named m (CreateDirEntry f node rights bytes) e named (suc k, low, is) = absurd (omega (arith, low))
all_named m (DeleteDirEntry f node) e named (zero, low, is) = subst (IsNamed m) is named
all_named m (DeleteDirEntry f node) e named (suc k, low, is) = absurd (omega (arith, low))
all_named m (MoveDirEntry a b node old) e named (zero, low, is) = subst (IsNamed m) is named.0
all_named m (MoveDirEntry a b node old) e named (suc zero, low, is) = subst (IsNamed m) is named.1
all_named m (MoveDirEntry a b node old) e named (suc (suc k), low, is) = absurd (omega (arith, low))
all_named m (LinkDirEntry f kind file old half) e named (zero, low, is) = subst (IsNamed m) is named
all_named m (LinkDirEntry f kind file old half) e named (suc k, low, is) = absurd (omega (arith, low))
all_named m (ChangeFileSize file to) e named (k, low, is) = absurd (omega (arith, low))
all_named m (WriteBlock file block start at bytes) e named (k, low, is) = absurd (omega (arith, low))
all_named m (SetAttr target rights) e named (k, low, is) = absurd (omega (arith, low))
all_named m Say e named (k, low, is) = absurd (omega (arith, low))
