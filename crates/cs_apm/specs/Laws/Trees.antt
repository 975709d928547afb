-- The state of an allowed set of legal micro-operations is a tree.
use Rattle.std.proofs.Common.{◌≡◌, ◌≢◌, ℕ, zero, suc, ◌+◌, ◌*◌, ◌^◌, ◌<◌, ◌≤◌, ◌==◌, ◌&&◌, ◌||◌, not}
use Rattle.std.proofs.Common.{Bool, true, false, cond, List, [], ◌∷◌, ◌++◌, ◌⊎◌, inl, inr, Option}
use Rattle.std.proofs.Common.{None, Some, refl, sym, ap, ◌∙◌, subst, ⊎_elim, length, map, arith, lit≤}
use Rattle.std.proofs.Common.{get_or, length-append}
use Rattle.std.proofs.lemmas.Bool.{cases_Bool, false≢true}
use Rattle.std.proofs.lemmas.List.{length-set}
use Rattle.std.proofs.lemmas.Nat.Bits.{and_pow, bit_at_above, bit_at_cat_high}
use Rattle.std.specs.FinMap.{FinMap, get}
use Rattle.std.specs.List.{Contains}
use Rattle.std.specs.Option.{is_some, option_map}
use Rattle.std.specs.Prelude.{bit_and, fold, nat_lt, slice_index_or, slice_set}
use Rattle.cs_entries.specs.declared.node.FileKind.TheVariants.{Regular, Symlink}
use Rattle.cs_entries.specs.declared.node.Node.{Node}
use Rattle.cs_entries.specs.declared.node.Node.TheVariants.{Directory, File}
use Rattle.cs_entries.specs.Entries.{all}
use Rattle.cs_entries.specs.Legal.{IsTree as IsEntryTree}
use Rattle.cs_entries.specs.Rules as entries
use Rattle.cs_entries.specs.Rules.{IsClosed, empties, makes_directory, moves_directory, shares_entry}
use Rattle.cs_entries.specs.Sets.{AreFixed, AreNumbered}
use Rattle.cs_entries.specs.Tables.{AreNested, Table, held_in, paths_in, table_after, table_of}
use Rattle.cs_entries.specs.Laws.States.{state_is_tree as entries_are_tree}
use Rattle.cs_entries.specs.Laws.States.{state_nested as entries_are_nested}
use Rattle.cs_tree_model.specs.declared.mode.TheConstants.{DMDIR, DMSYMLINK}
use Rattle.cs_tree_model.specs.declared.record.Record.{Record}
use Rattle.cs_tree_model.specs.Fresh.{IsNested}
use Rattle.cs_tree_model.specs.Laws.Fresh.{fresh_is_tree}
use Rattle.cs_tree_model.specs.Maps.Values.{get-map_values, map_values}
use Rattle.cs_tree_model.specs.Record.{IsDirectory, IsMarked}
use Rattle.cs_tree_model.specs.Tree.{IsTree, Path, parent_path, path_cmp}
use Rattle.cs_start.specs.declared.rights.Rights.{Rights}
use Rattle.cs_trace.specs.declared.operation.Target.TheVariants as targets
use Rattle.cs_trace.specs.Traces.{AreHomes}
use Rattle.cs_trace_lines.specs.Versions.{is_fourth}
use Rattle.cs_trace_lines.specs.declared.profile.Profile.{Profile}
use Rattle.cs_trace_lines.specs.declared.version.Version.{Version}
use Rattle.cs_micro.specs.declared.micro_op.MicroOp.{MicroOp}
use Rattle.cs_micro.specs.declared.micro_op.MicroOp.TheVariants.{CreateDirEntry, DeleteDirEntry}
use Rattle.cs_micro.specs.declared.micro_op.MicroOp.TheVariants.{MoveDirEntry, LinkDirEntry}
use Rattle.cs_micro.specs.declared.micro_op.MicroOp.TheVariants.{ChangeFileSize, WriteBlock}
use Rattle.cs_micro.specs.declared.micro_op.MicroOp.TheVariants.{SetAttr, Say}
use Rattle.cs_micro.specs.declared.sync_point.SyncPoint.{SyncPoint}
use Rattle.cs_micro.specs.Legal.{AreLegal, Made}
use Rattle.cs_apm.specs.Rules.{entry_op_at, is_journaled, is_synced, needs, op_at, pair_needs}
use Rattle.cs_apm.specs.Rules as rules
use Rattle.cs_sets.specs.Sets.{IsAllowed, is_member}
use Rattle.cs_apm.specs.States.{State, directories_after, directories_made, entries_after}
use Rattle.cs_apm.specs.States.{no_rights, nodes_left, permission_bits, record_of, records_of}
use Rattle.cs_apm.specs.States.{state_after, state_of, tree_of_state, with_created}
use Rattle.cs_apm.specs.Laws.Homes.{few, fixed, legal_entries, numbered}
use Rattle.cs_apm.specs.Laws.Members.{contains_has, found_has, members_run, run}

-- ---- entries

-- the entries of a state are folded by themselves
pub entries_fold : (s : State) (ops : List MicroOp)
    → (fold state_after s ops).entries ≡ fold entries_after s.entries ops
entries_fold s [] = refl
entries_fold s (o ∷ ops) = entries_fold (state_after s o) ops

same_run : (has : ℕ → Bool) (start : Table) (ops : List MicroOp) (k : ℕ)
    → run entries_after has start ops k ≡ table_of has start (entry_op_at ops) k
same_run has start ops zero = refl
same_run has start ops (suc k) =
    ap (λ t. cond (has k) (table_after t (entry_op_at ops k)) t) (same_run has start ops k)

-- ---- what the rules of entries ask for, the rules ask for

or_left : (a b : Bool) → a ≡ true → a || b ≡ true
or_left a b is = ap (λ w. w || b) is

or_right : (a b : Bool) → b ≡ true → a || b ≡ true
or_right true b is = refl
or_right false b is = is

-- one of four is true
either : (a b c d : Bool) → (a || b || c || d) ≡ true
    → ((a ≡ true) ⊎ (b ≡ true)) ⊎ ((c ≡ true) ⊎ (d ≡ true))
either true b c d is = inl (inl refl)
either false true c d is = inl (inr refl)
either false false true d is = inr (inl refl)
either false false false true is = inr (inr refl)
either false false false false is = absurd (false≢true is)

and_parts : (a b : Bool) → (a && b) ≡ true → (a ≡ true) × (b ≡ true)
and_parts true b is = (refl, is)
and_parts false b is = absurd (false≢true is)

pair_name : (profile : Profile) (version : Version) (a b : MicroOp)
    → rules.shares_name a b ≡ true → pair_needs version profile a b ≡ true
pair_name profile version a b h =
    or_left _ (rules.both_move_directories a b)
    (or_left _ (rules.creates_linked a b)
    (or_left _ (rules.says_before version a)
    (or_left _ (rules.keeps_order profile a b)
    (or_left _ (rules.sets_same_file a b)
    (or_left _ (rules.both_say a b)
    (or_left _ (rules.touches_removed_directory a b)
    (or_right (rules.same_block_or_size a b) (rules.shares_name a b) h)))))))

pair_removed : (profile : Profile) (version : Version) (a b : MicroOp)
    → rules.touches_removed_directory a b ≡ true → pair_needs version profile a b ≡ true
pair_removed profile version a b h =
    or_left _ (rules.both_move_directories a b)
    (or_left _ (rules.creates_linked a b)
    (or_left _ (rules.says_before version a)
    (or_left _ (rules.keeps_order profile a b)
    (or_left _ (rules.sets_same_file a b)
    (or_left _ (rules.both_say a b)
    (or_right _ (rules.touches_removed_directory a b) h))))))

module _ (ops : List MicroOp) (syncs : List SyncPoint) (version : Version) (profile : Profile)
    (i j : ℕ) where
  abbrev a : MicroOp
  a = op_at ops i

  abbrev b : MicroOp
  b = op_at ops j

  abbrev rest : Bool → Bool → Bool
  rest pair parent =
      pair || parent || is_synced syncs i j a || is_journaled profile ops syncs i j
      || rules.are_halves ops i j

  from_pair : pair_needs version profile a b ≡ true
      → rest (pair_needs version profile a b) (rules.makes_parent ops i j) ≡ true
  from_pair h =
      or_left _ (rules.are_halves ops i j)
      (or_left _ (is_journaled profile ops syncs i j)
      (or_left _ (is_synced syncs i j a)
      (or_left (pair_needs version profile a b) (rules.makes_parent ops i j) h)))

  from_parent : rules.makes_parent ops i j ≡ true
      → rest (pair_needs version profile a b) (rules.makes_parent ops i j) ≡ true
  from_parent h =
      or_left _ (rules.are_halves ops i j)
      (or_left _ (is_journaled profile ops syncs i j)
      (or_left _ (is_synced syncs i j a)
      (or_right (pair_needs version profile a b) (rules.makes_parent ops i j) h)))

  abbrev shares : Bool
  shares = shares_entry (entry_op_at ops i) (entry_op_at ops j)

  abbrev makes : Bool
  makes = makes_directory (entry_op_at ops) i j

  abbrev removes : Bool
  removes = empties (entry_op_at ops i) (entry_op_at ops j)

  abbrev moves : Bool
  moves = moves_directory (entry_op_at ops i) && moves_directory (entry_op_at ops j)

  asks : entries.needs (entry_op_at ops) i j ≡ true → needs ops syncs version profile i j ≡ true
  unfolding needs
  asks is =
      let parts = and_parts (nat_lt i j) (shares || makes || removes || moves) is in
      let any = ⊎_elim
      (λ (h : (shares ≡ true) ⊎ (makes ≡ true)). ⊎_elim
      (λ (s : shares ≡ true). from_pair (pair_name profile version a b (or_left _ _ s)))
      (λ (s : makes ≡ true). from_parent s) h)
      (λ (h : (removes ≡ true) ⊎ (moves ≡ true)). ⊎_elim
      (λ (s : removes ≡ true). from_pair (pair_removed profile version a b s))
      (λ (s : moves ≡ true). from_pair (or_right _ (rules.both_move_directories a b) s)) h)
      (either shares makes removes moves parts.1) in
      λ w. parts.0 w && any w

pub entries_closed : (ops : List MicroOp) (syncs : List SyncPoint) (version : Version)
    (profile : Profile) (n : ℕ) (places : List ℕ)
    → IsAllowed (needs ops syncs version profile) n places
    → IsClosed (entries.needs (entry_op_at ops)) (is_member places)
entries_closed ops syncs version profile n places allowed i j member is =
    let at = found_has places j member in
    contains_has places i
    (allowed.closed at.0 i at.1
    (ap (needs ops syncs version profile i) at.2 ∙ asks ops syncs version profile i j is))

pub inside : (ops : List MicroOp) (needs : ℕ → ℕ → Bool) (n : ℕ) (places : List ℕ)
    → IsAllowed needs n places → (j : ℕ) → is_member places j ≡ true → j < n
inside ops needs n places allowed j member =
    let at = found_has places j member in
    subst (λ k. k < n) at.2 (allowed.in_range at.0 at.1)

-- ---- the records of a state

no_bit : (n : ℕ) → n < 2 ^ 31 → bit_and n DMDIR ≡ 0
no_bit n below =
    let none = bit_at_above n 31 31 below (lit≤ tt) in
    and_pow n 31 ∙ ap (λ b. b * 2 ^ 31) none

has_bit : (n : ℕ) → n < 512 → bit_and (DMDIR + n) DMDIR ≡ DMDIR
has_bit n low =
    let below : n < 2 ^ 31 = omega arith in
    and_pow (DMDIR + n) 31 ∙ ap (λ b. b * 2 ^ 31) (bit_at_cat_high 1 31 n 31 below (lit≤ tt))

unmarked : (n : ℕ) → n < 2 ^ 31 → not (bit_and n DMDIR == 0) ≡ false
unmarked n low = ap (λ b. not (b == 0)) (no_bit n low)

nine_bits : (n : ℕ) → permission_bits n < 512
nine_bits n = omega arith

pub marked : (s : State) (node : Node) → IsMarked (record_of s node)
marked s (Directory d) =
    (let p = (slice_index_or s.directories d no_rights).permissions in
    let bit = has_bit (permission_bits p) (nine_bits p) in rw bit refl)
marked s (File Regular file) =
    (let p = (slice_index_or s.owners file no_rights).permissions in
    unmarked (0 + permission_bits p) (let low = nine_bits p in omega (arith, low)))
marked s (File Symlink file) =
    (let p = (slice_index_or s.owners file no_rights).permissions in
    unmarked (DMSYMLINK + permission_bits p) (let low = nine_bits p in omega (arith, low)))

module _ (s : State) (h : AreNested (nodes_left s)) where
  found : (p : Path) (node : Node) → get (nodes_left s) p ≡ Some node
      → get (records_of s) p ≡ Some (record_of s node)
  found p node at =
      get-map_values path_cmp (record_of s) (nodes_left s) p ∙ ap (option_map (record_of s)) at

  directory_record : (p : Path) (d : ℕ) → get (nodes_left s) p ≡ Some (Directory d)
      → (r : Record) × (get (records_of s) p ≡ Some r) × IsDirectory r
  directory_record p d there = (record_of s (Directory d), found p (Directory d) there, refl)

  node_record : (p : Path) (r : Record) → get (records_of s) p ≡ Some r
      → (node : Node) × (get (nodes_left s) p ≡ Some node) × (record_of s node ≡ r)
  node_record p r is =
      by (get (nodes_left s) p) refl
      (sym (get-map_values path_cmp (record_of s) (nodes_left s) p) ∙ is)
    where
      by : (o : Option Node) → get (nodes_left s) p ≡ o → option_map (record_of s) o ≡ Some r
          → (node : Node) × (get (nodes_left s) p ≡ Some node) × (record_of s node ≡ r)
      by None at same = absurd (false≢true (ap is_some same))
      by (Some node) at same = (node, at, cc)

  pub nested_records : IsNested (records_of s)
  nested_records = record {
    root = directory_record [] h.root.0 h.root.1;
    nested = λ p r is named.
        (let w = node_record p r is in let above = h.nested p w.0 w.1 named in
        directory_record (parent_path p) above.0 above.1);
    marked = λ p r is. (let w = node_record p r is in subst IsMarked w.2 (marked s w.0));
  }

-- ---- the tree

-- so many directories have rights, whatever the set
set_long : (xs : List Rights) (k : ℕ) (r : Rights) → length (slice_set xs k r) ≡ length xs
set_long xs k r = length-set xs k r

long_after : (all : List Rights) (o : MicroOp) → length (directories_after all o) ≡ length all
long_after all (CreateDirEntry e (Directory d) rights bytes) = set_long all d rights
long_after all (CreateDirEntry e (File kind file) rights bytes) = refl
long_after all (SetAttr (targets.Directory d path) rights) = set_long all d rights
long_after all (SetAttr (targets.File file) rights) = refl
long_after all (DeleteDirEntry e node) = refl
long_after all (MoveDirEntry a b node old) = refl
long_after all (LinkDirEntry e kind file old half) = refl
long_after all (ChangeFileSize file to) = refl
long_after all (WriteBlock file block start at bytes) = refl
long_after all Say = refl

long_fold : (s : State) (ops : List MicroOp)
    → length (fold state_after s ops).directories ≡ length s.directories
long_fold s [] = refl
long_fold s (o ∷ ops) = long_fold (state_after s o) ops ∙ long_after s.directories o

module _ (start : State) (m : Made) (ops : List MicroOp) (syncs : List SyncPoint)
    (version : Version) (profile : Profile) (places : List ℕ)
    (tree : IsEntryTree (held_in start.entries))
    (begins : m.entries ≡ start.entries)
    (homes : AreHomes m.entries m.homes)
    (as_many : length start.directories ≡ length m.homes)
    (legal : AreLegal version m ops)
    (allowed : IsAllowed (needs ops syncs version profile) (length ops) places) where
  abbrev n : ℕ
  n = length ops

  abbrev has : ℕ → Bool
  has = is_member places

  abbrev few_all : ℕ
  few_all = length m.homes + length (directories_made ops)

  abbrev left : State
  left = state_of start ops places

  numbering : AreNumbered (held_in m.entries) (entry_op_at ops) n
      ⊎ AreFixed (held_in m.entries) (entry_op_at ops) n
  numbering = ⊎_elim
      (λ (h : is_fourth version ≡ true). inl (numbered version m ops legal homes h))
      (λ (h : is_fourth version ≡ false). inr (fixed version m ops legal homes h))
      (cases_Bool (is_fourth version))

  here_tree : IsEntryTree (held_in m.entries)
  here_tree = subst (λ t. IsEntryTree (held_in t)) (sym begins) tree

  pub entries_left : left.entries ≡ table_of has m.entries (entry_op_at ops) n
  unfolding state_of
  entries_left =
      entries_fold (with_created start ops) (map (op_at ops) places)
      ∙ members_run entries_after start.entries ops n places allowed.ascending allowed.in_range
      ∙ same_run has start.entries ops n
      ∙ ap (λ t. table_of has t (entry_op_at ops) n) (sym begins)

  pub long_left : length left.directories ≡ few_all
  unfolding state_of
  long_left =
      long_fold (with_created start ops) (map (op_at ops) places)
      ∙ length-append start.directories (directories_made ops)
      ∙ ap (λ k. k + length (directories_made ops)) as_many

  pub state_tree : IsEntryTree (held_in left.entries)
  state_tree =
      subst (λ t. IsEntryTree (held_in t)) (sym entries_left)
      (entries_are_tree m.entries (entry_op_at ops) n few_all has here_tree
      (legal_entries version m ops legal homes) numbering (few version m ops legal homes)
      (inside ops (needs ops syncs version profile) n places allowed)
      (entries_closed ops syncs version profile n places allowed))

  pub state_nodes : AreNested (nodes_left left)
  state_nodes =
      subst AreNested (λ i. paths_in (sym long_left i + 1) (sym entries_left i))
      (entries_are_nested m.entries (entry_op_at ops) n few_all has here_tree
      (legal_entries version m ops legal homes) numbering (few version m ops legal homes)
      (inside ops (needs ops syncs version profile) n places allowed)
      (entries_closed ops syncs version profile n places allowed))

  pub state_is_tree : IsTree (tree_of_state left)
  state_is_tree = fresh_is_tree (records_of left) (nested_records left state_nodes)
