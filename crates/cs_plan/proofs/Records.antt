-- How many records a state has: no more than the trace ever makes.
use Rattle.std.proofs.Common.{◌≡◌, ◌≤◌, ℕ, zero, suc, ◌+◌, ◌-◌, ◌==◌, ◌&&◌, not, Bool, true, false, cond, List, [], ◌∷◌, ◌++◌, Option, None, Some}
use Rattle.std.proofs.Common.{count_by, length, map, refl, sym, ap, ◌∙◌, subst, take, ⊎_elim, arith, ◌⊎◌}
use Rattle.std.proofs.lemmas.Bool.{cases_eq}
use Rattle.std.proofs.lemmas.List.{length-map, take_all, take_more}
use Rattle.std.proofs.lemmas.List.FromFn.{length-map-range_with_len}
use Rattle.std.proofs.lemmas.List.Sums.{sum_by-append, sum_by-cons}
use Rattle.std.specs.FinMap.{FinMap, contains_key, empty_of_len, entries, len-entries, from_entries, get, get-empty, insert, len, len-empty}
use Rattle.std.specs.FinMap.{get-entries, len-insert, len-remove, remove}
use Rattle.std.specs.List.{flat_map, range_with_len, sum_by, zip}
use Rattle.std.specs.Option.{is_some, option_map, option_map_or}
use Rattle.std.specs.Prelude.{fold, nat_eq}
use Rattle.cs_names.specs.declared.limits.TheConstants.{TREE_RECORDS}
use Rattle.cs_tree_model.specs.declared.record.Record.{Record}
use Rattle.cs_tree_model.specs.Fresh.{fresh, fresh_record, place_in}
use Rattle.cs_tree_model.specs.Laws.Fresh.{record_at-fresh}
use Rattle.cs_tree_model.specs.Laws.FreshReads.{next-fresh}
use Rattle.cs_tree_model.specs.Laws.Paths.{path_exact, path_total}
use Rattle.cs_tree_model.specs.Maps.Values.{entries-map_values, map_values}
use Rattle.cs_tree_model.specs.Tree.{Path, path_cmp, record_at}
use Rattle.cs_entries.specs.declared.entry.DirEntry.{DirEntry}
use Rattle.cs_entries.specs.declared.entry.Entry.{Entry}
use Rattle.cs_entries.specs.declared.node.FileKind.{FileKind}
use Rattle.cs_entries.specs.declared.node.Node.{Node}
use Rattle.cs_entries.specs.declared.node.Node.TheVariants.{Directory, File}
use Rattle.cs_entries.specs.DirEntries.{entry_of}
use Rattle.cs_entries.specs.Entries.{entry_eq}
use Rattle.cs_entries.specs.Legal.{IsTree as IsEntryTree}
use Rattle.cs_entries.specs.Tables.{Table, entry_cmp, held_in}
use Rattle.cs_entries.specs.Laws.Listed.{In}
use Rattle.cs_entries.specs.Laws.Records.{entry_total, find_in}
use Rattle.cs_trace.specs.Operations.{made_by}
use Rattle.cs_trace.specs.Traces.{Paths, Trace, directory_count, entries_of_paths, held_by_path, records_made, start_paths, start_table}
use Rattle.cs_trace.specs.declared.operation.Operation.{Operation}
use Rattle.cs_trace.specs.declared.operation.Operation.TheVariants.{Creat, Mkdir, Link, Unlink, Rmdir, Rename, Write, Truncate, SetAttr}
use Rattle.cs_trace.specs.declared.operation.Operation.TheVariants.{Sync}
use Rattle.cs_trace.specs.declared.operation.Operation.TheVariants as operations
use Rattle.cs_trace_lines.specs.Versions.{is_fourth, profile_of}
use Rattle.cs_trace_lines.specs.declared.version.Version.{Version}
use Rattle.cs_micro.specs.Blocks.{block_write, block_writes, touched_blocks}
use Rattle.cs_micro.specs.MicroOperations.{bytes_micros, block_of_version, growth_micros, growth_sizes, halves, is_blocks}
use Rattle.cs_micro.specs.MicroOperations.{micro_operations_of, micros_of, move_micros, same_rights, zero_micros}
use Rattle.cs_micro.specs.Micros.{AreLegalFromStart, micros_in}
use Rattle.cs_micro.specs.Pages.{zeros_behind}
use Rattle.cs_micro.specs.declared.micro_op.MicroOp.{MicroOp}
use Rattle.cs_micro.specs.declared.micro_op.MicroOp.TheVariants.{CreateDirEntry, DeleteDirEntry, MoveDirEntry, LinkDirEntry, ChangeFileSize}
use Rattle.cs_micro.specs.declared.micro_op.MicroOp.TheVariants.{Say}
use Rattle.cs_micro.specs.declared.micro_op.MicroOp.TheVariants as micro
use Rattle.cs_apm.specs.Orders.{needs_of}
use Rattle.cs_apm.specs.Rules.{op_at}
use Rattle.cs_apm.specs.Laws.Members.{members_run, run}
use Rattle.cs_apm.specs.Laws.Trees.{entries_fold, state_tree}
use Rattle.cs_sets.specs.Sets.{IsAllowed, is_member}
use Rattle.cs_apm.specs.States.{State, crash_state_of, entries_after, nodes_left, record_of}
use Rattle.cs_apm.specs.States.{directory_owner, start_state, state_of, with_created}
use Rattle.cs_plan.specs.Scenes.{IsNew}
use Rattle.cs_plan.proofs.Counting.{count_push, first_more}
use Rattle.cs_plan.proofs.Reached.{few_paths}

-- it makes an entry
abbrev pub makes : MicroOp → Bool
makes (CreateDirEntry e node rights bytes) = true
makes (LinkDirEntry e kind file old half) = true
makes _ = false

-- ---- one micro-operation

at_most : (b : Bool) (n k : ℕ) → n ≡ cond b k (k + 1) → n ≤ k + 1
at_most true n k e = omega (arith, e)
at_most false n k e = omega (arith, e)

insert_most : {X : Type 0} (m : FinMap entry_cmp X) (e : Entry) (x : X) → len (insert m e x) ≤ len m + 1
insert_most m e x = at_most (contains_key m e) (len (insert m e x)) (len m) (len-insert entry_total m e x)

fewer : (b : Bool) (n k : ℕ) → n ≡ cond b (k - 1) k → n ≤ k
fewer true n k e = omega (arith, e)
fewer false n k e = omega (arith, e)

remove_most : {X : Type 0} (m : FinMap entry_cmp X) (e : Entry) → len (remove m e) ≤ len m
remove_most m e = fewer (contains_key m e) (len (remove m e)) (len m) (len-remove entry_total m e)

some_none : {X : Type 0} (x : X) → None ≡ Some x → ⊥
some_none x e = cc e

-- if something is there, there is one less without it
removed : {X : Type 0} (m : FinMap entry_cmp X) (e : Entry) (x : X) → get m e ≡ Some x → len (remove m e) + 1 ≤ len m
removed m e x there =
    let less : len (remove m e) ≡ len m - 1 = len-remove entry_total m e ∙ ap (λ o. cond (is_some o) (len m - 1) (len m)) there in
    ⊎_elim
    (λ (none : len m ≡ 0). absurd (some_none x (sym (ap (λ n. get n e) (empty_of_len m none) ∙ get-empty entry_cmp e) ∙ there)))
    (λ (some : len m ≡ 0 → ⊥). omega (arith, less, some))
    (cases_eq (len m) 0)

abbrev with_moved : Entry → Entry → Table → Table
with_moved a b t = option_map_or (λ held. insert (remove t a) b held) (get t a) t

moved_most : (t : Table) (a b : Entry) (o : Option Node) → get t a ≡ o → len (with_moved a b t) ≤ len t
unfolding with_moved
moved_most t a b None e =
    let same : with_moved a b t ≡ t = ap (λ o. option_map_or (λ held. insert (remove t a) b held) o t) e in
    subst (λ n. len n ≤ len t) (sym same) (omega arith)
moved_most t a b (Some x) e =
    let same : with_moved a b t ≡ insert (remove t a) b x = ap (λ o. option_map_or (λ held. insert (remove t a) b held) o t) e in
    let less = removed t a x e in
    let more = insert_most (remove t a) b x in
    subst (λ n. len n ≤ len t) (sym same) (omega (arith, less, more))

one_more : (t : Table) (o : MicroOp) → len (entries_after t o) ≤ len t + cond (makes o) 1 0
unfolding with_moved
one_more t (CreateDirEntry e node rights bytes) = insert_most t (entry_of e) node
one_more t (DeleteDirEntry e node) = (let h = remove_most t (entry_of e) in omega (arith, h))
one_more t (MoveDirEntry a b node old) =
    (let h = moved_most t (entry_of a) (entry_of b) (get t (entry_of a)) refl in omega (arith, h))
one_more t (LinkDirEntry e kind file old half) = insert_most t (entry_of e) (File kind file)
one_more t _ = omega arith

-- ---- those of a set

next : (n : ℕ) → n + 1 ≡ suc n
next n = omega arith

-- one place more, whether the set has it or not
place_more : (has : ℕ → Bool) (start : Table) (ops : List MicroOp) (n most : ℕ) (b : Bool) → has n ≡ b
    → len (run entries_after has start ops n) ≤ most
    → len (run entries_after has start ops (suc n)) ≤ most + cond (makes (op_at ops n)) 1 0
place_more has start ops n most true is before =
    let r = run entries_after has start ops n in
    let one = one_more r (op_at ops n) in
    subst (λ b. len (cond b (entries_after r (op_at ops n)) r) ≤ most + cond (makes (op_at ops n)) 1 0) (sym is)
    (omega (arith, one, before))
place_more has start ops n most false is before =
    let r = run entries_after has start ops n in
    subst (λ b. len (cond b (entries_after r (op_at ops n)) r) ≤ most + cond (makes (op_at ops n)) 1 0) (sym is) (omega (arith, before))

run_most : (has : ℕ → Bool) (start : Table) (ops : List MicroOp) (n : ℕ)
    → len (run entries_after has start ops n) ≤ len start + count_by (λ k. makes (op_at ops k)) (range_with_len 0 n)
run_most has start ops zero = omega arith
run_most has start ops (suc n) =
    let p : ℕ → Bool = λ k. makes (op_at ops k) in
    let more = first_more p n (makes (op_at ops n)) refl in
    let one = place_more has start ops n (len start + count_by p (range_with_len 0 n)) (has n) refl (run_most has start ops n) in
    subst (λ k. len (run entries_after has start ops (suc n)) ≤ len start + count_by p (range_with_len 0 k)) (next n)
    (omega (arith, more, one))

-- ---- those of a trace

made_first : (ops : List MicroOp) (n : ℕ) → n ≤ length ops
    → count_by (λ k. makes (op_at ops k)) (range_with_len 0 n) ≡ count_by makes (take n ops)
made_first ops zero low = refl
made_first ops (suc n) low =
    let more : n + 1 ≡ suc n = omega arith in
    ap (λ k. count_by (λ k. makes (op_at ops k)) (range_with_len 0 k)) (sym more)
    ∙ first_more (λ k. makes (op_at ops k)) n (makes (op_at ops n)) refl
    ∙ ap (λ c. c + cond (makes (op_at ops n)) 1 0) (made_first ops n (omega (arith, low)))
    ∙ sym (count_push makes (take n ops) (op_at ops n) (makes (op_at ops n)) refl)
    ∙ ap (count_by makes) (sym (take_more ops n Say (omega (arith, low))))
    ∙ ap (λ k. count_by makes (take k ops)) more

abbrev made_in : List MicroOp → ℕ
made_in ops = count_by makes ops

none_made : {X : Type 0} (f : X → MicroOp) (xs : List X) → ((x : X) → makes (f x) ≡ false) → made_in (map f xs) ≡ 0
none_made f [] none = refl
none_made f (x ∷ xs) none =
    sum_by-cons (λ o. cond (makes o) 1 0) (f x) (map f xs) ∙ ap (λ b. cond b 1 0 + made_in (map f xs)) (none x) ∙ omega
    (arith, none_made f xs none)

both_made : (xs ys : List MicroOp) → made_in (xs ++ ys) ≡ made_in xs + made_in ys
both_made xs ys = sum_by-append (λ o. cond (makes o) 1 0) xs ys

blocks_make : (b file offset : ℕ) (bytes : List ℕ) → made_in (block_writes b file offset bytes) ≡ 0
unfolding block_writes
blocks_make b file offset bytes = none_made (block_write b file offset bytes) (touched_blocks b offset bytes) (λ _. refl)

grown_make : (version : Version) (file size end : ℕ) → made_in (growth_micros version file size end) ≡ 0
grown_make version file size end = none_made (ChangeFileSize file) (growth_sizes version size end) (λ _. refl)

written_make : (none : Bool) (version : Version) (file size offset : ℕ) (bytes : List ℕ)
    → made_in (cond none [] (growth_micros version file size (offset + length bytes) ++ block_writes (block_of_version version) file offset
    bytes))
    ≡ 0
written_make true version file size offset bytes = refl
written_make false version file size offset bytes =
    both_made (growth_micros version file size (offset + length bytes)) (block_writes (block_of_version version) file offset bytes)
    ∙ omega (arith, grown_make version file size (offset + length bytes), blocks_make (block_of_version version) file offset bytes)

some_bytes_make : (none : Bool) (version : Version) (file offset : ℕ) (bytes : List ℕ)
    → made_in (cond none [] (block_writes (block_of_version version) file offset bytes)) ≡ 0
some_bytes_make true version file offset bytes = refl
some_bytes_make false version file offset bytes = blocks_make (block_of_version version) file offset bytes

zeros_make : (fourth : Bool) (version : Version) (file size to : ℕ)
    → made_in (cond fourth (bytes_micros version file to (zeros_behind size to)) []) ≡ 0
zeros_make true version file size to =
    some_bytes_make (length (zeros_behind size to) == 0) version file to (zeros_behind size to)
zeros_make false version file size to = refl

cut_make : (same : Bool) (version : Version) (file size to : ℕ)
    → made_in (cond same [] (zero_micros version file size to ++ ChangeFileSize file to ∷ [])) ≡ 0
cut_make true version file size to = refl
cut_make false version file size to =
    both_made (zero_micros version file size to) (ChangeFileSize file to ∷ [])
    ∙ omega (arith, zeros_make (is_fourth version) version file size to)

unless_makes : (b : Bool) (o : MicroOp) → makes o ≡ false → made_in (cond b [] (o ∷ [])) ≡ 0
unless_makes true o none = refl
unless_makes false o none = sum_by-cons (λ o. cond (makes o) 1 0) o [] ∙ ap (λ b. cond b 1 0 + made_in []) none

no_more : (n k : ℕ) → n ≡ k → n ≤ k
no_more n k e = omega (arith, e)

none_at_most : (n k : ℕ) → n ≡ 0 → n ≤ k
none_at_most n k e = omega (arith, e)

-- a rename that comes in halves is into another directory, in the fourth version
counts_halves : (fourth blocks same : Bool) (a b : DirEntry) (kind : FileKind) (file : ℕ) (old : Option Node)
    → made_in (cond (fourth && blocks && not same) (halves a b kind file old) (micro.MoveDirEntry a b (File kind file) old ∷ []))
    ≤ cond fourth (cond same 0 1) 0
counts_halves true true true a b kind file old = omega arith
counts_halves true true false a b kind file old = omega arith
counts_halves true false true a b kind file old = omega arith
counts_halves true false false a b kind file old = omega arith
counts_halves false blocks same a b kind file old = omega arith

move_make : (version : Version) (a b : DirEntry) (node : Node) (old : Option Node)
    → made_in (move_micros version a b node old) ≤ made_by version (Rename a b node old)
move_make version a b (Directory d) old = none_at_most _ _ refl
move_make version a b (File kind file) old =
    counts_halves (is_fourth version) (is_blocks (profile_of version)) (a.directory == b.directory) a b kind file old

rename_make : (same : Bool) (version : Version) (a b : DirEntry) (node : Node) (old : Option Node)
    → made_in (cond same [] (move_micros version a b node old)) ≤ made_by version (Rename a b node old)
rename_make true version a b node old = none_at_most _ _ refl
rename_make false version a b node old = move_make version a b node old

made_of : (version : Version) (o : Operation) → made_in (micros_of version o) ≤ made_by version o
made_of version (Creat e file rights) = no_more _ _ refl
made_of version (Mkdir e directory rights) = no_more _ _ refl
made_of version (operations.Symlink e file rights target) = no_more _ _ refl
made_of version (Link e file) = no_more _ _ refl
made_of version (Unlink e kind file) = no_more _ _ refl
made_of version (Rmdir e directory) = no_more _ _ refl
made_of version (Rename a b node old) = rename_make (entry_eq (entry_of a) (entry_of b)) version a b node old
made_of version (Write file size offset bytes) =
    no_more _ _ (written_make (nat_eq (length bytes) 0) version file size offset bytes)
made_of version (Truncate file size to) = no_more _ _ (cut_make (nat_eq size to) version file size to)
made_of version (SetAttr target before after) = no_more _ _ (unless_makes (same_rights before after) (micro.SetAttr target after) refl)
made_of version (Sync covers) = no_more _ _ refl
made_of version operations.Say = no_more _ _ refl

pub made_all : (version : Version) (trace : List Operation)
    → made_in (micro_operations_of version trace) ≤ sum_by (made_by version) trace
unfolding micro_operations_of
made_all version [] = omega arith
made_all version (o ∷ os) =
    (let all = both_made (micros_of version o) (flat_map (micros_of version) os) in
    let one = made_of version o in
    let rest = made_all version os in
    let sum = sum_by-cons (made_by version) o os in
    omega (arith, all, one, rest, sum))

-- ---- the start

from_most : {X : Type 0} (es : List (Entry × X)) → len (from_entries {R = entry_cmp} es) ≤ length es
from_most {X} [] = (let none = len-empty entry_cmp X in omega (arith, none))
from_most (e ∷ es) =
    (let most = insert_most (from_entries {R = entry_cmp} es) e.0 e.1 in let rest = from_most es in omega (arith, most, rest))

path_insert_most : {X : Type 0} (m : FinMap path_cmp X) (p : Path) (x : X) → len (insert m p x) ≤ len m + 1
path_insert_most m p x = at_most (contains_key m p) (len (insert m p x)) (len m) (len-insert path_total m p x)

paths_most : {X : Type 0} (es : List (Path × X)) → len (from_entries {R = path_cmp} es) ≤ length es
paths_most {X} [] = (let none = len-empty path_cmp X in omega (arith, none))
paths_most (e ∷ es) =
    (let most = path_insert_most (from_entries {R = path_cmp} es) e.0 e.1 in let rest = paths_most es in omega (arith, most, rest))

zip_most : {X Y : Type 0} (xs : List X) (ys : List Y) → length (zip xs ys) ≤ length xs
zip_most [] ys = omega arith
zip_most (x ∷ xs) [] = omega arith
zip_most (x ∷ xs) (y ∷ ys) = (let rest = zip_most xs ys in omega (arith, rest))

-- each path but the root's has an entry
held_most : (m : Paths) (xs : List (Path × Node)) → length (flat_map (held_by_path m) xs) ≤ length xs
held_most m [] = omega arith
held_most m (([], node) ∷ xs) = (let rest = held_most m xs in omega (arith, rest))
held_most m ((name ∷ names, node) ∷ xs) = (let rest = held_most m xs in omega (arith, rest))

root_apart : (m : Paths) (xs : List (Path × Node)) (v : Node) → In ([], v) xs → length (flat_map (held_by_path m) xs) + 1 ≤ length xs
root_apart m [] v h = absurd h
root_apart m (([], node) ∷ xs) v h = (let rest = held_most m xs in omega (arith, rest))
root_apart m ((name ∷ names, node) ∷ xs) v h = ⊎_elim
    (λ (here : ◌≡◌ {A = Path × Node} ([], v) (name ∷ names, node)). absurd (not_root (ap (λ x. x.0) here)))
    (λ (later : In ([], v) xs). (let rest = root_apart m xs v later in omega (arith, rest)))
    h
  where
    not_root : ◌≡◌ {A = Path} [] (name ∷ names) → ⊥
    not_root e = cc e

start_most : (t : Trace) → (d : ℕ) × (get (start_paths t) [] ≡ Some (Directory d)) → len (start_table t) + 1 ≤ length t.records
unfolding entries_of_paths
start_most t root =
    (let m = start_paths t in
    let named = map (λ e. e.0) t.records in
    let most = from_most (flat_map (held_by_path m) (entries m)) in
    let first = root_apart m (entries m) (Directory root.0)
    (find_in path_total path_exact [] (entries m) (Directory root.0) (sym (get-entries m []) ∙ root.1)) in
    let all = len-entries m in
    let short = paths_most (zip named t.nodes) in
    let zipped = zip_most named t.nodes in
    let same = length-map t.records (λ (e : Path × Record). e.0) in
    omega (arith, most, first, all, short, zipped, same))

-- ---- the state of a set

module _ (t : Trace) (tree : IsEntryTree (held_in (start_table t))) (legal : AreLegalFromStart t (micros_in t))
    (places : List ℕ) (allowed : IsAllowed (needs_of (micros_in t)) (length (micros_in t).ops) places) where
  abbrev ops : List MicroOp
  ops = (micros_in t).ops

  abbrev left : State
  left = state_of (start_state t) ops places

  abbrev long : length (start_state t).directories ≡ length legal.homes
  long = length-map-range_with_len (directory_owner t) 0 (directory_count t.nodes) ∙ sym legal.many

  left_tree : IsEntryTree (held_in left.entries)
  left_tree =
      state_tree (start_state t) (record { entries = start_table t; files = length t.files; homes = legal.homes }) ops (micros_in t).syncs
      t.version (profile_of t.version) places tree refl legal.are long legal.legal allowed

  entries_most : len left.entries ≤ len (start_table t) + made_in ops
  unfolding state_of
  entries_most =
      (let same : left.entries ≡ run entries_after (is_member places) (start_table t) ops (length ops) =
      entries_fold (with_created (start_state t) ops) (map (op_at ops) places)
      ∙ members_run entries_after (start_table t) ops (length ops) places allowed.ascending allowed.in_range in
      let most = run_most (is_member places) (start_table t) ops (length ops) in
      let made = made_first ops (length ops) (omega arith) ∙ ap made_in (take_all (length ops) ops (omega arith)) in
      subst (λ e. len e ≤ len (start_table t) + made_in ops) (sym same) (omega (arith, most, made)))

  nodes_most : (d : ℕ) × (get (start_paths t) [] ≡ Some (Directory d)) → len (nodes_left left) ≤ records_made t
  nodes_most root =
      (let paths = few_paths left.entries left_tree (length left.directories + 1) in
      let entries = entries_most in
      let first = start_most t root in
      let all = made_all t.version t.operations in
      omega (arith, paths, entries, first, all))

len_map_values : {X Y : Type 0} (f : X → Y) (m : FinMap path_cmp X) → len (map_values f m) ≡ len m
len_map_values f m =
    len-entries (map_values f m) ∙ ap length (entries-map_values path_cmp f m) ∙ length-map (entries m) (λ e. (e.0, f e.1)) ∙ sym
    (len-entries m)

never_changed : (m : FinMap path_cmp Record) (p : Path) (r : Record) (o : Option Record) → get m p ≡ o → record_at (fresh m) p ≡ Some r
    → r.vers ≡ 0
never_changed m p r None none there =
    absurd (some_none r (sym (record_at-fresh m p ∙ ap (option_map (fresh_record (place_in p (entries m)))) none) ∙ there))
never_changed m p r (Some x) some there =
    ap (λ r. r.vers) (some_same (sym there ∙ record_at-fresh m p ∙ ap (option_map (fresh_record (place_in p (entries m)))) some))
  where
    some_same : {X : Type 0} {x y : X} → Some x ≡ Some y → x ≡ y
    some_same e = cc e

-- the tree of an allowed set has no more records than the trace ever makes, none of which was changed
pub state_is_new : (t : Trace) → IsEntryTree (held_in (start_table t)) → (d : ℕ) × (get (start_paths t) [] ≡ Some (Directory d))
    → AreLegalFromStart t (micros_in t) → records_made t ≤ TREE_RECORDS → (places : List ℕ)
    → IsAllowed (needs_of (micros_in t)) (length (micros_in t).ops) places → IsNew (crash_state_of t (micros_in t) places)
state_is_new t tree root legal few places allowed =
    let left = state_of (start_state t) (micros_in t).ops places in
    let f = record_of left in
    let nodes = nodes_left left in
    let most = nodes_most t tree legal places allowed root in
    let next_is = next-fresh (map_values f nodes) in
    let same = len_map_values f nodes in
    record {
      versions = λ p r there. never_changed (map_values f nodes) p r (get (map_values f nodes) p) refl there;
      few = omega (arith, most, next_is, same, few);
    }
