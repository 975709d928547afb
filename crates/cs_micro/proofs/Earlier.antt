-- What a trace of one of the first three versions breaks into, as it did before the fourth.
use Rattle.std.proofs.Common.{◌≡◌, ◌≢◌, ℕ, zero, suc, ◌+◌, ◌-◌, ◌<◌, ◌≤◌, ◌==◌, ◌&&◌, not, nat_lt, Bool, true, false, List, [], ◌∷◌, ◌++◌, Option, None, Some}
use Rattle.std.proofs.Common.{cond, map, length, take, get_or, refl, sym, ap, ◌∙◌, subst, ⊎_elim, arith}
use Rattle.std.proofs.lemmas.Bool.{cases_Bool, false≢true}
use Rattle.std.proofs.lemmas.List.{length-map, map-append, take_all, take_more}
use Rattle.std.proofs.lemmas.List.Folds.{flat_map-map}
use Rattle.std.specs.List.{flat_map, range_with_len}
use Rattle.std.specs.Ordering.{eq_by_cmp}
use Rattle.cs_names.specs.Paths.{path_eq, path_ties}
use Rattle.cs_tree_model.specs.Laws.Paths.{path_cases}
use Rattle.cs_tree_model.specs.Tree.{Path, parent_path, path_cmp}
use Rattle.cs_entries.specs.declared.entry.DirEntry.{DirEntry}
use Rattle.cs_entries.specs.declared.entry.Entry.{Entry}
use Rattle.cs_entries.specs.declared.node.Node.{Node}
use Rattle.cs_entries.specs.declared.node.Node.TheVariants.{Directory, File}
use Rattle.cs_entries.specs.DirEntries.{IsNamed, entry_of, last_name}
use Rattle.cs_entries.specs.Entries.{Entries, after, entry_eq}
use Rattle.cs_entries.specs.Legal.{IsTree}
use Rattle.cs_entries.specs.Paths.{at_path}
use Rattle.cs_entries.specs.Tables.{held_in, table_after}
use Rattle.cs_entries.specs.Laws.One.{entry_cases}
use Rattle.cs_entries.specs.Laws.Paths.{one_path}
use Rattle.cs_entries.specs.Laws.Records.{table_step}
use Rattle.cs_entries.specs.Laws.Trees.{tree_after}
use Rattle.cs_trace_lines.specs.Versions.{block_bytes, block_size_of, is_fourth, profile_of}
use Rattle.cs_trace_lines.specs.declared.version.Version.{Version}
use Rattle.cs_trace_lines.specs.declared.version.Version.TheVariants.{First, Second, Third, Fourth}
use Rattle.cs_trace.specs.Earlier.Same.{operation_before, target_before, version_before}
use Rattle.cs_trace.specs.Earlier.Operation.{Operation as EarlierOperation}
use Rattle.cs_trace.specs.Operations.{AreLegal, FileSystem, IsLegal, entry_op, system_after}
use Rattle.cs_trace.specs.declared.operation.Operation.{Operation}
use Rattle.cs_trace.specs.declared.operation.Operation.TheVariants.{Creat, Mkdir, Symlink, Unlink, Rmdir, Rename, Link, Write, Truncate}
use Rattle.cs_trace.specs.declared.operation.Operation.TheVariants.{SetAttr, Sync, Say}
use Rattle.cs_start.specs.declared.rights.Rights.{Rights}
use Rattle.cs_micro.specs.Blocks.{block_write, block_writes, touched_blocks}
use Rattle.cs_micro.specs.MicroOperations.{block_of_version, bytes_micros, comes_in_halves, growth_micros, halves, is_blocks, micro_operations_of}
use Rattle.cs_micro.specs.MicroOperations.{micros_of, move_micros, rename_micros, same_rights, set_attr_micros, truncate_micros, write_micros}
use Rattle.cs_micro.specs.MicroOperations.{zero_micros}
use Rattle.cs_micro.specs.Micros.{paths_of_files}
use Rattle.cs_micro.specs.Pages.{sizes_on_way, zeros_behind}
use Rattle.cs_micro.specs.SyncPoints.{points_after, points_at, sync_points_of}
use Rattle.cs_micro.specs.declared.micro_op.MicroOp.{MicroOp}
use Rattle.cs_micro.specs.declared.micro_op.MicroOp.TheVariants as micro
use Rattle.cs_micro.specs.declared.sync_point.SyncPoint.{SyncPoint}
use Rattle.cs_micro.specs.Earlier.Blocks as before_blocks
use Rattle.cs_micro.specs.Earlier.MicroOp.{MicroOp as EarlierMicroOp}
use Rattle.cs_micro.specs.Earlier.MicroOp as earlier
use Rattle.cs_micro.specs.Earlier.MicroOperations as before
use Rattle.cs_micro.specs.Earlier.Micros as before_micros
use Rattle.cs_micro.specs.Earlier.Same.{op_before, sync_before}
use Rattle.cs_micro.specs.Earlier.SyncPoints as before_syncs

-- ---- the path of an entry

-- a path that has a name is its directory's and that name
whole_path : (p : Path) → p ≢ [] → parent_path p ++ last_name p ∷ [] ≡ p
whole_path [] some = absurd (some refl)
whole_path (x ∷ p) some =
    let n = length (x ∷ p) - 1 in
    let more : n + 1 ≡ length (x ∷ p) = omega arith in
    sym (take_more (x ∷ p) n [] (omega arith)) ∙ ap (λ k. take k (x ∷ p)) more ∙ take_all (length (x ∷ p)) (x ∷ p) (omega arith)

same_directory : (a b : ℕ) → Some (Directory a) ≡ Some (Directory b) → a ≡ b
same_directory a b same = cc

-- in a tree, two entries are one exactly if their paths are
named_once : (m : Entries) → IsTree m → (a b : DirEntry) → IsNamed m a → IsNamed m b
    → entry_eq (entry_of a) (entry_of b) ≡ path_eq a.path b.path
named_once m tree a b na nb = ⊎_elim
    (λ (one : (entry_eq (entry_of a) (entry_of b) ≡ true) × (entry_of a ≡ entry_of b)).
    one.0 ∙ sym (test a.path b.path (paths one.1)))
    (λ (two : (entry_eq (entry_of a) (entry_of b) ≡ false) × (entry_of a ≢ entry_of b)). two.0 ∙ sym (apart two.1))
    (entry_cases (entry_of a) (entry_of b))
  where
    test : (p q : Path) → p ≡ q → path_eq p q ≡ true
    test p q is = ⊎_elim
        (λ (one : (eq_by_cmp path_cmp p q ≡ true) × (p ≡ q)). path_ties p q ∙ one.0)
        (λ (two : (eq_by_cmp path_cmp p q ≡ false) × (p ≢ q)). absurd (two.1 is))
        (path_cases p q)

    paths : entry_of a ≡ entry_of b → a.path ≡ b.path
    paths is =
        let above = one_path m tree (length (parent_path a.path)) (parent_path a.path) (parent_path b.path) a.directory (omega arith)
        na.1 (nb.1 ∙ ap (λ (e : Entry). Some (Directory e.directory)) (sym is)) in
        sym (whole_path a.path na.0) ∙ (λ i. above i ++ (is i).name ∷ []) ∙ whole_path b.path nb.0

    apart : entry_of a ≢ entry_of b → path_eq a.path b.path ≡ false
    apart ne = ⊎_elim
        (λ (one : (eq_by_cmp path_cmp a.path b.path ≡ true) × (a.path ≡ b.path)).
        (let number = same_directory a.directory b.directory (sym na.1 ∙ ap (λ p. at_path m (parent_path p)) one.1 ∙ nb.1) in
        absurd (ne (λ i. record { directory = number i; name = last_name (one.1 i) }))))
        (λ (two : (eq_by_cmp path_cmp a.path b.path ≡ false) × (a.path ≢ b.path)). path_ties a.path b.path ∙ two.0)
        (path_cases a.path b.path)

-- ---- one operation

early_block : (version : Version) → is_fourth version ≡ false
    → block_of_version version ≡ before_micros.block_of_version (version_before version)
early_block First early = refl
early_block (Second profile) early = refl
early_block (Third profile block) early = refl
early_block (Fourth profile block) early = absurd (false≢true (sym early))

early_blocks : (size file offset : ℕ) (bytes : List ℕ)
    → map op_before (block_writes size file offset bytes) ≡ before_blocks.block_writes size file offset bytes
unfolding block_writes before_blocks.block_writes
early_blocks size file offset bytes = both (touched_blocks size offset bytes)
  where
    both : (ks : List ℕ) → map op_before (map (block_write size file offset bytes) ks) ≡ map
        (before_blocks.block_write size file offset bytes) ks
    both [] = refl
    both (k ∷ ks) = ap (λ v. before_blocks.block_write size file offset bytes k ∷ v) (both ks)

early_growth : (fourth less : Bool) (file size end : ℕ) → fourth ≡ false
    → map op_before (map (micro.ChangeFileSize file) (cond less (cond fourth (sizes_on_way size end) (end ∷ [])) []))
    ≡ cond less (earlier.ChangeFileSize file end ∷ []) []
early_growth true less file size end early = absurd (false≢true (sym early))
early_growth false true file size end early = refl
early_growth false false file size end early = refl

early_write : (version : Version) → is_fourth version ≡ false → (file size offset : ℕ) (bytes : List ℕ)
    → map op_before (write_micros version file size offset bytes) ≡ before.write_micros (block_of_version version) file size offset bytes
early_write version early file size offset bytes = by (length bytes == 0)
  where
    end : ℕ
    end = offset + length bytes

    by : (none : Bool) → map op_before (cond none []
        (growth_micros version file size (offset + length bytes) ++ block_writes (block_of_version version) file offset bytes))
        ≡ cond none [] (before.growth_micros file size (offset + length bytes) ++ before_blocks.block_writes (block_of_version version)
        file offset bytes)
    by true = refl
    by false =
        map-append op_before (growth_micros version file size (offset + length bytes))
        (block_writes (block_of_version version) file offset bytes)
        ∙ (λ i. early_growth (is_fourth version) (nat_lt size (offset + length bytes)) file size (offset + length bytes) early i
        ++ early_blocks (block_of_version version) file offset bytes i)

early_truncate : (fourth same : Bool) (zeros : List MicroOp) (file to : ℕ) → fourth ≡ false
    → map op_before (cond same [] (cond fourth zeros [] ++ micro.ChangeFileSize file to ∷ []))
    ≡ cond same [] (earlier.ChangeFileSize file to ∷ [])
early_truncate true same zeros file to early = absurd (false≢true (sym early))
early_truncate false true zeros file to early = refl
early_truncate false false zeros file to early = refl

early_move : (fourth profile apart : Bool) (a b : DirEntry) (node : Node) (old : Option Node) (two : List MicroOp) → fourth ≡ false
    → map op_before (cond (fourth && profile && apart) two (micro.MoveDirEntry a b node old ∷ [])) ≡ earlier.MoveDirEntry a.path b.path ∷ []
early_move true profile apart a b node old two early = absurd (false≢true (sym early))
early_move false profile apart a b node old two early = refl

early_moves : (version : Version) → is_fourth version ≡ false → (a b : DirEntry) (node : Node) (old : Option Node)
    → map op_before (move_micros version a b node old) ≡ earlier.MoveDirEntry a.path b.path ∷ []
early_moves version early a b (Directory d) old = refl
early_moves version early a b (File kind file) old =
    early_move (is_fourth version) (is_blocks (profile_of version)) (not (a.directory == b.directory)) a b (File kind file) old
    (halves a b kind file old) early

early_rename : (version : Version) → is_fourth version ≡ false → (m : Entries) → IsTree m
    → (a b : DirEntry) (node : Node) (old : Option Node)
    → IsNamed m a → IsNamed m b
    → map op_before (rename_micros version a b node old) ≡ before.rename_micros a.path b.path
early_rename version early m tree a b node old na nb =
    by (entry_eq (entry_of a) (entry_of b))
    ∙ ap (λ same. cond same [] (earlier.MoveDirEntry a.path b.path ∷ [])) (named_once m tree a b na nb)
  where
    by : (same : Bool) → map op_before (cond same [] (move_micros version a b node old)) ≡ cond same []
        (earlier.MoveDirEntry a.path b.path ∷ [])
    by true = refl
    by false = early_moves version early a b node old

early_rights : (same : Bool) (o : MicroOp) → map op_before (cond same [] (o ∷ [])) ≡ cond same [] (op_before o ∷ [])
early_rights true o = refl
early_rights false o = refl

early_one : (version : Version) → is_fourth version ≡ false → (fs : FileSystem) (o : Operation) → IsTree (held_in fs.entries)
    → IsLegal version fs o
    → map op_before (micros_of version o) ≡ before.micros_of (block_of_version version) (operation_before o)
early_one version early fs (Creat e file rights) tree legal = refl
early_one version early fs (Mkdir e directory rights) tree legal = refl
early_one version early fs (Symlink e file rights target) tree legal = absurd (false≢true (sym early ∙ legal.fitting.0))
early_one version early fs (Unlink e kind file) tree legal = refl
early_one version early fs (Rmdir e directory) tree legal = refl
early_one version early fs (Rename a b node old) tree legal =
    early_rename version early (held_in fs.entries) tree a b node old legal.named.0 legal.named.1
early_one version early fs (Link e file) tree legal = refl
early_one version early fs (Write file size offset bytes) tree legal = early_write version early file size offset bytes
early_one version early fs (Truncate file size to) tree legal =
    early_truncate (is_fourth version) (size == to) (bytes_micros version file to (zeros_behind size to)) file to early
early_one version early fs (SetAttr target was is) tree legal = early_rights (same_rights was is) (micro.SetAttr target is)
early_one version early fs (Sync covers) tree legal = refl
early_one version early fs Say tree legal = refl

-- ---- all of them

tree_left : (version : Version) (fs : FileSystem) (o : Operation) → IsTree (held_in fs.entries) → IsLegal version fs o
    → IsTree (held_in (system_after fs o).entries)
tree_left version fs o tree legal =
    subst IsTree (λ i e. sym (table_step fs.entries (entry_op o) legal.entry e) i)
    (tree_after (held_in fs.entries) (entry_op o) tree legal.entry)

pub early_ops : (version : Version) → is_fourth version ≡ false → (fs : FileSystem) (ops : List Operation) → IsTree (held_in fs.entries)
    → AreLegal version fs ops
    → map op_before (micro_operations_of version ops) ≡ before.micro_operations_of (block_of_version version) (map operation_before ops)
unfolding micro_operations_of before.micro_operations_of
early_ops version early fs [] tree legal = refl
early_ops version early fs (o ∷ ops) tree legal =
    map-append op_before (micros_of version o) (flat_map (micros_of version) ops)
    ∙ (λ i. early_one version early fs o tree legal.0 i
    ++ early_ops version early (system_after fs o) ops (tree_left version fs o tree legal.0) legal.1 i)

-- ---- their sync points

-- the first so many are legal
legal_take : (version : Version) (fs : FileSystem) (ops : List Operation) (k : ℕ) → AreLegal version fs ops
    → AreLegal version fs (take k ops)
legal_take version fs ops zero legal = tt
legal_take version fs [] (suc k) legal = tt
legal_take version fs (o ∷ ops) (suc k) legal = (legal.0, legal_take version (system_after fs o) ops k legal.1)

take_map : {A B : Type 0} (f : A → B) (k : ℕ) (xs : List A) → map f (take k xs) ≡ take k (map f xs)
take_map f zero xs = refl
take_map f (suc k) [] = refl
take_map f (suc k) (x ∷ xs) = ap (λ v. f x ∷ v) (take_map f k xs)

read_map : {A B : Type 0} (f : A → B) (xs : List A) (k : ℕ) (x : A) → f (get_or xs k x) ≡ get_or (map f xs) k (f x)
read_map f [] k x = refl
read_map f (y ∷ xs) zero x = refl
read_map f (y ∷ xs) (suc k) x = read_map f xs k x

early_after : (count : ℕ) (o : Operation) → map sync_before (points_after count o) ≡ before_syncs.points_after count (operation_before o)
early_after count (Creat e file rights) = refl
early_after count (Mkdir e directory rights) = refl
early_after count (Symlink e file rights target) = refl
early_after count (Unlink e kind file) = refl
early_after count (Rmdir e directory) = refl
early_after count (Rename a b node old) = refl
early_after count (Link e file) = refl
early_after count (Write file size offset bytes) = refl
early_after count (Truncate file size to) = refl
early_after count (SetAttr target was is) = refl
early_after count (Sync covers) = refl
early_after count Say = refl

map-flat_map : {A B C : Type 0} (f : B → C) (g : A → List B) (h : A → List C) → ((x : A) → map f (g x) ≡ h x) → (xs : List A)
    → map f (flat_map g xs) ≡ flat_map h xs
map-flat_map f g h same [] = refl
map-flat_map f g h same (x ∷ xs) = map-append f (g x) (flat_map g xs) ∙ (λ i. same x i ++ map-flat_map f g h same xs i)

early_at : (version : Version) → is_fourth version ≡ false → (fs : FileSystem) (ops : List Operation) → IsTree (held_in fs.entries)
    → AreLegal version fs ops → (k : ℕ)
    → map sync_before (points_at version ops k) ≡ before_syncs.points_at (block_of_version version) (map operation_before ops) k
early_at version early fs ops tree legal k =
    early_after (length (micro_operations_of version (take k ops))) (get_or ops k Say)
    ∙ (λ i. before_syncs.points_after (count i) (read_map operation_before ops k Say i))
  where
    count : length (micro_operations_of version (take k ops))
        ≡ length (before.micro_operations_of (block_of_version version) (take k (map operation_before ops)))
    count =
        sym (length-map (micro_operations_of version (take k ops)) op_before)
        ∙ ap length (early_ops version early fs (take k ops) tree (legal_take version fs ops k legal))
        ∙ ap (λ v. length (before.micro_operations_of (block_of_version version) v)) (take_map operation_before k ops)

pub early_syncs : (version : Version) → is_fourth version ≡ false → (fs : FileSystem) (ops : List Operation) → IsTree (held_in fs.entries)
    → AreLegal version fs ops
    → map sync_before (sync_points_of version ops) ≡ before_syncs.sync_points_of (block_of_version version) (map operation_before ops)
unfolding sync_points_of before_syncs.sync_points_of
early_syncs version early fs ops tree legal =
    map-flat_map sync_before (points_at version ops) (before_syncs.points_at (block_of_version version) (map operation_before ops))
    (early_at version early fs ops tree legal) (range_with_len 0 (length ops))
    ∙ ap (λ n. flat_map (before_syncs.points_at (block_of_version version) (map operation_before ops)) (range_with_len 0 n))
    (sym (length-map ops operation_before))

pub block_before : (version : Version) → is_fourth version ≡ false
    → block_of_version version ≡ before_micros.block_of_version (version_before version)
block_before version early = early_block version early

pub starts_before : (files : List Path) (links : List (Path × ℕ)) → paths_of_files files links ≡ before_micros.paths_of_files files links
unfolding paths_of_files before_micros.paths_of_files
starts_before files links = refl
