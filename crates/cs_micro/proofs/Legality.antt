-- The micro-operations of legal operations are legal.
use Rattle.std.proofs.Common.{◌≡◌, ◌≢◌, ℕ, zero, suc, ◌+◌, ◌-◌, ◌<◌, ◌≤◌, ◌==◌, ◌&&◌, nat_lt, Bool, true, false, List, [], ◌∷◌}
use Rattle.std.proofs.Common.{◌++◌, Option, None, Some, cond, fold, max, length, refl, sym, ap, ◌∙◌, subst, arith, ⊎_elim, ◌⊎◌, inl, inr, length-append, length-set, eq-eqb}
use Rattle.std.proofs.lemmas.Bool.{and_parts, false≢true, leb-true}
use Rattle.std.proofs.lemmas.List.{length-map}
use Rattle.std.proofs.lemmas.List.Sums.{fold-append}
use Rattle.std.proofs.lemmas.Option.{get_or_from_slice_get, same_Some, slice_get_within}
use Rattle.std.specs.FinMap.{get, get-insert, get-remove, insert, remove, same_map}
use Rattle.std.specs.List.{All, flat_map, slice_get, slice_set}
use Rattle.std.specs.Option.{option_map_or}
use Rattle.std.specs.Ordering.{eq_by_cmp, is_eq}
use Rattle.std.specs.Prelude.{if◌then◌else◌, nat_le}
use Rattle.cs_entries.specs.declared.entry.DirEntry.{DirEntry}
use Rattle.cs_entries.specs.declared.node.FileKind.{FileKind}
use Rattle.cs_entries.specs.declared.node.Node.{Node}
use Rattle.cs_entries.specs.declared.node.Node.TheVariants.{Directory, File}
use Rattle.cs_entries.specs.DirEntries.{IsNamed, entry_of}
use Rattle.cs_entries.specs.declared.entry.Entry.{Entry}
use Rattle.cs_entries.specs.Entries.{Entries, entry_eq, put}
use Rattle.cs_entries.specs.Entries as entries
use Rattle.cs_entries.specs.Legal.{Any, IsLegal as IsLegalEntryOp}
use Rattle.cs_entries.specs.Paths.{at_path, down, entry_in}
use Rattle.cs_entries.specs.Tables.{entry_cmp, held_in, table_after}
use Rattle.cs_entries.specs.Laws.One.{entry_cases, no_directory, put_other}
use Rattle.cs_entries.specs.Laws.Trees.{way_kept}
use Rattle.cs_entries.specs.Laws.Listed.{down_nothing}
use Rattle.cs_entries.specs.Laws.Records.{entry_exact, entry_total, table_step}
use Rattle.cs_tree_model.specs.Maps.Changes.{key_cases}
use Rattle.cs_tree_model.specs.Tree.{Path, parent_path}
use Rattle.cs_names.specs.declared.limits.TheConstants.{FILE_BYTES}
use Rattle.cs_trace_lines.specs.Values.{is_target, is_without_nul}
use Rattle.cs_trace_lines.specs.declared.values.TheConstants.{TARGET_BYTES}
use Rattle.cs_trace_lines.specs.Versions.{is_fourth}
use Rattle.cs_trace_lines.specs.declared.version.Version.{Version}
use Rattle.cs_trace.specs.Limits.{most_bytes}
use Rattle.cs_trace.specs.declared.limits.TheConstants.{LARGE_FILE_BYTES}
use Rattle.cs_trace.specs.Operations as trace
use Rattle.cs_trace.specs.Operations.{FileSystem, system_after}
use Rattle.cs_trace.specs.declared.operation.Operation.{Operation}
use Rattle.cs_trace.specs.declared.operation.Operation.TheVariants.{Creat, Mkdir, Symlink as MakeLink, Unlink, Rmdir, Rename, Link, Write}
use Rattle.cs_trace.specs.declared.operation.Operation.TheVariants.{Truncate, SetAttr, Sync, Say}
use Rattle.cs_trace.specs.declared.operation.Target.TheVariants as targets
use Rattle.cs_trace.specs.Traces.{AreLegalFromStart as LegalTrace, Trace, size_at, start_sizes, start_table}
use Rattle.cs_micro.specs.Legal.{AreLegal, Made, made_after}
use Rattle.cs_micro.specs.MicroOperations.{comes_in_halves, micro_operations_of, micros_of}
use Rattle.cs_micro.specs.MicroOperations.{move_micros, same_rights, truncate_micros, write_micros}
use Rattle.cs_micro.specs.Micros.{AreLegalFromStart, micros_in}
use Rattle.cs_micro.specs.declared.micro_op.MicroOp.{MicroOp}
use Rattle.cs_micro.specs.declared.micro_op.MicroOp.TheVariants as micro
use Rattle.cs_micro.proofs.LegalFiles.{Leaves, both_legal, nothing_leaves, quiet_unless, written_leaves, truncated_leaves}

-- ---- renames

-- what is no directory leads to none
leads_to_none : (m : Entries) (held : Option Node) → ((d : ℕ) → held ≢ Some (Directory d)) → (path : Path) (d : ℕ)
    → down m held path ≢ Some (Directory d)
leads_to_none m held none [] d h = none d h
leads_to_none m None none (x ∷ path) d h = none d (absurd (nothing (sym (down_nothing m path) ∙ h)))
  where
    nothing : None ≡ Some (Directory d) → ⊥
    nothing h = absurd (cc)
leads_to_none m (Some (File kind file)) none (x ∷ path) d h = nothing (sym (down_nothing m path) ∙ h)
  where
    nothing : None ≡ Some (Directory d) → ⊥
    nothing h = absurd (cc)
leads_to_none m (Some (Directory c)) none (x ∷ path) d h = none c refl

-- a path that leads to a directory leads there also if something is put where none is
keeps_path : (m : Entries) (b : Entry) (node : Node) → ((d : ℕ) → m b ≢ Some (Directory d)) → (path : Path) (held : Option Node) (d : ℕ)
    → down m held path ≡ Some (Directory d) → down (put m b (Some node)) held path ≡ Some (Directory d)
keeps_path m b node none [] held d h = h
keeps_path m b node none (x ∷ path) None d h = keeps_path m b node none path None d h
keeps_path m b node none (x ∷ path) (Some (File kind file)) d h = keeps_path m b node none path None d h
keeps_path m b node none (x ∷ path) (Some (Directory c)) d h = ⊎_elim
    (λ (one : (entry_eq b (entry_in c x) ≡ true) × (b ≡ entry_in c x)).
    absurd (leads_to_none m (m (entry_in c x)) (λ k is. none k (ap m one.1 ∙ is)) path d h))
    (λ (two : (entry_eq b (entry_in c x) ≡ false) × (b ≢ entry_in c x)).
    ap (λ o. down (put m b (Some node)) o path) (put_other m b (entry_in c x) (Some node) two.1)
    ∙ keeps_path m b node none path (m (entry_in c x)) d h)
    (entry_cases b (entry_in c x))

same_key : (q e : Entry) → is_eq (entry_cmp q e) ≡ true → q ≡ e
same_key q e h = ⊎_elim
    (λ (one : (eq_by_cmp entry_cmp q e ≡ true) × (q ≡ e)). one.1)
    (λ (two : (eq_by_cmp entry_cmp q e ≡ false) × (q ≢ e)). absurd (false≢true (sym two.0 ∙ h)))
    (key_cases entry_total entry_exact q e)

abbrev pub made_of : FileSystem → Made
made_of fs = record { entries = fs.entries; files = length fs.sizes; homes = fs.homes }

module _ (version : Version) (fs : FileSystem) (a b : DirEntry) (named : IsNamed (held_in fs.entries) a × IsNamed (held_in fs.entries) b)
  where
    abbrev m : Made
    m = made_of fs

    abbrev from : Entry
    from = entry_of a

    abbrev to : Entry
    to = entry_of b

    -- what a move of the node leaves
    abbrev moved : Node → Option Node → Made
    moved node old = record m { entries = table_after fs.entries (entries.Move from to node old) }

    whole_leaves : (node : Node) (old : Option Node) → IsLegalEntryOp (held_in fs.entries) (entries.Move from to node old)
        → trace.MayReplace version node old → Leaves version m (micro.MoveDirEntry a b node old ∷ []) (moved node old)
    whole_leaves node old legal may = record {
      legal = (record { named = named; entry = legal; fitting = may }, tt);
      made = refl;
    }

    module _ (kind : FileKind) (file : ℕ) (old : Option Node)
        (legal : IsLegalEntryOp (held_in fs.entries) (entries.Move from to (File kind file) old))
        (may : trace.MayReplace version (File kind file) old) (given : file < length fs.sizes) where
      abbrev linked : Made
      linked = made_after m (micro.LinkDirEntry b kind file old true)

      no_directory_by : (o : Option Node) → trace.MayReplace version (File kind file) o → (d : ℕ) → o ≢ Some (Directory d)
      no_directory_by None may d h = absurd (cc)
      no_directory_by (Some (Directory c)) may d h = absurd may
      no_directory_by (Some (File k f)) may d h = no_directory k f d h

      none_there : (d : ℕ) → held_in fs.entries to ≢ Some (Directory d)
      none_there d h = no_directory_by old may d (sym legal.2 ∙ h)

      link_legal : IsLegalEntryOp (held_in fs.entries) (entries.Link to kind file)
      link_legal = (
        none_there,
        (
          legal.4.0,
          way_kept (held_in fs.entries) (held_in fs.entries) (λ f. f ≢ from) Any (λ f c held passes. (held, tt)) legal.4.0 to.directory
              legal.4.1,
        ),
      )

      step : (e : Entry) → held_in linked.entries e ≡ put (held_in fs.entries) to (Some (File kind file)) e
      step e = table_step fs.entries (entries.Link to kind file) link_legal e

      still : held_in linked.entries from ≡ Some (File kind file)
      still = step from ∙ put_other (held_in fs.entries) to from (Some (File kind file)) (λ same. legal.0 (sym same)) ∙ legal.1

      named_still : IsNamed (held_in linked.entries) a
      named_still = (
        named.0.0,
        ap (λ held. at_path held (parent_path a.path)) (λ i e. step e i)
            ∙ keeps_path (held_in fs.entries) to (File kind file) none_there (parent_path a.path) (Some (Directory 0)) a.directory
            named.0.1,
      )

      same_end : table_after linked.entries (entries.Delete from (File kind file)) ≡ table_after fs.entries
          (entries.Move from to (File kind file) old)
      same_end =
          same_map entry_total entry_exact _ _ (λ q. both q)
          ∙ ap (λ o. option_map_or (λ held. insert (remove fs.entries from) to held) o fs.entries) (sym legal.1)
        where
          both : (q : Entry) → get (remove (insert fs.entries to (File kind file)) from) q
              ≡ get (insert (remove fs.entries from) to (File kind file)) q
          both q =
              get-remove entry_total (insert fs.entries to (File kind file)) from q
              ∙ ap (cond (is_eq (entry_cmp q from)) None) (get-insert entry_total fs.entries to (File kind file) q)
              ∙ swapped (is_eq (entry_cmp q from)) (is_eq (entry_cmp q to)) refl refl
              ∙ ap (cond (is_eq (entry_cmp q to)) (Some (File kind file))) (sym (get-remove entry_total fs.entries from q))
              ∙ sym (get-insert entry_total (remove fs.entries from) to (File kind file) q)
            where
              swapped : (f t : Bool) → is_eq (entry_cmp q from) ≡ f → is_eq (entry_cmp q to) ≡ t
                  → cond f None (cond t (Some (File kind file)) (get fs.entries q))
                  ≡ cond t (Some (File kind file)) (cond f None (get fs.entries q))
              swapped true true x y = absurd (legal.0 (sym (same_key q from x) ∙ same_key q to y))
              swapped true false x y = refl
              swapped false t x y = refl

      halves_leave : Leaves version m (micro.LinkDirEntry b kind file old true ∷ micro.DeleteDirEntry a (File kind file) ∷ [])
          (moved (File kind file) old)
      halves_leave = record {
        legal = (
          record {
            named = named.1;
            entry = link_legal;
            fitting = (given, (from, legal.1), legal.2, λ whole. absurd (false≢true (sym whole)));
          },
          (
            record {
              named = named_still;
              entry = (still, λ d is. absurd (no_directory kind file d is));
              fitting = tt;
            },
            tt,
          ),
        );
        made = ap (λ t. record m { entries = t }) same_end;
      }

      file_leaves : Leaves version m (move_micros version a b (File kind file) old) (moved (File kind file) old)
      file_leaves = by (comes_in_halves version a b)
        where
          by : (halved : Bool)
              → Leaves version m (cond halved
              (micro.LinkDirEntry b kind file old true ∷ micro.DeleteDirEntry a (File kind file) ∷ [])
              (micro.MoveDirEntry a b (File kind file) old ∷ [])) (moved (File kind file) old)
          by true = halves_leave
          by false = whole_leaves (File kind file) old legal may

    moved_leaves : (node : Node) (old : Option Node) → IsLegalEntryOp (held_in fs.entries) (entries.Move from to node old)
        → trace.MayReplace version node old → trace.IsGiven fs node
        → Leaves version m (move_micros version a b node old) (moved node old)
    moved_leaves (Directory d) old legal may given = whole_leaves (Directory d) old legal may
    moved_leaves (File kind file) old legal may given = file_leaves kind file old legal may given

    renamed_by : (same : Bool) (node : Node) (old : Option Node)
        → IsLegalEntryOp (held_in fs.entries) (if same then entries.Other else entries.Move from to node old)
        → trace.MayReplace version node old → trace.IsGiven fs node
        → Leaves version m (if same then [] else move_micros version a b node old)
        (record m { entries = table_after fs.entries (if same then entries.Other else entries.Move from to node old) })
    renamed_by true node old legal may given = nothing_leaves version m
    renamed_by false node old legal may given = moved_leaves node old legal may given

-- ---- one operation

longer : (sizes : List ℕ) (n : ℕ) → length sizes + 1 ≡ length (sizes ++ n ∷ [])
longer sizes n = sym (length-append sizes (n ∷ []))

-- a list of sizes is as long after a change of one
same_count : (version : Version) (fs : FileSystem) (file to : ℕ) (ops : List MicroOp) → Leaves version (made_of fs) ops (made_of fs)
    → Leaves version (made_of fs) ops (made_of (record fs { sizes = slice_set fs.sizes file to }))
same_count version fs file to ops =
    subst (λ n. Leaves version (made_of fs) ops (record (made_of fs) { files = n })) (sym (length-set fs.sizes file to))

-- no file is larger than the version allows
abbrev pub AreSmall : Version → FileSystem → Type 0
AreSmall version fs = (file size : ℕ) → trace.HasSize fs.sizes file size → size ≤ most_bytes version

operation_leaves : (version : Version) (fs : FileSystem) (o : Operation) → AreSmall version fs → trace.IsLegal version fs o
    → Leaves version (made_of fs) (micros_of version o) (made_of (system_after fs o))
operation_leaves version fs (Creat e file rights) small l = record {
  legal = (record { named = l.named; entry = l.entry; fitting = ((l.fitting.0, refl), l.fitting.1) }, tt);
  made = ap (λ n. record (made_of (system_after fs (Creat e file rights))) { files = n }) (longer fs.sizes 0);
}
operation_leaves version fs (Mkdir e directory rights) small l = record {
  legal = (record { named = l.named; entry = l.entry; fitting = ((l.fitting.0, refl), l.fitting.1) }, tt);
  made = refl;
}
operation_leaves version fs (MakeLink e file rights target) small l = record {
  legal = (
    record { named = l.named; entry = l.entry; fitting = ((l.fitting.0, l.fitting.1, l.fitting.3), l.fitting.2) },
    tt,
  );
  made = ap (λ n. record (made_of (system_after fs (MakeLink e file rights target))) { files = n }) (longer fs.sizes (length target));
}
operation_leaves version fs (Link e file) small l = record {
  legal = (
    record {
      named = l.named;
      entry = l.entry;
      fitting = (l.fitting.2, l.fitting.1, l.fitting.0, λ _. (refl, refl));
    },
    tt,
  );
  made = refl;
}
operation_leaves version fs (Unlink e kind file) small l = record {
  legal = (record { named = l.named; entry = l.entry; fitting = tt }, tt);
  made = refl;
}
operation_leaves version fs (Rmdir e directory) small l = record {
  legal = (record { named = l.named; entry = l.entry; fitting = tt }, tt);
  made = refl;
}
operation_leaves version fs (Rename a b node old) small l =
    renamed_by version fs a b l.named (entry_eq (entry_of a) (entry_of b)) node old l.entry l.fitting.0 l.fitting.1
operation_leaves version fs (Write file size offset bytes) small l =
    same_count version fs file (trace.written_size size offset bytes) (write_micros version file size offset bytes)
    (written_leaves version (made_of fs) file l.fitting.0 (slice_get_within fs.sizes file size l.fitting.1) size offset bytes l.fitting.2)
operation_leaves version fs (Truncate file size to) small l =
    same_count version fs file to (truncate_micros version file size to)
    (truncated_leaves version (made_of fs) file l.fitting.0 (slice_get_within fs.sizes file size l.fitting.1) size to
    (small file size l.fitting.1) l.fitting.2)
operation_leaves version fs (SetAttr (targets.File file) before after) small l =
    quiet_unless version (made_of fs) (micro.SetAttr (targets.File file) after) (same_rights before after)
    (record {
      legal = record { named = tt; entry = tt; fitting = (l.fitting.1, l.fitting.0, l.fitting.2) };
      made = refl;
    })
operation_leaves version fs (SetAttr (targets.Directory d path) before after) small l =
    quiet_unless version (made_of fs) (micro.SetAttr (targets.Directory d path) after) (same_rights before after)
    (record { legal = record { named = l.named; entry = tt; fitting = l.fitting }; made = refl })
operation_leaves version fs (Sync covers) small l = nothing_leaves version (made_of fs)
operation_leaves version fs Say small l = record {
  legal = (record { named = tt; entry = tt; fitting = tt }, tt);
  made = refl;
}

-- ---- no file becomes too large

appended : (xs : List ℕ) (y k s : ℕ) → slice_get (xs ++ y ∷ []) k ≡ Some s → (slice_get xs k ≡ Some s) ⊎ (s ≡ y)
appended [] y zero s h = inr (sym (same_Some y s h))
appended [] y (suc k) s h = absurd (let low = slice_get_within [] k s h in omega (arith, low))
appended (x ∷ xs) y zero s h = inl h
appended (x ∷ xs) y (suc k) s h = appended xs y k s h

placed : (xs : List ℕ) (k v j s : ℕ) → slice_get (slice_set xs k v) j ≡ Some s → (slice_get xs j ≡ Some s) ⊎ (s ≡ v)
placed [] k v j s h = inl h
placed (x ∷ xs) zero v zero s h = inr (sym (same_Some v s h))
placed (x ∷ xs) zero v (suc j) s h = inl h
placed (x ∷ xs) (suc k) v zero s h = inl h
placed (x ∷ xs) (suc k) v (suc j) s h = placed xs k v j s h

with_more : (version : Version) (sizes : List ℕ) (n : ℕ) → ((f s : ℕ) → trace.HasSize sizes f s → s ≤ most_bytes version)
    → n ≤ most_bytes version → (f s : ℕ) → trace.HasSize (sizes ++ n ∷ []) f s → s ≤ most_bytes version
with_more version sizes n small low f s h = ⊎_elim
    (λ (old : slice_get sizes f ≡ Some s). small f s old)
    (λ (new : s ≡ n). omega (arith, new, low))
    (appended sizes n f s h)

with_other : (version : Version) (sizes : List ℕ) (file n : ℕ) → ((f s : ℕ) → trace.HasSize sizes f s → s ≤ most_bytes version)
    → n ≤ most_bytes version → (f s : ℕ) → trace.HasSize (slice_set sizes file n) f s → s ≤ most_bytes version
with_other version sizes file n small low f s h = ⊎_elim
    (λ (old : slice_get sizes f ≡ Some s). small f s old)
    (λ (new : s ≡ n). omega (arith, new, low))
    (placed sizes file n f s h)

written_low : (version : Version) (size offset : ℕ) (bytes : List ℕ) → size ≤ most_bytes version
    → (0 < length bytes → offset + length bytes ≤ most_bytes version)
    → trace.written_size size offset bytes ≤ most_bytes version
written_low version size offset bytes small limit = by (length bytes == 0) refl
  where
    by : (empty : Bool) → (length bytes == 0) ≡ empty → (if empty then size else max size (offset + length bytes)) ≤ most_bytes version
    by true e = small
    by false e =
        let filled : length bytes ≢ 0 = λ none. false≢true (sym e ∙ eq-eqb (length bytes) 0 none) in
        let some = limit (omega (arith, filled)) in
        omega (arith, small, some)

target_low : (version : Version) (target : List ℕ) → is_target target ≡ true → length target ≤ most_bytes version
target_low version target h =
    let parts = and_parts (nat_lt 0 (length target) && nat_le (length target) TARGET_BYTES) (is_without_nul target) h in
    let long = leb-true (length target) TARGET_BYTES (and_parts (nat_lt 0 (length target)) (nat_le (length target) TARGET_BYTES) parts.0).1
    in
    by (is_fourth version) long
  where
    by : (fourth : Bool) → length target ≤ TARGET_BYTES → length target ≤ (if fourth then LARGE_FILE_BYTES else FILE_BYTES)
    by true long = omega (arith, long)
    by false long = omega (arith, long)

pub small_after : (version : Version) (fs : FileSystem) (o : Operation) → AreSmall version fs → trace.IsLegal version fs o
    → AreSmall version (system_after fs o)
small_after version fs (Creat e file rights) small l = with_more version fs.sizes 0 small (omega arith)
small_after version fs (MakeLink e file rights target) small l =
    with_more version fs.sizes (length target) small (target_low version target l.fitting.3)
small_after version fs (Write file size offset bytes) small l =
    with_other version fs.sizes file (trace.written_size size offset bytes) small
    (written_low version size offset bytes (small file size l.fitting.1) l.fitting.2)
small_after version fs (Truncate file size to) small l = with_other version fs.sizes file to small l.fitting.2
small_after version fs (Mkdir e directory rights) small l = small
small_after version fs (Link e file) small l = small
small_after version fs (Unlink e kind file) small l = small
small_after version fs (Rmdir e directory) small l = small
small_after version fs (Rename a b node old) small l = small
small_after version fs (SetAttr target before after) small l = small
small_after version fs (Sync covers) small l = small
small_after version fs Say small l = small

-- ---- all of them

pub all_legal : (version : Version) (fs : FileSystem) (ops : List Operation) → AreSmall version fs → trace.AreLegal version fs ops
    → AreLegal version (made_of fs) (micro_operations_of version ops)
unfolding micro_operations_of
all_legal version fs [] small legal = tt
all_legal version fs (o ∷ ops) small legal =
    let one = operation_leaves version fs o small legal.0 in
    let rest = all_legal version (system_after fs o) ops (small_after version fs o small legal.0) legal.1 in
    let others = flat_map (micros_of version) ops in
    both_legal version (made_of fs) (micros_of version o) others one.legal (subst (λ x. AreLegal version x others) (sym one.made) rest)

-- and what they leave, their micro-operations leave
pub all_leave : (version : Version) (fs : FileSystem) (ops : List Operation) → AreSmall version fs → trace.AreLegal version fs ops
    → fold made_after (made_of fs) (micro_operations_of version ops) ≡ made_of (trace.system_after_all fs ops)
unfolding micro_operations_of
all_leave version fs [] small legal = refl
all_leave version fs (o ∷ ops) small legal =
    let one = operation_leaves version fs o small legal.0 in
    fold-append made_after (made_of fs) (micros_of version o) (flat_map (micros_of version) ops)
    ∙ ap (λ x. fold made_after x (flat_map (micros_of version) ops)) one.made
    ∙ all_leave version (system_after fs o) ops (small_after version fs o small legal.0) legal.1

-- what a trace breaks into is legal from its start on
pub micros_legal : (t : Trace) → LegalTrace t → All (λ size. size ≤ most_bytes t.version) (start_sizes t)
    → AreLegalFromStart t (micros_in t)
micros_legal t l small = record {
  homes = l.homes;
  are = l.are;
  many = l.many;
  legal = subst (λ n. AreLegal t.version (record { entries = start_table t; files = n; homes = l.homes })
      (micro_operations_of t.version t.operations))
      (length-map t.files (size_at t.records))
      (all_legal t.version (record { entries = start_table t; sizes = start_sizes t; homes = l.homes }) t.operations
      (λ file size is. subst (λ s. s ≤ most_bytes t.version) (get_or_from_slice_get (start_sizes t) file size 0 is)
      (small file 0 (slice_get_within (start_sizes t) file size is)))
      l.legal);
}
