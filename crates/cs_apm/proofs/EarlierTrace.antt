-- What a trace of a version before the fourth breaks into: no rename in halves, and sync points that are named.
use Rattle.std.proofs.Common.{◌≡◌, ◌≢◌, ℕ, zero, ◌+◌, ◌<◌, ◌≤◌, ◌==◌, ◌&&◌, ◌||◌, Bool, true, false, cond, List, [], ◌∷◌, ◌++◌, ◌⊎◌, Option}
use Rattle.std.proofs.Common.{refl, sym, ap, ◌∙◌, subst, arith, length, append_assoc, length-append, map, take, get_or, fold, not, ⊎_elim}
use Rattle.std.proofs.lemmas.Bool.{cases_Bool, cases_lt, false≢true}
use Rattle.std.proofs.lemmas.List.{get_or_past}
use Rattle.std.proofs.lemmas.List.Folds.{list_any-append, list_any_at}
use Rattle.std.specs.List.{flat_map, list_any, range_with_len}
use Rattle.cs_entries.specs.declared.entry.DirEntry.{DirEntry}
use Rattle.cs_entries.specs.declared.entry.Entry.{Entry}
use Rattle.cs_entries.specs.declared.node.Node.{Node}
use Rattle.cs_entries.specs.declared.node.Node.TheVariants.{Directory, File}
use Rattle.cs_entries.specs.DirEntries.{entry_of}
use Rattle.cs_entries.specs.Entries.{Entries, entry_eq}
use Rattle.cs_entries.specs.Paths.{at_path}
use Rattle.cs_entries.specs.Tables.{held_in}
use Rattle.cs_trace_lines.specs.Versions.{is_fourth, profile_of}
use Rattle.cs_trace_lines.specs.declared.version.Version.{Version}
use Rattle.cs_trace.specs.declared.operation.Covers.{Covers}
use Rattle.cs_trace.specs.declared.operation.Covers.TheVariants as covers
use Rattle.cs_trace.specs.declared.operation.Operation.{Operation}
use Rattle.cs_trace.specs.declared.operation.Operation.TheVariants.{Creat, Mkdir, Symlink as MakeLink, Unlink, Rmdir, Rename, Link, Write}
use Rattle.cs_trace.specs.declared.operation.Operation.TheVariants.{Truncate, SetAttr, Sync, Say}
use Rattle.cs_trace.specs.Operations as trace
use Rattle.cs_trace.specs.Operations.{FileSystem, system_after, system_after_all}
use Rattle.cs_micro.specs.declared.micro_op.MicroOp.{MicroOp}
use Rattle.cs_micro.specs.declared.micro_op.MicroOp.TheVariants as micro
use Rattle.cs_micro.specs.declared.sync_point.SyncPoint.{SyncPoint}
use Rattle.cs_micro.specs.Blocks.{block_write, block_writes, touched_blocks}
use Rattle.cs_micro.specs.Legal.{Made, made_after}
use Rattle.cs_micro.specs.MicroOperations.{block_of_version, growth_micros, growth_sizes, halves, is_blocks, micro_operations_of}
use Rattle.cs_micro.specs.MicroOperations.{micros_of, move_micros, same_rights, truncate_micros, write_micros, zero_micros}
use Rattle.cs_micro.specs.Pages.{zeros_behind}
use Rattle.cs_micro.specs.SyncPoints.{points_after, points_at, sync_points_of}
use Rattle.cs_micro.proofs.Legality.{AreSmall, all_leave, made_of}
use Rattle.cs_apm.specs.Earlier.Same.{waits_for_data}
use Rattle.cs_apm.specs.Laws.Makings.{made_at, made_first}
use Rattle.cs_apm.specs.Rules.{is_first_half, op_at}
use Rattle.cs_apm.proofs.EarlierSyncs.{AreNamedSyncs, IsNamedSync}

-- ---- no rename comes in halves

none_mapped : {X : Type 0} (f : X → MicroOp) → ((x : X) → is_first_half (f x) ≡ false) → (xs : List X)
    → list_any is_first_half (map f xs) ≡ false
none_mapped f none [] = refl
none_mapped f none (x ∷ xs) = λ i. none x i || none_mapped f none xs i

both_none : (xs ys : List MicroOp) → list_any is_first_half xs ≡ false → list_any is_first_half ys ≡ false
    → list_any is_first_half (xs ++ ys) ≡ false
both_none xs ys one two = list_any-append is_first_half xs ys ∙ (λ i. one i || two i)

no_half_blocks : (size file offset : ℕ) (bytes : List ℕ) → list_any is_first_half (block_writes size file offset bytes) ≡ false
unfolding block_writes
no_half_blocks size file offset bytes = none_mapped (block_write size file offset bytes) (λ k. refl) (touched_blocks size offset bytes)

no_half_write : (version : Version) (file size offset : ℕ) (bytes : List ℕ)
    → list_any is_first_half (write_micros version file size offset bytes) ≡ false
no_half_write version file size offset bytes = by (length bytes == 0)
  where
    by : (b : Bool) → list_any is_first_half
        (cond b [] (growth_micros version file size (offset + length bytes) ++ block_writes (block_of_version version) file offset bytes))
        ≡ false
    by true = refl
    by false =
        both_none (growth_micros version file size (offset + length bytes)) (block_writes (block_of_version version) file offset bytes)
        (none_mapped (micro.ChangeFileSize file) (λ k. refl) (growth_sizes version size (offset + length bytes)))
        (no_half_blocks (block_of_version version) file offset bytes)

no_half_zeros : (version : Version) (file size to : ℕ) → list_any is_first_half (zero_micros version file size to) ≡ false
no_half_zeros version file size to = by (is_fourth version) (length (zeros_behind size to) == 0)
  where
    by : (b c : Bool) → list_any is_first_half
        (cond b (cond c [] (block_writes (block_of_version version) file to (zeros_behind size to))) []) ≡ false
    by true true = refl
    by true false = no_half_blocks (block_of_version version) file to (zeros_behind size to)
    by false c = refl

no_half_truncate : (version : Version) (file size to : ℕ) → list_any is_first_half (truncate_micros version file size to) ≡ false
no_half_truncate version file size to = by (size == to)
  where
    by : (b : Bool) → list_any is_first_half (cond b [] (zero_micros version file size to ++ micro.ChangeFileSize file to ∷ [])) ≡ false
    by true = refl
    by false = both_none (zero_micros version file size to) (micro.ChangeFileSize file to ∷ []) (no_half_zeros version file size to) refl

no_half_move : (version : Version) → is_fourth version ≡ false → (a b : DirEntry) (node : Node) (old : Option Node)
    → list_any is_first_half (move_micros version a b node old) ≡ false
no_half_move version early a b (Directory d) old = refl
no_half_move version early a b (File kind file) old = by (is_fourth version) early
  where
    by : (fourth : Bool) → fourth ≡ false → list_any is_first_half
        (cond (fourth && is_blocks (profile_of version) && not (a.directory == b.directory)) (halves a b kind file old)
        (micro.MoveDirEntry a b (File kind file) old ∷ [])) ≡ false
    by true is = absurd (false≢true (sym is))
    by false is = refl

no_half : (version : Version) → is_fourth version ≡ false → (o : Operation) → list_any is_first_half (micros_of version o) ≡ false
no_half version early (Creat e file rights) = refl
no_half version early (Mkdir e directory rights) = refl
no_half version early (MakeLink e file rights target) = refl
no_half version early (Unlink e kind file) = refl
no_half version early (Rmdir e directory) = refl
no_half version early (Rename a b node old) = by (entry_eq (entry_of a) (entry_of b))
  where
    by : (same : Bool) → list_any is_first_half (cond same [] (move_micros version a b node old)) ≡ false
    by true = refl
    by false = no_half_move version early a b node old
no_half version early (Link e file) = refl
no_half version early (Write file size offset bytes) = no_half_write version file size offset bytes
no_half version early (Truncate file size to) = no_half_truncate version file size to
no_half version early (SetAttr target was is) = by (same_rights was is)
  where
    by : (same : Bool) → list_any is_first_half (cond same [] (micro.SetAttr target is ∷ [])) ≡ false
    by true = refl
    by false = refl
no_half version early (Sync c) = refl
no_half version early Say = refl

pub no_halves : (version : Version) → is_fourth version ≡ false → (ops : List Operation)
    → list_any is_first_half (micro_operations_of version ops) ≡ false
unfolding micro_operations_of
no_halves version early [] = refl
no_halves version early (o ∷ ops) =
    both_none (micros_of version o) (flat_map (micros_of version) ops) (no_half version early o) (no_halves version early ops)

pub none_at : (ops : List MicroOp) → list_any is_first_half ops ≡ false → (k : ℕ) → is_first_half (op_at ops k) ≡ false
none_at ops none k = ⊎_elim
    (λ (low : k < length ops). ⊎_elim
    (λ (yes : is_first_half (op_at ops k) ≡ true). absurd (false≢true (sym none ∙ list_any_at is_first_half ops k micro.Say low yes)))
    (λ (no : is_first_half (op_at ops k) ≡ false). no)
    (cases_Bool (is_first_half (op_at ops k))))
    (λ (high : length ops ≤ k). ap is_first_half (get_or_past ops k micro.Say high))
    (cases_lt k (length ops))

-- ---- the sync points

-- what is made by the first micro-operations
made_front : (m : Made) (xs ys : List MicroOp) → made_at m (xs ++ ys) (length xs) ≡ fold made_after m xs
made_front m [] ys = refl
made_front m (x ∷ xs) ys = made_first m x (xs ++ ys) (length xs) ∙ made_front (made_after m x) xs ys

micros_split : (version : Version) (xs ys : List Operation)
    → micro_operations_of version (xs ++ ys) ≡ micro_operations_of version xs ++ micro_operations_of version ys
unfolding micro_operations_of
micros_split version xs ys = flat_map_both xs
  where
    flat_map_both : (xs : List Operation) → flat_map (micros_of version) (xs ++ ys) ≡ flat_map (micros_of version) xs ++ flat_map
        (micros_of version) ys
    flat_map_both [] = refl
    flat_map_both (x ∷ xs) =
        ap (λ v. micros_of version x ++ v) (flat_map_both xs)
        ∙ sym (append_assoc (micros_of version x) (flat_map (micros_of version) xs) (flat_map (micros_of version) ys))

legal_front : (version : Version) (fs : FileSystem) (xs ys : List Operation) → trace.AreLegal version fs (xs ++ ys)
    → trace.AreLegal version fs xs × trace.AreLegal version (system_after_all fs xs) ys
legal_front version fs [] ys legal = (tt, legal)
legal_front version fs (x ∷ xs) ys legal = (let w = legal_front version (system_after fs x) xs ys legal.1 in ((legal.0, w.0), w.1))

named_more : (E : ℕ → Entries) (n : ℕ) (xs ys : List SyncPoint) → AreNamedSyncs E n xs → AreNamedSyncs E n ys → AreNamedSyncs E n (xs ++ ys)
named_more E n [] ys one two = two
named_more E n (x ∷ xs) ys one two = (one.0, named_more E n xs ys one.1 two)

module _ (version : Version) (fs : FileSystem) (small : AreSmall version fs) (operations : List Operation)
    (legal : trace.AreLegal version fs operations) (plain : list_any waits_for_data operations ≡ false) where
  abbrev ops : List MicroOp
  ops = micro_operations_of version operations

  abbrev pub E : ℕ → Entries
  E k = held_in (made_at (made_of fs) ops k).entries

  -- after the micro-operations of the first operations, entries are as these leave them
  front_left : (xs ys : List Operation) → xs ++ ys ≡ operations
      → (length (micro_operations_of version xs) ≤ length ops)
      × (E (length (micro_operations_of version xs)) ≡ held_in (system_after_all fs xs).entries)
  front_left xs ys is =
      let split : micro_operations_of version xs ++ micro_operations_of version ys ≡ ops =
      sym (micros_split version xs ys) ∙ ap (micro_operations_of version) is in
      let parts = legal_front version fs xs ys (subst (trace.AreLegal version fs) (sym is) legal) in (
        (let long = ap length split in
            omega (arith, long, length-append (micro_operations_of version xs) (micro_operations_of version ys))),
        ap (λ v. held_in (made_at (made_of fs) v (length (micro_operations_of version xs))).entries) (sym split)
            ∙ ap (λ (m : Made). held_in m.entries)
            (made_front (made_of fs) (micro_operations_of version xs) (micro_operations_of version ys)
            ∙ all_leave version fs xs small parts.0),
      )

  named_point : (xs : List Operation) (o : Operation) (ys : List Operation) → xs ++ o ∷ ys ≡ operations
      → AreNamedSyncs E (length ops) (points_after (length (micro_operations_of version xs)) o)
  named_point xs (Sync c) ys is = (by c refl, tt)
    where
      by : (d : Covers) → c ≡ d → IsNamedSync E (length ops) d
      by (covers.Directory d path) same =
          (let left = front_left xs (Sync c ∷ ys) is in
          let one = (legal_front version fs xs (Sync c ∷ ys) (subst (trace.AreLegal version fs) (sym is) legal)).1.0 in
          let there = subst (λ x. trace.AreNamed (held_in (system_after_all fs xs).entries) (Sync x)) same one.named in
          (length (micro_operations_of version xs), left.0, ap (λ m. at_path m path) left.1 ∙ there))
      by (covers.Data file) same =
          false≢true (sym plain ∙ ap (list_any waits_for_data) (sym is) ∙ list_any-append waits_for_data xs (Sync c ∷ ys)
          ∙ or_true (list_any waits_for_data xs) (waits_for_data (Sync c) || list_any waits_for_data ys)
          (ap (λ x. waits_for_data (Sync x) || list_any waits_for_data ys) same))
        where
          or_true : (a b : Bool) → b ≡ true → (a || b) ≡ true
          or_true true b t = refl
          or_true false b t = t
      by covers.All same = tt
      by (covers.File file) same = tt
      by (covers.Range file offset count) same = tt
  named_point xs (Creat e file rights) ys is = tt
  named_point xs (Mkdir e directory rights) ys is = tt
  named_point xs (MakeLink e file rights target) ys is = tt
  named_point xs (Unlink e kind file) ys is = tt
  named_point xs (Rmdir e directory) ys is = tt
  named_point xs (Rename a b node old) ys is = tt
  named_point xs (Link e file) ys is = tt
  named_point xs (Write file size offset bytes) ys is = tt
  named_point xs (Truncate file size to) ys is = tt
  named_point xs (SetAttr target was now) ys is = tt
  named_point xs Say ys is = tt

  -- the points of the operations from one on
  named_from : (xs ys : List Operation) → xs ++ ys ≡ operations
      → AreNamedSyncs E (length ops) (flat_map (points_at version operations) (range_with_len (length xs) (length ys)))
  named_from xs [] is = tt
  named_from xs (o ∷ ys) is =
      named_more E (length ops) (points_at version operations (length xs))
      (flat_map (points_at version operations) (range_with_len (length xs + 1) (length ys)))
      (subst (AreNamedSyncs E (length ops)) point (named_point xs o ys is))
      (subst (λ k. AreNamedSyncs E (length ops) (flat_map (points_at version operations) (range_with_len k (length ys)))) long
      (named_from (xs ++ o ∷ []) ys (append_assoc xs (o ∷ []) ys ∙ is)))
    where
      long : length (xs ++ o ∷ []) ≡ length xs + 1
      long = length-append xs (o ∷ [])

      take_front : (xs zs : List Operation) → xs ≡ take (length xs) (xs ++ zs)
      take_front [] zs = refl
      take_front (x ∷ xs) zs = ap (λ v. x ∷ v) (take_front xs zs)

      read_front : (xs : List Operation) (o : Operation) (ys : List Operation) → o ≡ get_or (xs ++ o ∷ ys) (length xs) Say
      read_front [] o ys = refl
      read_front (x ∷ xs) o ys = read_front xs o ys

      point : points_after (length (micro_operations_of version xs)) o ≡ points_at version operations (length xs)
      point =
          (λ i. points_after (length (micro_operations_of version (take_front xs (o ∷ ys) i))) (read_front xs o ys i))
          ∙ ap (λ v. points_after (length (micro_operations_of version (take (length xs) v))) (get_or v (length xs) Say)) is

  pub named_syncs : AreNamedSyncs E (length ops) (sync_points_of version operations)
  unfolding sync_points_of
  named_syncs = named_from [] operations refl
