-- The tests of what a sync covers, and of what is between two operations, say what the sentences
-- say.
use Rattle.std.proofs.Common.{◌≡◌, ◌⊎◌, inl, inr, ℕ, ◌+◌, ◌-◌, ◌&&◌, ◌||◌, ◌==◌, not, true, false, List}
use Rattle.std.proofs.Common.{length, refl, sym, ap, ◌∙◌, arith, ⊎_elim}
use Rattle.std.proofs.lemmas.Bool.{cases_Bool, false≢true, and_parts, and_from, or_cases, or_left}
use Rattle.std.proofs.lemmas.Bool.{or_right, eqb-true, eq-eqb, lt-ltb, not-true, leb-true, le-leb}
use Rattle.std.proofs.lemmas.Bool.{ltb-true}
use Rattle.std.specs.Prelude.{nat_lt, nat_le}
use Rattle.std.specs.List.{list_any}
use Rattle.cs_entries.specs.declared.node.Node.TheVariants.{Directory}
use Rattle.cs_entries.specs.Rules.{is_latest, makes, places_between}
use Rattle.cs_trace.specs.declared.operation.Covers.{Covers}
use Rattle.cs_trace.specs.declared.operation.Covers.TheVariants as covers
use Rattle.cs_trace.specs.declared.operation.Target.TheVariants as targets
use Rattle.cs_micro.specs.declared.micro_op.MicroOp.{MicroOp}
use Rattle.cs_micro.specs.declared.micro_op.MicroOp.TheVariants.{CreateDirEntry, DeleteDirEntry}
use Rattle.cs_micro.specs.declared.micro_op.MicroOp.TheVariants.{MoveDirEntry, LinkDirEntry}
use Rattle.cs_micro.specs.declared.micro_op.MicroOp.TheVariants.{ChangeFileSize, WriteBlock}
use Rattle.cs_micro.specs.declared.micro_op.MicroOp.TheVariants.{SetAttr, Say}
use Rattle.cs_micro.specs.declared.sync_point.SyncPoint.{SyncPoint}
use Rattle.cs_apm.specs.Rules.{entry_op_at, is_covered, is_synced, lies_within, op_at}
use Rattle.cs_apm.specs.Rules.{sets_directory, touches_entry_of}
use Rattle.cs_apm.specs.Reasons.{ChangesSize, IsCovered, IsLatestMaking, IsSyncedBetween}
use Rattle.cs_apm.specs.Reasons.{SetsDirectory, SetsFile, TouchesEntryOf, Writes, WritesWithin}
use Rattle.cs_apm.specs.Laws.Lists.{any_between, any_found, any_from, none_between}
use Rattle.cs_apm.specs.Laws.Pairs.{directory_says, makes_says, says_directory}
use Rattle.cs_apm.specs.Laws.Touched.{entry_says}
use Rattle.cs_apm.specs.Laws.Pairs.{says_makes}
use Rattle.cs_apm.specs.Laws.Touched.{says_entry}

-- ---- a sync

within_says : (file offset count other block start at : ℕ) (bytes : List ℕ)
    → (file == other && lies_within offset count (start + at) (start + at + length bytes)) ≡ true
    → WritesWithin (WriteBlock other block start at bytes) file offset count
within_says file offset count other block start at bytes h =
    let parts =
    and_parts (file == other)
    (lies_within offset count (start + at) (start + at + length bytes)) h in
    let ends =
    and_parts (nat_le offset (start + at)) (nat_le (start + at + length bytes) (offset + count))
    parts.1 in
    record {
      block = block;
      start = start;
      at = at;
      bytes = bytes;
      is = ap (λ w. WriteBlock w block start at bytes) (sym (eqb-true file other parts.0));
      from = leb-true offset (start + at) ends.0;
      to = leb-true (start + at + length bytes) (offset + count) ends.1;
    }

says_within : (o : MicroOp) (file offset count : ℕ) → WritesWithin o file offset count
    → is_covered (covers.Range file offset count) o ≡ true
says_within o file offset count w =
    ap (is_covered (covers.Range file offset count)) w.is
    ∙ and_from (file == file)
    (lies_within offset count (w.start + w.at) (w.start + w.at + length w.bytes))
    (eq-eqb file file refl)
    (and_from (nat_le offset (w.start + w.at))
    (nat_le (w.start + w.at + length w.bytes) (offset + count))
    (le-leb offset (w.start + w.at) w.from)
    (le-leb (w.start + w.at + length w.bytes) (offset + count) w.to))

covered_says : (c : Covers) (o : MicroOp) → is_covered c o ≡ true → IsCovered c o
covered_says covers.All o h = tt
covered_says (covers.File file) (WriteBlock other block start at bytes) h =
    inl (inl (
      block,
      (start, at, bytes, ap (λ w. WriteBlock w block start at bytes) (sym (eqb-true file other h))),
    ))
covered_says (covers.File file) (ChangeFileSize other size) h =
    inl (inr (size, ap (λ w. ChangeFileSize w size) (sym (eqb-true file other h))))
covered_says (covers.File file) (SetAttr (targets.File other) rights) h =
    inr (rights, ap (λ w. SetAttr (targets.File w) rights) (sym (eqb-true file other h)))
covered_says (covers.File file) (SetAttr (targets.Directory d path) rights) h =
    absurd (false≢true h)
covered_says (covers.File file) (CreateDirEntry e node rights bytes) h = absurd (false≢true h)
covered_says (covers.File file) (DeleteDirEntry e node) h = absurd (false≢true h)
covered_says (covers.File file) (MoveDirEntry a b node old) h = absurd (false≢true h)
covered_says (covers.File file) (LinkDirEntry e kind other old half) h = absurd (false≢true h)
covered_says (covers.File file) Say h = absurd (false≢true h)
covered_says (covers.Data file) (WriteBlock other block start at bytes) h =
    inl (
      block,
      (start, at, bytes, ap (λ w. WriteBlock w block start at bytes) (sym (eqb-true file other h))),
    )
covered_says (covers.Data file) (ChangeFileSize other size) h =
    inr (size, ap (λ w. ChangeFileSize w size) (sym (eqb-true file other h)))
covered_says (covers.Data file) o h = absurd (false≢true h)
covered_says (covers.Range file offset count) (WriteBlock other block start at bytes) h =
    inl (within_says file offset count other block start at bytes h)
covered_says (covers.Range file offset count) (ChangeFileSize other size) h =
    inr (size, ap (λ w. ChangeFileSize w size) (sym (eqb-true file other h)))
covered_says (covers.Range file offset count) o h = absurd (false≢true h)
covered_says (covers.Directory d path) o h = ⊎_elim
    (λ (entry : touches_entry_of o d ≡ true). inl (entry_says o d entry))
    (λ (own : sets_directory o d ≡ true). inr (directory_says o d own))
    (or_cases (touches_entry_of o d) (sets_directory o d) h)

says_covered : (c : Covers) (o : MicroOp) → IsCovered c o → is_covered c o ≡ true
says_covered covers.All o h = refl
says_covered (covers.File file) o h = ⊎_elim
    (λ (b : Writes o file ⊎ ChangesSize o file). ⊎_elim
    (λ (w : Writes o file). ap (is_covered (covers.File file)) w.1.3 ∙ eq-eqb file file refl)
    (λ (s : ChangesSize o file). ap (is_covered (covers.File file)) s.1 ∙ eq-eqb file file refl)
    b)
    (λ (r : SetsFile o file). ap (is_covered (covers.File file)) r.1 ∙ eq-eqb file file refl)
    h
says_covered (covers.Data file) o h = ⊎_elim
    (λ (w : Writes o file). ap (is_covered (covers.Data file)) w.1.3 ∙ eq-eqb file file refl)
    (λ (s : ChangesSize o file). ap (is_covered (covers.Data file)) s.1 ∙ eq-eqb file file refl)
    h
says_covered (covers.Range file offset count) o h = ⊎_elim
    (says_within o file offset count)
    (λ (s : ChangesSize o file). ap (is_covered (covers.Range file offset count)) s.1 ∙ eq-eqb file
    file refl)
    h
says_covered (covers.Directory d path) o h = ⊎_elim
    (λ (w : TouchesEntryOf o d). or_left (touches_entry_of o d) (sets_directory o d)
    (says_entry o d w))
    (λ (s : SetsDirectory o d). or_right (touches_entry_of o d) (sets_directory o d)
    (says_directory o d s))
    h

module _ (ops : List MicroOp) (syncs : List SyncPoint) (i j : ℕ) where
  pub synced_says : is_synced syncs i j (op_at ops i) ≡ true → IsSyncedBetween ops syncs i j
  synced_says h =
      let w = any_found
      (λ (s : SyncPoint). (nat_lt i s.at && nat_le s.at j) && is_covered s.covers (op_at ops i))
      syncs h in
      let parts =
      and_parts (nat_lt i w.0.at && nat_le w.0.at j) (is_covered w.0.covers (op_at ops i)) w.2
      in
      let times = and_parts (nat_lt i w.0.at) (nat_le w.0.at j) parts.0 in
      record {
        point = w.0;
        there = w.1;
        behind = ltb-true i w.0.at times.0;
        ahead = leb-true w.0.at j times.1;
        covered = covered_says w.0.covers (op_at ops i) parts.1;
      }

  pub says_synced : IsSyncedBetween ops syncs i j → is_synced syncs i j (op_at ops i) ≡ true
  says_synced w =
      any_from (λ (s : SyncPoint). (nat_lt i s.at && nat_le s.at j)
      && is_covered s.covers (op_at ops i)) syncs w.point w.there
      (and_from (nat_lt i w.point.at && nat_le w.point.at j)
      (is_covered w.point.covers (op_at ops i))
      (and_from (nat_lt i w.point.at) (nat_le w.point.at j) (lt-ltb i w.point.at w.behind)
      (le-leb w.point.at j w.ahead))
      (says_covered w.point.covers (op_at ops i) w.covered))

  -- ---- the latest making

  pub latest_says : (d : ℕ) → is_latest (entry_op_at ops) i j d ≡ true → IsLatestMaking ops i j d
  unfolding is_latest
  latest_says d h =
      let t = λ (k : ℕ). makes (entry_op_at ops k) d in
      let parts =
      and_parts (makes (entry_op_at ops i) d) (not (list_any t (places_between i j))) h in
      record {
        made = makes_says (op_at ops i) d parts.0;
        last = λ k low high c. false≢true
            (sym (not-true (list_any t (places_between i j)) parts.1) ∙ any_between t (i + 1)
            (j - (i + 1)) k (omega (arith, low)) (omega (arith, low, high))
            (says_makes (op_at ops k) d c));
      }

  pub says_latest : (d : ℕ) → IsLatestMaking ops i j d → is_latest (entry_op_at ops) i j d ≡ true
  unfolding is_latest
  says_latest d w =
      let t = λ (k : ℕ). makes (entry_op_at ops k) d in
      and_from (makes (entry_op_at ops i) d) (not (list_any t (places_between i j)))
      (says_makes (op_at ops i) d w.made)
      (ap not (none_between t (i + 1) (j - (i + 1)) (λ k low high. ⊎_elim
      (λ (yes : t k ≡ true). absurd
      (w.last k (omega (arith, low)) (omega (arith, low, high))
      (makes_says (op_at ops k) d yes)))
      (λ (none : t k ≡ false). none)
      (cases_Bool (t k)))))
