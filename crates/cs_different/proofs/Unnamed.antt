-- A file that nothing makes or links is held by no entry.
use Rattle.std.proofs.Common.{◌==◌, ◌≡◌, ◌≢◌, ℕ, zero, suc, Bool, true, false, cond, List, Option, None, Some}
use Rattle.std.proofs.Common.{refl, sym, ap, ◌∙◌, subst, ⊎_elim}
use Rattle.std.proofs.lemmas.Bool.{cases_Bool, eq-eqb, false≢true}
use Rattle.std.specs.FinMap.{get, insert, remove}
use Rattle.std.specs.Option.{option_map_or}
use Rattle.cs_entries.specs.DirEntries.{entry_of}
use Rattle.cs_entries.specs.Tables.{Table, entry_cmp}
use Rattle.std.specs.Ordering.{eq_by_cmp}
use Rattle.cs_entries.specs.Laws.Records.{entry_exact, entry_total}
use Rattle.cs_entries.specs.declared.entry.Entry.{Entry}
use Rattle.cs_entries.specs.declared.node.FileKind.{FileKind}
use Rattle.cs_entries.specs.declared.node.Node.{Node}
use Rattle.cs_entries.specs.declared.node.Node.TheVariants.{Directory, File}
use Rattle.cs_tree_model.specs.Maps.Changes.{get-insert_same, get-insert_other, get-remove_same, get-remove_other, key_cases}
use Rattle.cs_micro.specs.declared.micro_op.MicroOp.{MicroOp}
use Rattle.cs_micro.specs.declared.micro_op.MicroOp.TheVariants.{CreateDirEntry, DeleteDirEntry, MoveDirEntry, LinkDirEntry, ChangeFileSize}
use Rattle.cs_micro.specs.declared.micro_op.MicroOp.TheVariants.{WriteBlock, SetAttr, Say}
use Rattle.cs_apm.specs.Rules.{op_at}
use Rattle.cs_apm.specs.States.{entries_after}
use Rattle.cs_apm.specs.Laws.Members.{run}
use Rattle.cs_same_states.specs.Slots.{file_in}
use Rattle.cs_different.specs.Wants.{IsMaker, links, makes}

-- no entry holds the file
abbrev pub IsUnnamed : ℕ → Table → Type 0
IsUnnamed n m = (e : Entry) → file_in (get m e) ≢ Some n

module _ (n : ℕ) where
  inserted : (m : Table) (e : Entry) (node : Node) → file_in (Some node) ≢ Some n → IsUnnamed n m → IsUnnamed n (insert m e node)
  inserted m e node other none q is = ⊎_elim
      (λ (one : (eq_by_cmp entry_cmp q e ≡ true) × (q ≡ e)).
      other (ap file_in (sym (get-insert_same entry_total entry_exact m e node) ∙ ap (get (insert m e node)) (sym one.1)) ∙ is))
      (λ (two : (eq_by_cmp entry_cmp q e ≡ false) × (q ≢ e)).
      none q (ap file_in (sym (get-insert_other entry_total entry_exact m q e node two.1)) ∙ is))
      (key_cases entry_total entry_exact q e)

  removed : (m : Table) (e : Entry) → IsUnnamed n m → IsUnnamed n (remove m e)
  removed m e none q is = ⊎_elim
      (λ (one : (eq_by_cmp entry_cmp q e ≡ true) × (q ≡ e)).
      (let w : None ≡ Some n = ap file_in (sym (get-remove_same entry_total entry_exact m e) ∙ ap (get (remove m e)) (sym one.1))
      ∙ is in absurd (cc w)))
      (λ (two : (eq_by_cmp entry_cmp q e ≡ false) × (q ≢ e)).
      none q (ap file_in (sym (get-remove_other entry_total entry_exact m q e two.1)) ∙ is))
      (key_cases entry_total entry_exact q e)

  moved_none : (m : Table) (a b : Entry) (o : Option Node) → get m a ≡ o → IsUnnamed n m
      → IsUnnamed n (option_map_or (λ held. insert (remove m a) b held) o m)
  moved_none m a b None at none = none
  moved_none m a b (Some node) at none =
      inserted (remove m a) b node (λ is. none a (ap file_in at ∙ is)) (removed m a none)

  other_file : (kind : FileKind) (file : ℕ) → file == n ≡ false → file_in (Some (File kind file)) ≢ Some n
  other_file kind file apart is = (let same : file ≡ n = cc is in false≢true (sym apart ∙ eq-eqb file n same))

  pub unnamed_after : (m : Table) (o : MicroOp) → makes n o ≡ false → links n o ≡ false → IsUnnamed n m → IsUnnamed n (entries_after m o)
  unnamed_after m (CreateDirEntry e (Directory d) rights bytes) made linked none =
      inserted m (entry_of e) (Directory d) (λ is. cc is) none
  unnamed_after m (CreateDirEntry e (File kind file) rights bytes) made linked none =
      inserted m (entry_of e) (File kind file) (other_file kind file made) none
  unnamed_after m (DeleteDirEntry e node) made linked none = removed m (entry_of e) none
  unnamed_after m (MoveDirEntry a b node old) made linked none = moved_none m (entry_of a) (entry_of b) (get m (entry_of a)) refl none
  unnamed_after m (LinkDirEntry e kind file old half) made linked none =
      inserted m (entry_of e) (File kind file) (other_file kind file linked) none
  unnamed_after m (ChangeFileSize file size) made linked none = none
  unnamed_after m (WriteBlock file block start at bytes) made linked none = none
  unnamed_after m (SetAttr target rights) made linked none = none
  unnamed_after m Say made linked none = none

  -- a set without what makes the file leaves no entry that holds it
  pub unnamed_run : (has : ℕ → Bool) (start : Table) (ops : List MicroOp) (z : ℕ) → IsMaker start ops n z → has z ≡ false → (k : ℕ)
      → IsUnnamed n (run entries_after has start ops k)
  unnamed_run has start ops z maker lacks zero = maker.absent
  unnamed_run has start ops z maker lacks (suc k) = ⊎_elim
      (λ (t : has k ≡ true).
      subst (λ b. IsUnnamed n (cond b (entries_after (run entries_after has start ops k) (op_at ops k))
      (run entries_after has start ops k))) (sym t)
      (unnamed_after (run entries_after has start ops k) (op_at ops k) (not_made t) (maker.linkless k)
      (unnamed_run has start ops z maker lacks k)))
      (λ (f : has k ≡ false).
      subst (λ b. IsUnnamed n (cond b (entries_after (run entries_after has start ops k) (op_at ops k))
      (run entries_after has start ops k))) (sym f)
      (unnamed_run has start ops z maker lacks k))
      (cases_Bool (has k))
    where
      not_made : has k ≡ true → makes n (op_at ops k) ≡ false
      not_made t = ⊎_elim
          (λ (yes : makes n (op_at ops k) ≡ true). absurd (false≢true (sym lacks ∙ ap has (sym (maker.alone k yes)) ∙ t)))
          (λ (no_maker : makes n (op_at ops k) ≡ false). no_maker)
          (cases_Bool (makes n (op_at ops k)))
