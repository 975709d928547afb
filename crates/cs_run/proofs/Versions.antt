-- How much a change raises the versions of a tree.
use Rattle.std.proofs.Common.{◌≡◌, ◌≢◌, ◌+◌, ◌<◌, ◌≤◌, ℕ, List, [], ◌∷◌, ◌++◌, Option, None, Some, refl, sym, ap, ◌∙◌, subst, ⊎_elim}
use Rattle.std.proofs.Common.{length, arith, ◌^◌, IfSome, Bool, true, false, if◌then◌else◌}
use Rattle.std.proofs.lemmas.Bool.{false≢true}
use Rattle.std.proofs.lemmas.List.{append-nil, length-append}
use Rattle.std.specs.FinMap.{FinMap, get, insert, remove, entries, entries_sorted, get-entries}
use Rattle.std.specs.List.{find}
use Rattle.std.specs.Option.{option_map, option_map_or, is_some}
use Rattle.cs_tree_model.specs.declared.change.Change.{Change}
use Rattle.cs_tree_model.specs.declared.change.New.{New}
use Rattle.cs_tree_model.specs.declared.change.Stamp.{Stamp}
use Rattle.cs_tree_model.specs.declared.record.Record.{Record}
use Rattle.cs_tree_model.specs.Effects.{add, change_at, move_paths, new_record, rename, replace_prefix, stamp_at, record_with_stamp}
use Rattle.cs_tree_model.specs.Effects.{take_out, with_record}
use Rattle.cs_tree_model.specs.Stores.{CanStamp, tree_with_file, at_number, change_path, tree_with_change, changed_record}
use Rattle.cs_tree_model.specs.Stores.{tree_without_file, record_with_length_if_named, stamped_write, written_to}
use Rattle.cs_tree_model.specs.Tree.{NameBytes, Path, Tree, parent_path, path_cmp, path_numbered, record_at}
use Rattle.cs_tree_model.specs.Laws.Moves.{after_itself, get_moved_only}
use Rattle.cs_tree_model.specs.Laws.Paths.{insert_cases, path_total, path_exact}
use Rattle.cs_tree_model.specs.Maps.Changes.{get-remove_same, get-remove_other, key_cases}
use Rattle.cs_tree_model.specs.Laws.Numbers.{found_numbered, has_number}
use Rattle.cs_tree_model.specs.Laws.Numbered.{next_changed, next_removed, next_written}
use Rattle.cs_permit.specs.Calls.{RulesView}
use Rattle.cs_permit.specs.Writes.{write_start}
use Rattle.cs_permit.specs.declared.call.Call.{Call}
use Rattle.cs_permit.specs.declared.call.Call.TheVariants.{Close, Create, Open, Remove, Write, Wstat}
use Rattle.cs_permit.specs.declared.call.OpenFile.{OpenFile}
use Rattle.cs_permit.specs.declared.call.WstatCall.{WstatCall}
use Rattle.cs_run.specs.Effects.{requested_change, changed_by, changes_some, closed_tree, effect_of, change_to_no_bytes, truncates_file}
use Rattle.cs_run.specs.Effects.{requested_new, removes_file, stamp, writes}
use Rattle.cs_run.specs.Effects.{open_effect, create_effect, write_effect, close_effect, remove_effect}
use Rattle.cs_run.specs.Effects.{wstat_effect}
use Rattle.cs_run.specs.Laws.{AllVersBelow, RaisesByOne}
use Rattle.cs_run.specs.Opens.{open_numbered}
use Rattle.cs_run.specs.Outcomes.{result_by_outcome}
use Rattle.cs_run.specs.declared.answer.Outcome.{Outcome}
use Rattle.cs_run.specs.declared.answer.Outcome.TheVariants.{Granted}
use Rattle.cs_run.specs.declared.turn.Turn.{Turn}

abbrev Below : ℕ → FinMap path_cmp Record → Type 0
Below k m = (p : Path) (r : Record) → get m p ≡ Some r → r.vers < k

-- below k, except at q, which may have k
abbrev BelowBut : ℕ → Path → FinMap path_cmp Record → Type 0
BelowBut k q m = (p : Path) (r : Record) → get m p ≡ Some r → (r.vers < k + 1) × (p ≢ q → r.vers < k)

more : (k : ℕ) (m : FinMap path_cmp Record) → Below k m → Below (k + 1) m
more k m h p r is = let b : r.vers < k = h p r is in omega arith

insert_below : (k : ℕ) (m : FinMap path_cmp Record) (q : Path) (w : Record) → Below k m → w.vers < k → Below k (insert m q w)
insert_below k m q w h new p r is = ⊎_elim
    (λ (one : (p ≡ q) × (r ≡ w)). subst (λ (v : Record). v.vers < k) (sym one.1) new)
    (λ (other : (p ≢ q) × (get m p ≡ Some r)). h p r other.1)
    (insert_cases m p q w r is)

remove_below : (k : ℕ) (m : FinMap path_cmp Record) (q : Path) → Below k m → Below k (remove m q)
remove_below k m q h p r is = ⊎_elim
    (λ one. absurd (false≢true (ap is_some (sym (get-remove_same path_total path_exact m q) ∙ ap (get (remove m q)) (sym one.1) ∙ is))))
    (λ other. h p r (sym (get-remove_other path_total path_exact m p q other.1) ∙ is))
    (key_cases path_total path_exact p q)

-- f of the record at q, which raises its version by one
with_below_but : (k : ℕ) (m : FinMap path_cmp Record) (q : Path) (f : Record → Record) → ((r : Record) → (f r).vers ≡ r.vers + 1)
    → Below k m → BelowBut k q (with_record q f m)
with_below_but k m q f one h = by (get m q) refl
  where
    by : (o : Option Record) → get m q ≡ o → BelowBut k q (option_map_or (λ r. insert m q (f r)) o m)
    by None e p r is = (let b : r.vers < k = h p r is in (omega arith, λ _. b))
    by (Some w) e p r is = ⊎_elim
        (λ (same : (p ≡ q) × (r ≡ f w)).
        (let b : w.vers < k = h q w e in let v : r.vers ≡ w.vers + 1 = ap (λ (u : Record). u.vers) same.1 ∙ one w in
        (omega arith, λ ne. absurd (ne same.0))))
        (λ (other : (p ≢ q) × (get m p ≡ Some r)). (let b : r.vers < k = h p r other.1 in (omega arith, λ _. b)))
        (insert_cases m p q (f w) r is)

-- a map without an exception
all_below : (k : ℕ) (q : Path) (m : FinMap path_cmp Record) → BelowBut k q m → Below (k + 1) m
all_below k q m h p r is = (h p r is).0

with_below : (k : ℕ) (m : FinMap path_cmp Record) (q : Path) (f : Record → Record) → ((r : Record) → (f r).vers ≡ r.vers + 1) → Below k m
    → Below (k + 1) (with_record q f m)
with_below k m q f one h = all_below k q (with_record q f m) (with_below_but k m q f one h)

-- and f of another record than the one that may be higher already
with_below_other : (k : ℕ) (m : FinMap path_cmp Record) (q u : Path) (f : Record → Record) → ((r : Record) → (f r).vers ≡ r.vers + 1)
    → u ≢ q → BelowBut k q m → Below (k + 1) (with_record u f m)
with_below_other k m q u f one ne h = by (get m u) refl
  where
    by : (o : Option Record) → get m u ≡ o → Below (k + 1) (option_map_or (λ r. insert m u (f r)) o m)
    by None e = all_below k q m h
    by (Some w) e = (let b : w.vers < k = (h u w e).1 ne in let v : (f w).vers ≡ w.vers + 1 = one w in
        insert_below (k + 1) m u (f w) (all_below k q m h) (omega arith))

sized_raises : (n : Option ℕ) (s : Stamp) (r : Record) → (record_with_length_if_named n s r).vers ≡ r.vers + 1
sized_raises None s r = refl
sized_raises (Some n) s r = refl

-- a name that is moved to another in the same directory
snoc_longer : (p : Path) (y : NameBytes) → p ≢ p ++ y ∷ []
snoc_longer p y same = (let e : length p ≡ length p + 1 = ap length same ∙ length-append p (y ∷ []) in absurd (omega arith))

moved_itself : (old new : Path) → replace_prefix old new old ≡ new
moved_itself old new = ap (λ o. option_map_or (λ rest. new ++ rest) o old) (after_itself old) ∙ append-nil new

moved_below_but : (k : ℕ) (m : FinMap path_cmp Record) (q new : Path) → BelowBut k q m
    → BelowBut k new (move_paths (replace_prefix q new) m)
moved_below_but k m q new h p r is =
    let o = get_moved_only (replace_prefix q new) m p r is in
    let b = h o.0 r o.2 in
    (b.0, λ ne. b.1 (λ same. ne (sym o.1 ∙ ap (replace_prefix q new) same ∙ moved_itself q new)))

module _ (k : ℕ) (t : Tree) (h : AllVersBelow k t) where
  at_number_below : (n : ℕ) (f : Path → Tree → Tree) → ((p : Path) → AllVersBelow (k + 1) (f p t)) → AllVersBelow (k + 1) (at_number n f t)
  at_number_below n f keeps = by (path_numbered t n)
    where
      by : (o : Option Path) → AllVersBelow (k + 1) (option_map_or (λ p. f p t) o t)
      by None = more k t.files h
      by (Some p) = keeps p

  pub added_below : (d : ℕ) (x : NameBytes) (w : New) (s : Stamp) → AllVersBelow (k + 1) (tree_with_file d x w s t)
  added_below d x w s = at_number_below d (λ p. add p x w s) (λ p. by p (record_at t p))
    where
      by : (p : Path) (o : Option Record) → AllVersBelow (k + 1) (option_map_or (λ r. record {
        files = insert (stamp_at p s t.files) (p ++ x ∷ []) (new_record t.next r.group w s);
        next = t.next + 1;
      }) o t)
      by p None = more k t.files h
      by p (Some r) =
          insert_below (k + 1) (stamp_at p s t.files) (p ++ x ∷ []) (new_record t.next r.group w s)
          (with_below k t.files p (record_with_stamp s) (λ r. refl) h) (omega arith)

  pub removed_below : (n : ℕ) (s : Stamp) → AllVersBelow (k + 1) (tree_without_file n s t)
  removed_below n s =
      at_number_below n (λ p. take_out p s)
      (λ p. with_below k (remove t.files p) (parent_path p) (record_with_stamp s) (λ r. refl) (remove_below k t.files p h))

  pub written_below : (n start : ℕ) (w : List ℕ) (s : Stamp) → AllVersBelow (k + 1) (written_to n start w s t)
  written_below n start w s =
      at_number_below n (λ p. change_at p (stamped_write start w s)) (λ p. with_below k t.files p (stamped_write start w s) (λ r. refl) h)

  pub changed_below : (n : ℕ) (c : Change) (s : Stamp) → AllVersBelow (k + 1) (tree_with_change n c s t)
  changed_below n c s =
      at_number_below n (change_path c s) (λ p. by p c.name (with_below_but k t.files p (changed_record c s) (sized_raises c.length s) h))
    where
      by : (p : Path) (o : Option NameBytes) → BelowBut k p (change_at p (changed_record c s) t).files
          → AllVersBelow (k + 1)
          (option_map_or (λ y. rename p y s (change_at p (changed_record c s) t)) o (change_at p (changed_record c s) t))
      by p None below = all_below k p (change_at p (changed_record c s) t).files below
      by p (Some y) below =
          with_below_other k (move_paths (replace_prefix p (parent_path p ++ y ∷ [])) (change_at p (changed_record c s) t).files)
          (parent_path p ++ y ∷ []) (parent_path p) (record_with_stamp s) (λ r. refl)
          (snoc_longer (parent_path p) y) (moved_below_but k (change_at p (changed_record c s) t).files p (parent_path p ++ y ∷ []) below)

-- if versions are below k < 2 ^ 32, each can grow by one
pub versions_can_grow : (k : ℕ) (t : Tree) → AllVersBelow k t → k < 2 ^ 32 → (n : ℕ) → CanStamp t n
versions_can_grow k t h less n = by (find (has_number n) (entries t.files)) refl
  where
    by : (o : Option (Path × Record)) → find (has_number n) (entries t.files) ≡ o
        → IfSome (option_map (λ e. e.1) o) (λ r. r.vers + 1 < 2 ^ 32)
    by None e = tt
    by (Some e) found =
        let at = found_numbered n e (entries t.files) (entries_sorted t.files) found in
        let b : e.1.vers < k = h e.0 e.1 (get-entries t.files e.0 ∙ at.0) in
        omega arith

-- ---- the next number

module _ (t : Tree) where
  pub added_next : (d : ℕ) (x : NameBytes) (w : New) (s : Stamp) → (tree_with_file d x w s t).next ≤ t.next + 1
  added_next d x w s = by (path_numbered t d)
    where
      at : (p : Path) (o : Option Record) → (option_map_or (λ r. record {
        files = insert (stamp_at p s t.files) (p ++ x ∷ []) (new_record t.next r.group w s);
        next = t.next + 1;
      }) o t).next ≤ t.next + 1
      at p None = omega arith
      at p (Some r) = omega arith

      by : (o : Option Path) → (option_map_or (λ p. add p x w s t) o t).next ≤ t.next + 1
      by None = omega arith
      by (Some p) = at p (record_at t p)

-- ---- the effects

same : (t : Tree) → RaisesByOne t t
same t = record { versions = λ k h. more k t.files h; next = omega arith }

choose : (b : Bool) (t a : Tree) → RaisesByOne t a → RaisesByOne t (if b then a else t)
choose true t a h = h
choose false t a h = same t

removed_raises : (t : Tree) (n : ℕ) (s : Stamp) → RaisesByOne t (tree_without_file n s t)
removed_raises t n s = record { versions = λ k h. removed_below k t h n s; next = (let e = next_removed t n s in omega arith) }

changed_raises : (t : Tree) (n : ℕ) (c : Change) (s : Stamp) → RaisesByOne t (tree_with_change n c s t)
changed_raises t n c s = record { versions = λ k h. changed_below k t h n c s; next = (let e = next_changed t n c s in omega arith) }

written_raises : (t : Tree) (n start : ℕ) (w : List ℕ) (s : Stamp) → RaisesByOne t (written_to n start w s t)
written_raises t n start w s = record {
  versions = λ k h. written_below k t h n start w s;
  next = (let e = next_written t n start w s in omega arith);
}

closed_raises : (t : Tree) (w : Turn) (user : List ℕ) (o : Option OpenFile) → RaisesByOne t (closed_tree t w user o)
closed_raises t w user None = same t
closed_raises t w user (Some o) =
    choose (removes_file t (Some o)) t (tree_without_file o.file (stamp w user) t) (removed_raises t o.file (stamp w user))

requested_raises : (t : Tree) (w : Turn) (c : WstatCall) (o : Option Change) → RaisesByOne t (option_map_or (changed_by t w c) o t)
requested_raises t w c None = same t
requested_raises t w c (Some x) =
    choose (changes_some x) t (tree_with_change c.number x (stamp w c.user) t) (changed_raises t c.number x (stamp w c.user))

pub effect_raises : (s : RulesView) (w : Turn) (call : Call) → RaisesByOne s.tree (effect_of s w call).tree
unfolding open_effect create_effect write_effect close_effect remove_effect wstat_effect
effect_raises s w (Open c) =
    choose (truncates_file s.tree c) s.tree (tree_with_change c.number change_to_no_bytes (stamp w c.user) s.tree)
    (changed_raises s.tree c.number change_to_no_bytes (stamp w c.user))
effect_raises s w (Create c) = record {
  versions = λ k h. added_below k s.tree h c.number c.name (requested_new s.tree c) (stamp w c.user);
  next = added_next s.tree c.number c.name (requested_new s.tree c) (stamp w c.user);
}
effect_raises s w (Write c) =
    choose (writes s.tree c) s.tree (written_to c.number (write_start s.tree c) c.bytes (stamp w c.user) s.tree)
    (written_raises s.tree c.number (write_start s.tree c) c.bytes (stamp w c.user))
effect_raises s w (Close c) = closed_raises s.tree w c.user (open_numbered c.open_number w.pass s.opens)
effect_raises s w (Remove c) = removed_raises s.tree c.number (stamp w c.user)
effect_raises s w (Wstat c) = requested_raises s.tree w c (requested_change s.tree c)
effect_raises s w call = same s.tree

pub step_raises : (s : RulesView) (w : Turn) (call : Call) (o : Outcome) → RaisesByOne s.tree (result_by_outcome s w call o).tree
step_raises s w call Granted = effect_raises s w call
step_raises s w call o = same s.tree
