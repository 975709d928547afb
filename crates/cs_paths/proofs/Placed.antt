-- Where directories are: at their homes, and then where the moves of directories put them.
use Rattle.std.proofs.Common.{◌≡◌, ◌≢◌, ℕ, zero, suc, ◌<◌, ◌≤◌, Bool, true, false, cond, List, [], ◌∷◌, ◌++◌, ◌⊎◌, inl, inr}
use Rattle.std.proofs.Common.{refl, sym, ap, ◌∙◌, subst, arith, ⊎_elim, length, take, get_or-set_same, get_or-set_other, length-set, IfSome}
use Rattle.std.proofs.lemmas.Bool.{cases_Bool, cases_eq, cases_lt, eq-eqb, ne_eqb, false≢true}
use Rattle.std.proofs.lemmas.List.{append-nil}
use Rattle.std.proofs.lemmas.List.Sums.{fold_push}
use Rattle.std.specs.Prelude.{fold, slice_set}
use Rattle.cs_entries.specs.declared.entry.Entry.{Entry}
use Rattle.cs_entries.specs.declared.node.Node.TheVariants.{Directory, File}
use Rattle.cs_entries.specs.DirEntries.{entry_of}
use Rattle.cs_entries.specs.Entries.{EntryOp}
use Rattle.cs_entries.specs.Entries as entry
use Rattle.cs_entries.specs.Positions.{placed_by, position}
use Rattle.cs_entries.specs.Rules.{moves_directory}
use Rattle.cs_micro.specs.Legal.{entry_op}
use Rattle.cs_micro.specs.declared.micro_op.MicroOp.{MicroOp}
use Rattle.cs_micro.specs.declared.micro_op.MicroOp.TheVariants.{CreateDirEntry, DeleteDirEntry}
use Rattle.cs_micro.specs.declared.micro_op.MicroOp.TheVariants.{MoveDirEntry, LinkDirEntry}
use Rattle.cs_micro.specs.declared.micro_op.MicroOp.TheVariants.{ChangeFileSize, WriteBlock}
use Rattle.cs_micro.specs.declared.micro_op.MicroOp.TheVariants.{SetAttr, Say}
use Rattle.cs_apm.specs.Rules.{entry_op_at, op_at}
use Rattle.cs_apm.specs.Slots.{IsStep, entry_at, step_at}
use Rattle.cs_apm.specs.declared.slot.Step.{Step}
use Rattle.cs_apm.specs.declared.slot.Step.TheVariants.{Set, Move, Other}
use Rattle.cs_paths.specs.Marks.{kept_at, numbers_that_pass}
use Rattle.cs_paths.specs.PathOrders.{directory_moves, moved_at, moved_directory, moved_to, position_by, positions_in}
use Rattle.cs_paths.proofs.Counted.{passing, passing_suc, weight, taken}
use Rattle.cs_paths.proofs.Homes.{AreLow, SetsLow, low_set}

-- what doesn't move a directory leaves each where it is
pub stays : (o : EntryOp) (d : ℕ) (e : Entry) → moves_directory o ≡ false → placed_by o d e ≡ e
stays (entry.Create f node) d e is = refl
stays (entry.Link f kind file) d e is = refl
stays (entry.Delete f node) d e is = refl
stays (entry.Move a b (Directory c) old) d e is = absurd (false≢true (sym is))
stays (entry.Move a b (File kind file) old) d e is = refl
stays entry.Other d e is = refl

-- the list of positions moves as the entries do
moved_position : (entries : List Entry) (positions : List ℕ) (o : MicroOp) (s : Step) → IsStep entries o s
    → IfSome (moved_directory o) (λ c. c < length positions) → (d : ℕ)
    → position_by entries (moved_to positions o s) d ≡ placed_by (entry_op o) d (position_by entries positions d)
moved_position entries positions (MoveDirEntry a b (Directory c) old) (Move i j) is low d = ⊎_elim
    (λ (e : d ≡ c).
    ap (λ k. entry_at entries (kept_at (slice_set positions c j) k)) e
    ∙ ap (entry_at entries) (get_or-set_same positions c j 0 low)
    ∙ is.1.1
    ∙ sym (ap (λ w. cond w (entry_of b) (position_by entries positions d)) (eq-eqb c d (sym e))))
    (λ (e : d ≢ c).
    ap (entry_at entries) (get_or-set_other positions c d j 0 e)
    ∙ sym (ap (λ w. cond w (entry_of b) (position_by entries positions d)) (ne_eqb c d (λ s. e (sym s)))))
    (cases_eq d c)
moved_position entries positions (MoveDirEntry a b (Directory c) old) (Set i s) is low d = absurd is
moved_position entries positions (MoveDirEntry a b (Directory c) old) Other is low d = absurd is
moved_position entries positions (MoveDirEntry a b (File kind file) old) s is low d = refl
moved_position entries positions (CreateDirEntry e node rights bytes) s is low d = refl
moved_position entries positions (DeleteDirEntry e node) s is low d = refl
moved_position entries positions (LinkDirEntry e kind file old half) s is low d = refl
moved_position entries positions (ChangeFileSize file to) s is low d = refl
moved_position entries positions (WriteBlock file block start at bytes) s is low d = refl
moved_position entries positions (SetAttr target rights) s is low d = refl
moved_position entries positions Say s is low d = refl

long_moved : (positions : List ℕ) (o : MicroOp) (s : Step) → length (moved_to positions o s) ≡ length positions
long_moved positions (MoveDirEntry a b (Directory c) old) (Move i j) = length-set positions c j
long_moved positions (MoveDirEntry a b (Directory c) old) (Set i s) = refl
long_moved positions (MoveDirEntry a b (Directory c) old) Other = refl
long_moved positions (MoveDirEntry a b (File kind file) old) s = refl
long_moved positions (CreateDirEntry e node rights bytes) s = refl
long_moved positions (DeleteDirEntry e node) s = refl
long_moved positions (LinkDirEntry e kind file old half) s = refl
long_moved positions (ChangeFileSize file to) s = refl
long_moved positions (WriteBlock file block start at bytes) s = refl
long_moved positions (SetAttr target rights) s = refl
long_moved positions Say s = refl

low_moved : (most : ℕ) (positions : List ℕ) (o : MicroOp) (s : Step) → SetsLow most s → AreLow most positions
    → AreLow most (moved_to positions o s)
low_moved most positions (MoveDirEntry a b (Directory c) old) (Move i j) lt low = low_set most positions c j lt low
low_moved most positions (MoveDirEntry a b (Directory c) old) (Set i s) lt low = low
low_moved most positions (MoveDirEntry a b (Directory c) old) Other lt low = low
low_moved most positions (MoveDirEntry a b (File kind file) old) s lt low = low
low_moved most positions (CreateDirEntry e node rights bytes) s lt low = low
low_moved most positions (DeleteDirEntry e node) s lt low = low
low_moved most positions (LinkDirEntry e kind file old half) s lt low = low
low_moved most positions (ChangeFileSize file to) s lt low = low
low_moved most positions (WriteBlock file block start at bytes) s lt low = low
low_moved most positions (SetAttr target rights) s lt low = low
low_moved most positions Say s lt low = low

module _ (ops : List MicroOp) (steps : List Step) where
  pub long_all : (homes : List ℕ) (ks : List ℕ) → length (fold (moved_at ops steps) homes ks) ≡ length homes
  long_all homes [] = refl
  long_all homes (k ∷ ks) =
      long_all (moved_at ops steps homes k) ks ∙ long_moved homes (op_at ops k) (step_at steps k)

  pub low_all : (most : ℕ) → ((k : ℕ) → SetsLow most (step_at steps k)) → (homes : List ℕ) (ks : List ℕ) → AreLow most homes
      → AreLow most (fold (moved_at ops steps) homes ks)
  low_all most all homes [] low = low
  low_all most all homes (k ∷ ks) low =
      low_all most all (moved_at ops steps homes k) ks (low_moved most homes (op_at ops k) (step_at steps k) (all k) low)

  -- a set that keeps the first t moves has directories where these put them
  module _ (entries : List Entry) (homes : List ℕ) (is : (k : ℕ) → IsStep entries (op_at ops k) (step_at steps k))
      (known : (k : ℕ) → k < length ops → IfSome (moved_directory (op_at ops k)) (λ c. c < length homes))
      (has : ℕ → Bool) (t : ℕ) where
    abbrev n : ℕ
    n = length ops

    abbrev moves : ℕ → Bool
    moves k = moves_directory (entry_op_at ops k)

    abbrev at_moves : ℕ → List ℕ
    at_moves k = fold (moved_at ops steps) homes (numbers_that_pass moves k)

    abbrev home : ℕ → Entry
    home = position_by entries homes

    abbrev pos : ℕ → ℕ → Entry
    pos k d = position has (entry_op_at ops) home k d

    step_member : (k d : ℕ) → has k ≡ true → pos (suc k) d ≡ placed_by (entry_op_at ops k) d (pos k d)
    step_member k d here = ap (λ b. cond b (placed_by (entry_op_at ops k) d (pos k d)) (pos k d)) here

    step_other : (k d : ℕ) → has k ≡ false → pos (suc k) d ≡ pos k d
    step_other k d gone = ap (λ b. cond b (placed_by (entry_op_at ops k) d (pos k d)) (pos k d)) gone

    step_still : (k d : ℕ) → moves k ≡ false → pos (suc k) d ≡ pos k d
    step_still k d still = ⊎_elim
        (λ (here : has k ≡ true). step_member k d here ∙ stays (entry_op_at ops k) d (pos k d) still)
        (λ (gone : has k ≡ false). step_other k d gone)
        (cases_Bool (has k))

    -- the list after one move more
    at_next : (k d : ℕ) → k < n → moves k ≡ true
        → position_by entries (at_moves (suc k)) d ≡ placed_by (entry_op_at ops k) d (position_by entries (at_moves k) d)
    at_next k d lt first =
        let list : numbers_that_pass moves (suc k) ≡ numbers_that_pass moves k ++ k ∷ [] =
        ap (λ b. numbers_that_pass moves k ++ cond b (k ∷ []) []) first in
        ap (λ ks. position_by entries (fold (moved_at ops steps) homes ks) d) list
        ∙ ap (λ ps. position_by entries ps d) (fold_push (moved_at ops steps) homes (numbers_that_pass moves k) k)
        ∙ moved_position entries (at_moves k) (op_at ops k) (step_at steps k) (is k)
        (subst (λ l. IfSome (moved_directory (op_at ops k)) (λ c. c < l)) (sym (long_all homes (numbers_that_pass moves k))) (known k lt)) d

    module _ (first : (k : ℕ) → k < n → moves k ≡ true → has k ≡ true → passing moves k < t)
        (later : (k : ℕ) → k < n → moves k ≡ true → has k ≡ false → t ≤ passing moves k) where
      -- up to the t-th move as the list is there
      before : (k : ℕ) → k ≤ n → passing moves k ≤ t → (d : ℕ) → pos k d ≡ position_by entries (at_moves k) d
      before zero le few d = refl
      before (suc k) le few d =
          (let next = passing_suc moves k in ⊎_elim
          (λ (m : moves k ≡ true).
          (let one : weight (moves k) ≡ 1 = ap weight m in
          let here : has k ≡ true = ⊎_elim
          (λ (h : has k ≡ true). h)
          (λ (h : has k ≡ false). absurd (let high = later k (omega (arith, le)) m h in omega (arith, few, next, one, high)))
          (cases_Bool (has k)) in
          step_member k d here
          ∙ ap (placed_by (entry_op_at ops k) d) (before k (omega (arith, le)) (omega (arith, few, next)) d)
          ∙ sym (at_next k d (omega (arith, le)) m)))
          (λ (s : moves k ≡ false).
          step_still k d s ∙ before k (omega (arith, le)) (omega (arith, few, next)) d
          ∙ sym (ap (λ ps. position_by entries ps d) (same_list k s)))
          (cases_Bool (moves k)))
        where
          same_list : (k : ℕ) → moves k ≡ false → at_moves (suc k) ≡ at_moves k
          same_list k s =
              ap (fold (moved_at ops steps) homes)
              (ap (λ b. numbers_that_pass moves k ++ cond b (k ∷ []) []) s ∙ append-nil (numbers_that_pass moves k))

      -- and from then on as after it
      after : (k : ℕ) → k ≤ n → t ≤ passing moves k → (d : ℕ) → pos k d ≡ position_by entries (positions_in ops steps homes t) d
      after zero le most d =
          (let z : 0 ≡ t = omega (arith, most) in
          ap (λ u. position_by entries (fold (moved_at ops steps) homes (take u (directory_moves ops))) d) z)
      after (suc k) le most d =
          (let next = passing_suc moves k in ⊎_elim
          (λ (few : passing moves (suc k) ≤ t).
          (let e : passing moves (suc k) ≡ t = omega (arith, few, most) in
          before (suc k) le few d
          ∙ sym (ap (λ ks. position_by entries (fold (moved_at ops steps) homes ks) d)
          (ap (λ u. take u (directory_moves ops)) (sym e) ∙ taken moves (suc k) n le))))
          (λ (more : t < passing moves (suc k)). ⊎_elim
          (λ (m : moves k ≡ true).
          (let one : weight (moves k) ≡ 1 = ap weight m in
          let gone : has k ≡ false = ⊎_elim
          (λ (h : has k ≡ true). absurd (let here = first k (omega (arith, le)) m h in omega (arith, here, next, one, more)))
          (λ (h : has k ≡ false). h)
          (cases_Bool (has k)) in
          step_other k d gone ∙ after k (omega (arith, le)) (omega (arith, next, one, more)) d))
          (λ (s : moves k ≡ false).
          (let none : weight (moves k) ≡ 0 = ap weight s in
          step_still k d s ∙ after k (omega (arith, le)) (omega (arith, next, none, more)) d))
          (cases_Bool (moves k)))
          (few_or_more (passing moves (suc k)) t))
        where
          few_or_more : (a b : ℕ) → (a ≤ b) ⊎ (b < a)
          few_or_more a b = ⊎_elim (λ (l : b < a). inr l) (λ (l : a ≤ b). inl l) (cases_lt b a)

      -- where the set has a directory in the end
      pub placed : t ≤ length (directory_moves ops) → (d : ℕ)
          → pos n d ≡ position_by entries (positions_in ops steps homes t) d
      placed le d = after n (omega arith) le d
