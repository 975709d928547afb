-- The orders of paths, one after each move more.
use Rattle.std.proofs.Common.{◌≡◌, ◌+◌, ◌<◌, ◌++◌, ℕ, zero, suc, List, [], ◌∷◌, Some, sym, ap, ◌∙◌, subst, length, slice_get}
use Rattle.std.proofs.Common.{slice_index_or}
use Rattle.std.proofs.lemmas.List.Sums.{fold_more}
use Rattle.cs_entries.specs.declared.entry.Entry.{Entry}
use Rattle.cs_entries.specs.Rules.{moves_directory}
use Rattle.cs_micro.specs.declared.micro_op.MicroOp.{MicroOp}
use Rattle.cs_apm.specs.Rules.{entry_op_at}
use Rattle.cs_apm.specs.declared.tables.Tables.{Tables}
use Rattle.cs_paths.specs.declared.path_order.PathOrder.{PathOrder}
use Rattle.cs_paths.specs.PathOrders.{IsPathOrder, directory_moves, homes_of, moved_at, positions_of}
use Rattle.cs_paths.proofs.Listing.{ids_are}

-- one more in a list of which each has what its place says
pub pushed : {X : Type 0} (P : ℕ → X → Type 0) (xs : List X) (x : X) → ((t : ℕ) (o : X) → slice_get xs t ≡ Some o → P t o)
    → P (length xs) x → (t : ℕ) (o : X) → slice_get (xs ++ x ∷ []) t ≡ Some o → P t o
pushed P [] x all here zero o is = (let same : x ≡ o = cc in subst (P 0) same here)
pushed P [] x all here (suc t) o is = absurd (cc)
pushed P (y ∷ ys) x all here zero o is = all 0 o is
pushed P (y ∷ ys) x all here (suc t) o is = pushed (λ k. P (suc k)) ys x (λ k. all (suc k)) here t o is

pub order_here : (es entries : List Entry) (directories : ℕ) (ps qs : List ℕ) (o : PathOrder) → es ≡ entries → ps ≡ qs
    → length qs ≡ directories → IsPathOrder es (length ps) ps o → IsPathOrder entries directories qs o
order_here es entries directories ps qs o is same long order =
    subst (λ l. IsPathOrder entries l qs o) long
    (subst (λ p. IsPathOrder entries (length p) p o) same (subst (λ e. IsPathOrder e (length ps) ps o) is order))

module _ (ops : List MicroOp) (moves : List ℕ) (is : moves ≡ directory_moves ops) (i : ℕ) (lt : i < length moves) where
  inside : i < length (directory_moves ops)
  inside = subst (λ ms. i < length ms) is lt

  -- a move is one of the micro-operations
  pub move_low : slice_index_or moves i 0 < length ops
  move_low =
      subst (λ ms. slice_index_or ms i 0 < length ops) (sym is)
      (ids_are (λ k. moves_directory (entry_op_at ops k)) (length ops) i inside).0

  -- where directories are after it
  pub positions_more : (tables : Tables)
      → moved_at ops tables.steps.items (positions_of ops tables i) (slice_index_or moves i 0) ≡ positions_of ops tables (i + 1)
  positions_more tables =
      ap (λ ms. moved_at ops tables.steps.items (positions_of ops tables i) (slice_index_or ms i 0)) is
      ∙ sym (fold_more (moved_at ops tables.steps.items) (homes_of tables) (directory_moves ops) i 0 inside)
