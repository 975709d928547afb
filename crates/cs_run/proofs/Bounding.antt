-- The greatest version bounds all.
use Rattle.std.proofs.Common.{◌≡◌, ◌∙◌, Bool, false, Option, None, refl, ap, ◌^◌, ◌||◌, ℕ, ◌+◌, ◌≤◌, ◌<◌, ◌⊎◌, inl, inr, Some, arith, subst}
use Rattle.std.proofs.Common.{sym, ⊎_elim}
use Rattle.std.proofs.Math.Nat.{eq-or-lt_of_le}
use Rattle.std.proofs.lemmas.Bool.Decides.{nat_tests}
use Rattle.std.proofs.lemmas.Bool.{false≢true}
use Rattle.std.specs.FinMap.{entries}
use Rattle.std.specs.List.{find}
use Rattle.std.specs.Option.{is_some, option_map}
use Rattle.std.specs.Prelude.{◌==◌, IfSome, nat_le}
use Rattle.cs_run.specs.Laws.{AllVersBelow}
use Rattle.cs_tree_model.specs.Laws.Round.{found_in, numbered_in}
use Rattle.cs_tree_model.specs.declared.record.Record.{Record}
use Rattle.cs_tree_model.specs.Record.{metadata_of}
use Rattle.cs_tree_model.specs.Tree.{IsTree, Path, Tree, path_numbered, record_numbered}

-- the version of the file of a number, if it is there, is at most so great
abbrev pub IsVersWithin : Tree → ℕ → ℕ → Type 0
IsVersWithin t most n = IfSome (record_numbered t n) (λ r. r.vers ≤ most)

less_or_same : (n m : ℕ) → n < m + 1 → (n < m) ⊎ (n ≡ m)
less_or_same n m less = ⊎_elim (λ (same : n ≡ m). inr same) (λ (lower : n < m). inl lower) (eq-or-lt_of_le (omega (arith, less)))

pub all_within : (t : Tree) (most last : ℕ) → IsTree t → t.next ≡ last + 1 → ((n : ℕ) → n < last → IsVersWithin t most n)
    → IsVersWithin t most last → AllVersBelow (most + 1) t
all_within t most last is next before at p r there =
    let found : record_numbered t r.number ≡ Some r = (numbered_in t is p r there).1 in
    let below : r.number < last + 1 = subst (λ n. r.number < n) next (is.below p r there) in
    let own : IsVersWithin t most r.number → r.vers < most + 1 =
    λ within. (let v : r.vers ≤ most = subst (λ o. IfSome o (λ r. r.vers ≤ most)) found within in omega (arith, v)) in
    ⊎_elim (λ (less : r.number < last). own (before r.number less))
    (λ (same : r.number ≡ last). own (subst (IsVersWithin t most) (sym same) at)) (less_or_same r.number last below)

-- the version of a file that is there is below what all are
file_found : (t : Tree) (n : ℕ) (r : Record) (o : Option (Path × Record)) → find (λ e. e.1.number == n) (entries t.files) ≡ o
    → record_numbered t n ≡ Some r → (p : Path) × (path_numbered t n ≡ Some p)
file_found t n r None none is = absurd (false≢true (ap is_some (ap (option_map (λ e. e.1)) (sym none) ∙ is)))
file_found t n r (Some e) found is = (e.0, ap (option_map (λ e. e.0)) found)

pub vers_below : (t : Tree) → IsTree t → (n : ℕ) (r : Record) → record_numbered t n ≡ Some r → (k : ℕ) → AllVersBelow k t → r.vers < k
vers_below t tree n r is k below =
    let p = file_found t n r (find (λ e. e.1.number == n) (entries t.files)) refl is in
    let f = found_in t tree n p.0 p.1 in
    let same : Some f.0 ≡ Some r = sym (numbered_in t tree p.0 f.0 f.1).1 ∙ ap (record_numbered t) f.2 ∙ is in
    subst (λ o. IfSome o (λ r. r.vers < k)) same (below p.0 f.0 f.1)

-- the same of what a store lends of it
pub lent_below : (t : Tree) → IsTree t → (n k v : ℕ) (o : Option Record) → record_numbered t n ≡ o
    → Some v ≡ option_map (λ m. m.vers) (option_map metadata_of o) → AllVersBelow k t → v < k
lent_below t tree n k v None is lent below = absurd (false≢true (ap is_some (sym lent)))
lent_below t tree n k v (Some r) is lent below = subst (λ o. IfSome o (λ v. v < k)) (sym lent) (vers_below t tree n r is k below)

-- a count that isn't the greatest can grow by one
pub room_left : (count : ℕ) (other : Bool) → (nat_le 0xFFFFFFFF count || other) ≡ false → count + 1 < 2 ^ 32
room_left count other room = grind (arith, nat_tests)
