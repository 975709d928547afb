-- The state of every allowed set is a tree: as a table of entries, and as a map of paths.
use Rattle.std.proofs.Common.{◌≡◌, ℕ, zero, suc, ◌+◌, ◌<◌, ◌≤◌, Bool, true, false, cond, List}
use Rattle.std.proofs.Common.{◌⊎◌, refl, sym, ap, ◌∙◌, subst, arith, ⊎_elim}
use Rattle.std.proofs.lemmas.Bool.{cases_Bool}
use Rattle.std.specs.FinMap.{get}
use Rattle.cs_entries.specs.Entries.{Entries, Entry, EntryOp, after}
use Rattle.cs_entries.specs.Legal.{IsHeld, IsTree, IsLegal}
use Rattle.cs_entries.specs.Paths.{at_path}
use Rattle.cs_entries.specs.Rules.{needs, IsClosed}
use Rattle.cs_entries.specs.Sets.{HasNeeds, AreNumbered, AreFixed}
use Rattle.cs_entries.specs.Tables.{Table, held_in, table_after, paths_in}
use Rattle.cs_entries.specs.Laws.Allowed.{allowed_has}
use Rattle.cs_entries.specs.Laws.Depths.{AreBelow}
use Rattle.cs_entries.specs.Laws.Left.{left, whole, legal_left, tree_left, origin, Made, member_step, other_step}
use Rattle.cs_entries.specs.Laws.Records.{paths_lead, paths_nested, table_step}
use Rattle.cs_entries.specs.Tables.{AreNested, table_of}
use Rattle.cs_entries.specs.Sets.{AreFew}

-- entries that hold the same are a tree if the others are
same_tree : (m n : Entries) → ((e : Entry) → m e ≡ n e) → IsTree n → IsTree m
same_tree m n same tree = subst IsTree (sym (λ i e. same e i)) tree

module _ (t : Table) (ops : ℕ → EntryOp) (n few : ℕ) (has : ℕ → Bool) (tree : IsTree (held_in t))
    (legal : (k : ℕ) → k < n → IsLegal (whole (held_in t) ops k) (ops k))
    (numbered : AreNumbered (held_in t) ops n ⊎ AreFixed (held_in t) ops n)
    (small : AreFew (held_in t) ops n few)
    (inside : (j : ℕ) → has j ≡ true → j < n)
    (closed : IsClosed (needs ops) has) where
  abbrev F : ℕ → Entries
  F k = left (held_in t) ops has k

  has_needs : HasNeeds ops has
  has_needs = allowed_has (held_in t) ops n has closed inside numbered

  -- the fold over plain maps holds what the set leaves
  pub table_held : (k : ℕ) → k ≤ n → (e : Entry) → get (table_of has t ops k) e ≡ F k e
  table_held zero le e = refl
  table_held (suc k) le e = ⊎_elim
      (λ (member : has k ≡ true).
      (let below : k ≤ n = omega (arith, le) in
      let same : held_in (table_of has t ops k) ≡ F k = λ i q. table_held k below q i in
      let here = tree_left (held_in t) ops n has has_needs tree legal numbered k below in
      let l = legal_left (held_in t) ops n has has_needs tree legal numbered k (omega (arith, le)) member here in
      ap (λ b. get (cond b (table_after (table_of has t ops k) (ops k)) (table_of has t ops k)) e) member
      ∙ table_step (table_of has t ops k) (ops k) (subst (λ m. IsLegal m (ops k)) (sym same) l) e
      ∙ ap (λ m. after m (ops k) e) same
      ∙ sym (member_step (held_in t) ops has k e member)))
      (λ (other : has k ≡ false).
      ap (λ b. get (cond b (table_after (table_of has t ops k) (ops k)) (table_of has t ops k)) e) other
      ∙ table_held k (omega (arith, le)) e
      ∙ sym (other_step (held_in t) ops has k e other))
      (cases_Bool (has k))

  pub state_is_tree : IsTree (held_in (table_of has t ops n))
  state_is_tree =
      same_tree (held_in (table_of has t ops n)) (F n) (table_held n (omega arith))
      (tree_left (held_in t) ops n has has_needs tree legal numbered n (omega arith))

  state_below : AreBelow few (held_in (table_of has t ops n))
  state_below e d h = ⊎_elim
      (λ (s : IsHeld (held_in t) d). small.first s.0 d s.1)
      (λ (m : Made (held_in t) ops has n d). small.made m.0 m.1 d m.2 m.4)
      (origin (held_in t) ops has n e d (sym (table_held n (omega arith) e) ∙ h))

  -- what is at each path is what its names lead to, and the paths are nested
  pub state_leads : (q : List (List ℕ))
      → get (paths_in (few + 1) (table_of has t ops n)) q
      ≡ at_path (held_in (table_of has t ops n)) q
  state_leads q = paths_lead (table_of has t ops n) state_is_tree few state_below q

  pub state_nested : AreNested (paths_in (few + 1) (table_of has t ops n))
  state_nested = paths_nested (table_of has t ops n) state_is_tree few state_below
