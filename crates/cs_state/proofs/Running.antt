-- The entries of a directory among all entries: a run of them, in the order of their names.
use Rattle.std.proofs.Common.{◌≡◌, ◌≢◌, ℕ, ◌+◌, ◌-◌, ◌<◌, ◌≤◌, true, false, Option, None, Some, refl, sym, ap, ◌∙◌, arith, ⊎_elim, length}
use Rattle.std.proofs.Common.{List, get_or, take, drop, length-drop}
use Rattle.std.proofs.lemmas.Bool.{cases_eq, cases_lt, false≢true}
use Rattle.std.proofs.lemmas.List.{get_or_default, get_or-drop, get_or-take, length-take-le}
use Rattle.std.specs.List.Sorted.{IsPartitionedBy, IsPartitionPoint}
use Rattle.std.specs.Ordering.{is_le, is_lt, ordering_reverse}
use Rattle.std.specs.List.{AllWithin}
use Rattle.std.specs.Prelude.{slice_range}
use Rattle.std.specs.declared.cmp.Ordering.{Ordering}
use Rattle.std.specs.declared.cmp.Ordering.TheVariants.{Less, Equal, Greater}
use Rattle.cs_tree_model.specs.Laws.Nexts.{exact, is_less, not_itself, total}
use Rattle.cs_tree_model.specs.Tree.{NameBytes, name_cmp}
use Rattle.cs_entries.specs.DirEntries.{root_home}
use Rattle.cs_entries.specs.Paths.{entry_in}
use Rattle.cs_entries.specs.Laws.Records.{entry_exact, entry_total}
use Rattle.cs_entries.specs.declared.entry.Entry.{Entry}
use Rattle.cs_apm.specs.Laws.Ascents.{ascends}
use Rattle.cs_apm.specs.Slots.{AreAscending, IsPlace, entry_at}
use Rattle.cs_state.specs.Named.{place_of_entry, AreAfterName}
use Rattle.cs_state.proofs.Naming.{place_found, place_is_found}
use Rattle.cs_state.proofs.Passing.{names_rise}

-- a name that comes before one that is not after x, is not after it
le_before : (a b x : NameBytes) → name_cmp a b ≡ Less → is_le (name_cmp b x) ≡ true → is_le (name_cmp a x) ≡ true
le_before a b x less le = by (name_cmp b x) refl le
  where
    by : (o : Ordering) → name_cmp b x ≡ o → is_le o ≡ true → is_le (name_cmp a x) ≡ true
    by Less e h = ap is_le (total.trans a b x less e)
    by Equal e h = ap is_le (ap (name_cmp a) (sym (exact b x e)) ∙ less)
    by Greater e h = absurd (false≢true h)

-- a name that is not at or before x comes after it
after_false : (a x : NameBytes) → is_le (name_cmp a x) ≡ false → name_cmp x a ≡ Less
after_false a x h = by (name_cmp a x) refl h
  where
    by : (o : Ordering) → name_cmp a x ≡ o → is_le o ≡ false → name_cmp x a ≡ Less
    by Less e h = absurd (false≢true (sym h))
    by Equal e h = absurd (false≢true (sym h))
    by Greater e h = total.antisymm x a ∙ ap ordering_reverse e

not_after : (a x : NameBytes) → is_le (name_cmp a x) ≡ true → name_cmp x a ≡ Less → ⊥
not_after a x h less = false≢true (sym (ap is_le (total.antisymm a x ∙ ap ordering_reverse less)) ∙ h)

not_less : (o : Ordering) → is_lt o ≡ false → o ≡ Less → ⊥
not_less o h is = false≢true (sym h ∙ ap is_lt is)

module _ (es : List Entry) (up : AreAscending es) (d first end : ℕ) (order : first ≤ end) (within : end ≤ length es)
    (before : AllWithin (λ (e : Entry). e.directory ≢ d) es 0 first)
    (of : AllWithin (λ (e : Entry). e.directory ≡ d) es first end)
    (behind : AllWithin (λ (e : Entry). e.directory ≢ d) es end (length es)) where
  -- an entry of the directory is in the run
  pub in_run : (k : ℕ) (e : Entry) → IsPlace es k e → e.directory ≡ d → (first ≤ k) × (k < end)
  in_run k e at is = ⊎_elim
      (λ (lt : k < first). absurd (before k root_home (omega arith) lt (ap (λ (f : Entry). f.directory) at.1 ∙ is)))
      (λ (ge : first ≤ k). ⊎_elim
      (λ (low : k < end). (ge, low))
      (λ (high : end ≤ k). absurd (behind k root_home high at.0 (ap (λ (f : Entry). f.directory) at.1 ∙ is)))
      (cases_lt k end))
      (cases_lt k first)

  pub directory_in_run : (k : ℕ) → first ≤ k → k < end → (entry_at es k).directory ≡ d
  directory_in_run k from below = of k root_home from below

  -- the names in the run ascend
  pub run_rises : (i j : ℕ) → first ≤ i → i < j → j < end → name_cmp (entry_at es i).name (entry_at es j).name ≡ Less
  run_rises i j from lt below =
      names_rise (entry_at es i) (entry_at es j) (ascends entry_total entry_exact es root_home up i j lt (omega (arith, below, within)))
      (directory_in_run i from (omega (arith, lt, below)) ∙ sym (directory_in_run j (omega (arith, from, lt)) below))

  abbrev pub run : List Entry
  run = slice_range es first end

  pub run_long : length run ≡ end - first
  run_long =
      length-take-le (end - first) (drop first es) (let l = length-drop first es in omega (arith, l, order, within))

  -- an element of the run by its place
  pub run_at : (k : ℕ) (d : Entry) → k < end - first → get_or run k d ≡ get_or es (first + k) d
  run_at k d low = get_or-take (end - first) (drop first es) k d low ∙ get_or-drop first es k d

  pub run_name : (k : ℕ) (d : Entry) → k < end - first → (get_or run k d).name ≡ (entry_at es (first + k)).name
  run_name k d low =
      ap (λ (e : Entry). e.name) (run_at k d low ∙ sym (get_or_default es (first + k) root_home d (omega (arith, low, within))))

  -- the place of an entry of the run
  pub run_place : (k : ℕ) → first ≤ k → k < end → IsPlace es k (entry_in d (entry_at es k).name)
  run_place k from below =
      (omega (arith, below, within), λ i. record { directory = directory_in_run k from below i; name = (entry_at es k).name })

  module _ (x : NameBytes) where
    pub parted_below : IsPartitionedBy (λ (e : Entry). is_lt (name_cmp e.name x)) run
    parted_below i j d le low h = ⊎_elim
        (λ (same : i ≡ j). ap (λ k. is_lt (name_cmp (get_or run k d).name x)) same ∙ h)
        (λ (other : i ≢ j).
        (let l = run_long in
        let below : j < end - first = omega (arith, low, l) in
        let less = run_rises (first + i) (first + j) (omega arith) (omega (arith, le, other)) (omega (arith, below)) in
        ap (λ n. is_lt (name_cmp n x)) (run_name i d (omega (arith, le, below)))
        ∙ ap is_lt (total.trans (entry_at es (first + i)).name (entry_at es (first + j)).name x less
        (is_less (name_cmp (entry_at es (first + j)).name x)
        (ap (λ n. is_lt (name_cmp n x)) (sym (run_name j d below)) ∙ h)))))
        (cases_eq i j)

    pub parted_up_to : IsPartitionedBy (λ (e : Entry). is_le (name_cmp e.name x)) run
    parted_up_to i j d le low h = ⊎_elim
        (λ (same : i ≡ j). ap (λ k. is_le (name_cmp (get_or run k d).name x)) same ∙ h)
        (λ (other : i ≢ j).
        (let l = run_long in
        let below : j < end - first = omega (arith, low, l) in
        let less = run_rises (first + i) (first + j) (omega arith) (omega (arith, le, other)) (omega (arith, below)) in
        ap (λ n. is_le (name_cmp n x)) (run_name i d (omega (arith, le, below)))
        ∙ le_before (entry_at es (first + i)).name (entry_at es (first + j)).name x less
        (ap (λ n. is_le (name_cmp n x)) (sym (run_name j d below)) ∙ h)))
        (cases_eq i j)

    -- the names before the place come before x, and those from it on don't
    module _ (k : ℕ) (bound : k ≤ length run)
        (point : IsPartitionPoint (λ (e : Entry). is_lt (name_cmp e.name x) ≡ true) (λ (e : Entry). is_lt (name_cmp e.name x) ≡ false) run
        k) where
      pub found_name : first + k < end → (entry_at es (first + k)).name ≡ x → place_of_entry es (entry_in d x) ≡ Some (first + k)
      found_name low is =
          ap (λ n. place_of_entry es (entry_in d n)) (sym is)
          ∙ place_is_found es up (entry_in d (entry_at es (first + k)).name) (first + k) (run_place (first + k) (omega arith) low)

      absent : (i : ℕ) → IsPlace es i (entry_in d x) → (first + k < end → (entry_at es (first + k)).name ≢ x) → ⊥
      absent i at other =
          let w = in_run i (entry_in d x) at refl in
          let from = w.0 in
          let below = w.1 in
          let l = run_long in
          let j = i - first in
          let place : first + j ≡ i = omega (arith, from) in
          let inside : j < end - first = omega (arith, from, below) in
          let named : (entry_at es (first + j)).name ≡ x = ap (λ p. (entry_at es p).name) place ∙ ap (λ (e : Entry). e.name) at.1 in
          ⊎_elim
          (λ (lt : j < k). not_itself x
          (ap (λ n. name_cmp n x) (sym named)
          ∙ is_less (name_cmp (entry_at es (first + j)).name x)
          (ap (λ n. is_lt (name_cmp n x)) (sym (run_name j root_home inside)) ∙ point.0 j root_home (omega arith) lt)))
          (λ (ge : k ≤ j). ⊎_elim
          (λ (same : k ≡ j). other (omega (arith, same, inside)) (ap (λ p. (entry_at es (first + p)).name) same ∙ named))
          (λ (less : k ≢ j).
          not_less (name_cmp (entry_at es (first + k)).name x)
          (ap (λ n. is_lt (name_cmp n x)) (sym (run_name k root_home (omega (arith, ge, inside))))
          ∙ point.1 k root_home (omega arith) (omega (arith, ge, inside, l)))
          (ap (name_cmp (entry_at es (first + k)).name) (sym named)
          ∙ run_rises (first + k) (first + j) (omega arith) (omega (arith, ge, less)) (omega (arith, inside))))
          (cases_eq k j))
          (cases_lt j k)

      pub no_name : (first + k < end → (entry_at es (first + k)).name ≢ x) → place_of_entry es (entry_in d x) ≡ None
      no_name other = by (place_of_entry es (entry_in d x)) refl
        where
          by : (o : Option ℕ) → place_of_entry es (entry_in d x) ≡ o → place_of_entry es (entry_in d x) ≡ None
          by None is = is
          by (Some i) is = absurd (absent i (place_found es (entry_in d x) i is) other)

    -- those before the place come at or before x, and those from it on after it
    module _ (k : ℕ) (bound : k ≤ length run)
        (point : IsPartitionPoint (λ (e : Entry). is_le (name_cmp e.name x) ≡ true) (λ (e : Entry). is_le (name_cmp e.name x) ≡ false) run
        k) where
      behind_name : (i : ℕ) → first + k ≤ i → i < end → name_cmp x (entry_at es i).name ≡ Less
      behind_name i from below =
          let l = run_long in
          let j = i - first in
          let place : first + j ≡ i = omega (arith, from) in
          let inside : j < end - first = omega (arith, from, below) in
          ap (λ p. name_cmp x (entry_at es p).name) (sym place)
          ∙ after_false (entry_at es (first + j)).name x
          (ap (λ n. is_le (name_cmp n x)) (sym (run_name j root_home inside))
          ∙ point.1 j root_home (omega (arith, from)) (omega (arith, inside, l)))

      from_name : (i : ℕ) (e : Entry) → IsPlace es i e → e.directory ≡ d → name_cmp x e.name ≡ Less → first + k ≤ i
      from_name i e at is less =
          let w = in_run i e at is in
          let from = w.0 in
          let below = w.1 in
          let l = run_long in
          let j = i - first in
          let place : first + j ≡ i = omega (arith, from) in
          let inside : j < end - first = omega (arith, from, below) in
          ⊎_elim
          (λ (lt : j < k). absurd (not_after (entry_at es (first + j)).name x
          (ap (λ n. is_le (name_cmp n x)) (sym (run_name j root_home inside)) ∙ point.0 j root_home (omega arith) lt)
          (ap (λ p. name_cmp x (entry_at es p).name) place ∙ ap (λ (f : Entry). name_cmp x f.name) at.1 ∙ less)))
          (λ (ge : k ≤ j). omega (arith, ge, from))
          (cases_lt j k)

      pub after_name : AreAfterName es d (Some x) (first + k) end
      after_name = record {
        inside = λ i from below. (directory_in_run i (omega (arith, from)) below, behind_name i from below);
        every = λ e i at is less. (let place = place_found es e i at in (from_name i e place is less, (in_run i e place is).1));
      }

  -- all names
  pub all_names : AreAfterName es d None first end
  all_names = record {
    inside = λ i from below. (directory_in_run i from below, tt);
    every = λ e i at is after. in_run i e (place_found es e i at) is;
  }
