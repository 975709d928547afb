-- The next entry of a directory, if names at which there is nothing are skipped.
use Rattle.std.proofs.Common.{◌≡◌, ◌≢◌, ℕ, ◌<◌, ◌≤◌, true, false, Option, None, Some, IsSome, refl, sym, ap, ◌∙◌, arith, ⊎_elim, ◌⊎◌, inl, inr}
use Rattle.std.proofs.Common.{length, List}
use Rattle.std.proofs.lemmas.Bool.{cases_Bool, cases_eq, cases_lt, false≢true}
use Rattle.std.proofs.lemmas.Cmp.{nat_cmp_total}
use Rattle.std.specs.Cmp.{tied_itself}
use Rattle.std.specs.Cmp.Lexicographic.{slice_cmp}
use Rattle.std.specs.Option.{is_some, option_and_then}
use Rattle.std.specs.Ordering.{is_lt, nat_cmp, ordering_then}
use Rattle.std.specs.declared.cmp.Ordering.TheVariants.{Less, Equal}
use Rattle.cs_tree_model.specs.Effects.{comes_after}
use Rattle.cs_tree_model.specs.Laws.Nexts.{comes_sooner, is_less}
use Rattle.cs_tree_model.specs.Nexts.{comes_before, IsEntryBelow}
use Rattle.cs_tree_model.specs.Tree.{NameBytes, name_cmp}
use Rattle.cs_entries.specs.DirEntries.{root_home}
use Rattle.cs_entries.specs.Paths.{entry_in}
use Rattle.cs_entries.specs.Tables.{entry_cmp}
use Rattle.cs_entries.specs.Laws.Records.{entry_exact, entry_total}
use Rattle.cs_entries.specs.declared.entry.Entry.{Entry}
use Rattle.cs_apm.specs.Laws.Ascents.{ascends}
use Rattle.cs_apm.specs.Slots.{AreAscending, IsPlace, entry_at}
use Rattle.cs_state.specs.Named.{place_of_entry, AreAfterName, IsAfterLast, IsBeforeBound}
use Rattle.cs_state.proofs.Naming.{place_found, place_is_found}

-- ---- names in order

-- of entries of one directory, the names ascend
pub names_rise : (e f : Entry) → entry_cmp e f ≡ Less → e.directory ≡ f.directory → name_cmp e.name f.name ≡ Less
names_rise e f less same =
    let tied : nat_cmp e.directory f.directory ≡ Equal = ap (nat_cmp e.directory) (sym same) ∙ tied_itself nat_cmp_total e.directory in
    sym (ap (λ o. ordering_then o (slice_cmp nat_cmp e.name f.name)) tied) ∙ less

pub after_is : (last : Option NameBytes) (y : NameBytes) → IsAfterLast last y → comes_after last y ≡ true
after_is None y h = refl
after_is (Some l) y h = ap is_lt h

pub after_of : (last : Option NameBytes) (y : NameBytes) → comes_after last y ≡ true → IsAfterLast last y
after_of None y h = tt
after_of (Some l) y h = is_less (name_cmp l y) h

pub before_is : (bound : Option NameBytes) (y : NameBytes) → IsBeforeBound bound y → comes_before bound y ≡ true
before_is None y h = refl
before_is (Some b) y h = ap is_lt h

pub before_of : (bound : Option NameBytes) (y : NameBytes) → comes_before bound y ≡ true → IsBeforeBound bound y
before_of None y h = tt
before_of (Some b) y h = is_less (name_cmp y b) h

-- ---- the places of a directory's entries after a name, in order

module _ (es : List Entry) (up : AreAscending es) (number : ℕ → Option ℕ) (d : ℕ) (last bound : Option NameBytes)
    (first end : ℕ) (range : AreAfterName es d last first end) (within : end ≤ length es) where
  -- the number of what is under the name
  abbrev pub shown : NameBytes → Option ℕ
  shown y = option_and_then number (place_of_entry es (entry_in d y))

  abbrev name : ℕ → NameBytes
  name k = (entry_at es k).name

  record IsInRange (y : NameBytes) : Type 0 where
    place : ℕ
    from : first ≤ place
    below : place < end
    at : IsPlace es place (entry_in d y)
    there : IsSome (number place)

  in_range : (y : NameBytes) → IsSome (shown y) → comes_after last y ≡ true → IsInRange y
  in_range y has after = by (place_of_entry es (entry_in d y)) refl has
    where
      by : (o : Option ℕ) → place_of_entry es (entry_in d y) ≡ o → IsSome (option_and_then number o) → IsInRange y
      by None none some = absurd (false≢true some)
      by (Some k) at some =
          (let w = range.every (entry_in d y) k at refl (after_of last y after) in
          record { place = k; from = w.0; below = w.1; at = place_found es (entry_in d y) k at; there = some })

  rise : (i j : ℕ) → first ≤ i → i < j → j < end → name_cmp (name i) (name j) ≡ Less
  rise i j from lt below =
      names_rise (entry_at es i) (entry_at es j) (ascends entry_total entry_exact es root_home up i j lt (omega (arith, below, within)))
      ((range.inside i from (omega (arith, lt, below))).0 ∙ sym (range.inside j (omega (arith, from, lt)) below).0)

  -- at none of the places up to this one there is anything
  module _ (place : ℕ) (gone : (k : ℕ) → first ≤ k → k < place → number k ≡ None) where
    not_before : (y : NameBytes) (w : IsInRange y) → place ≤ w.place
    not_before y w = ⊎_elim
        (λ (lt : w.place < place). absurd (false≢true (sym (ap is_some (gone w.place w.from lt)) ∙ w.there)))
        (λ (ge : place ≤ w.place). ge)
        (cases_lt w.place place)

    named : (y : NameBytes) (w : IsInRange y) → name w.place ≡ y
    named y w = ap (λ (e : Entry). e.name) w.at.1

    -- no entry is left
    pub none_left : end ≤ place → IsEntryBelow (λ y. IsSome (shown y)) last bound None
    none_left past y has = ⊎_elim
        (λ (after : comes_after last y ≡ true).
        (let w = in_range y has.0 after in let ge = not_before y w in let lt = w.below in absurd (omega (arith, ge, lt, past))))
        (λ (not : comes_after last y ≡ false). not)
        (cases_Bool (comes_after last y))

    module _ (from : first ≤ place) (below : place < end) where
      -- the name at the place, or one after it
      later : (y : NameBytes) (w : IsInRange y) → (y ≡ name place) ⊎ (name_cmp (name place) y ≡ Less)
      later y w = ⊎_elim
          (λ (same : w.place ≡ place). inl (sym (named y w) ∙ ap name same))
          (λ (other : w.place ≢ place).
          (let ge = not_before y w in
          inr (ap (name_cmp (name place)) (sym (named y w)) ∙ rise place w.place from (omega (arith, ge, other)) w.below)))
          (cases_eq w.place place)

      -- the name at the place isn't before the bound, so none is
      pub past_bound : (IsBeforeBound bound (name place) → ⊥) → IsEntryBelow (λ y. IsSome (shown y)) last bound None
      past_bound not y has = ⊎_elim
          (λ (after : comes_after last y ≡ true). absurd
          (let w = in_range y has.0 after in not (before_of bound (name place) (⊎_elim
          (λ (same : y ≡ name place). ap (comes_before bound) (sym same) ∙ has.1)
          (λ (less : name_cmp (name place) y ≡ Less). comes_sooner bound (name place) y less has.1)
          (later y w)))))
          (λ (never : comes_after last y ≡ false). never)
          (cases_Bool (comes_after last y))

      module _ (n : ℕ) (is : number place ≡ Some n) where
        place_is : IsPlace es place (entry_in d (name place))
        place_is =
            (let w = range.inside place from below in
            (omega (arith, below, within), λ i. record { directory = w.0 i; name = name place }))

        pub shown_here : shown (name place) ≡ Some n
        shown_here = ap (option_and_then number) (place_is_found es up (entry_in d (name place)) place place_is) ∙ is

        -- the name at the place is the next
        pub found_next : IsBeforeBound bound (name place) → IsEntryBelow (λ y. IsSome (shown y)) last bound (Some (name place))
        found_next before = record {
          there = (ap is_some shown_here, before_is bound (name place) before);
          after = after_is last (name place) (range.inside place from below).1;
          least = λ y has after. later y (in_range y has.0 after);
        }
