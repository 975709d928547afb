-- The next entry of a directory over a lower one.
use Rattle.std.proofs.Common.{◌≡◌, ◌<◌, ◌≤◌, Bool, true, false, ◌⊎◌, inl, inr, ℕ, List, [], ◌∷◌, length, arith, Option, None, Some, IsSome}
use Rattle.std.proofs.Common.{IfSome, sym, ap, ◌∙◌, ⊎_elim}
use Rattle.std.proofs.lemmas.Bool.{false≢true, cases_Bool}
use Rattle.std.specs.Option.{is_some, option_map, option_map_or}
use Rattle.std.specs.Cmp.{tied_itself}
use Rattle.std.specs.FinMap.{find}
use Rattle.std.specs.List.{filter}
use Rattle.std.specs.Ordering.{is_eq, is_lt, ordering_reverse}
use Rattle.std.specs.declared.cmp.Ordering.TheVariants.{Less}
use Rattle.cs_tree_model.specs.Effects.{comes_after}
use Rattle.cs_tree_model.specs.Laws.Nexts.{total, is_less, name_order, not_itself, not_both, comes_later, comes_sooner}
use Rattle.cs_tree_model.specs.Laws.Paths.{option_cases}
use Rattle.cs_tree_model.specs.Nexts.{entry_name, comes_before, IsNext, IsEntryBelow}
use Rattle.cs_tree_model.specs.declared.entries.ListedEntry.{ListedEntry}
use Rattle.cs_tree_model.specs.Tree.{NameBytes, name_cmp}

-- the directory's own answer for a name, or else the lower directory's
abbrev pub shown : (NameBytes → Option (Option ℕ)) → (NameBytes → Option ℕ) → NameBytes → Option ℕ
shown own low y = option_map_or (λ o. o) (own y) (low y)

-- comes after the last one, and before the bound
abbrev pub Between : Option NameBytes → Option NameBytes → NameBytes → Type 0
Between last bound y = (comes_after last y ≡ true) × (comes_before bound y ≡ true)

module _ (own : NameBytes → Option (Option ℕ)) (low : NameBytes → Option ℕ) (last bound : Option NameBytes) where
  is_low : (y : NameBytes) → own y ≡ None → shown own low y ≡ low y
  is_low y e = ap (λ w. option_map_or (λ o. o) w (low y)) e

  is_own : (y : NameBytes) (o : Option ℕ) → own y ≡ Some o → shown own low y ≡ o
  is_own y o e = ap (λ w. option_map_or (λ v. v) w (low y)) e

  -- if it has no more names of its own, the next one is the lower directory's
  module _ (none : IsEntryBelow (λ y. IsSome (own y)) last bound None) where
    not_own : (y : NameBytes) → Between last bound y → own y ≡ None
    not_own y b = ⊎_elim
        (λ (e : own y ≡ None). e)
        (λ (some : (o : Option ℕ) × (own y ≡ Some o)). absurd (false≢true (sym (none y (ap is_some some.1, b.1)) ∙ b.0)))
        (option_cases (own y))

    pub rest_low : (o : Option NameBytes) → IsEntryBelow (λ y. IsSome (low y)) last bound o
        → IsEntryBelow (λ y. IsSome (shown own low y)) last bound o
    rest_low None a = λ y h. ⊎_elim
        (λ (t : comes_after last y ≡ true). a y (ap is_some (sym (is_low y (not_own y (t, h.1)))) ∙ h.0, h.1))
        (λ (t : comes_after last y ≡ false). t)
        (cases_Bool (comes_after last y))
    rest_low (Some x) a = record {
      there = (ap is_some (is_low x (not_own x (a.after, a.there.1))) ∙ a.there.0, a.there.1);
      after = a.after;
      least = λ y h t. a.least y (ap is_some (sym (is_low y (not_own y (t, h.1)))) ∙ h.0, h.1) t;
    }

    pub rest_number : (x : NameBytes) (n : ℕ) → Between last bound x → low x ≡ Some n → shown own low x ≡ Some n
    rest_number x n b e = is_low x (not_own x b) ∙ e

    pub rest_numbers : (o : Option ListedEntry) → IsEntryBelow (λ y. IsSome (low y)) last bound (option_map entry_name o)
        → IfSome o (λ e. low (entry_name e) ≡ Some e.number) → IfSome o (λ e. shown own low (entry_name e) ≡ Some e.number)
    rest_numbers None a h = h
    rest_numbers (Some e) a h = rest_number (entry_name e) e.number (a.after, a.there.1) h

  -- x is the next of its own names
  module _ (x : NameBytes) (next : IsNext (λ y. IsSome (own y) × (comes_before bound y ≡ true)) last x) where
    -- a name before x is the lower's
    before_own : (y : NameBytes) → comes_after last y ≡ true → name_cmp y x ≡ Less → own y ≡ None
    before_own y t lt = ⊎_elim
        (λ (e : own y ≡ None). e)
        (λ (some : (o : Option ℕ) × (own y ≡ Some o)). absurd (⊎_elim
        (λ (e : y ≡ x). not_itself x (ap (λ v. name_cmp v x) (sym e) ∙ lt))
        (λ (gt : name_cmp x y ≡ Less). not_both x y gt lt)
        (next.least y (ap is_some some.1, comes_sooner bound y x lt next.there.1) t)))
        (option_cases (own y))

    -- the lower's next one, if it comes before x
    pub low_first : (y : NameBytes) → IsNext (λ z. IsSome (low z) × (comes_before (Some x) z ≡ true)) last y
        → IsNext (λ z. IsSome (shown own low z) × (comes_before bound z ≡ true)) last y
    low_first y a =
        let lt = is_less _ a.there.1 in
        record {
          there = (ap is_some (is_low y (before_own y a.after lt)) ∙ a.there.0, comes_sooner bound y x lt next.there.1);
          after = a.after;
          least = λ z h t. ⊎_elim
              (λ (e : z ≡ x). inr (ap (name_cmp y) e ∙ lt))
              (λ (o : (name_cmp z x ≡ Less) ⊎ (name_cmp x z ≡ Less)). ⊎_elim
              (λ (less : name_cmp z x ≡ Less). a.least z (ap is_some (sym (is_low z (before_own z t less))) ∙ h.0, ap is_lt less) t)
              (λ (more : name_cmp x z ≡ Less). inr (total.trans y x z lt more))
              o)
              (name_order z x);
        }

    pub low_number : (y : NameBytes) (n : ℕ) → IsNext (λ z. IsSome (low z) × (comes_before (Some x) z ≡ true)) last y → low y ≡ Some n
        → shown own low y ≡ Some n
    low_number y n a e = is_low y (before_own y a.after (is_less _ a.there.1)) ∙ e

    module _ (none : IsEntryBelow (λ z. IsSome (low z)) last (Some x) None) where
      -- what is shown doesn't come before x
      not_before : (y : NameBytes) → IsSome (shown own low y) → comes_after last y ≡ true → name_cmp y x ≡ Less → ⊥
      not_before y h t lt = false≢true (sym (none y (ap is_some (sym (is_low y (before_own y t lt))) ∙ h, ap is_lt lt)) ∙ t)

      from_own : (y : NameBytes) → IsSome (shown own low y) → comes_after last y ≡ true → (y ≡ x) ⊎ (name_cmp x y ≡ Less)
      from_own y h t = ⊎_elim
          (λ (e : y ≡ x). inl e)
          (λ (o : (name_cmp y x ≡ Less) ⊎ (name_cmp x y ≡ Less)). ⊎_elim
          (λ (less : name_cmp y x ≡ Less). absurd (not_before y h t less))
          (λ (more : name_cmp x y ≡ Less). inr more)
          o)
          (name_order y x)

      -- then x, if a file has it
      pub own_first : (n : ℕ) → own x ≡ Some (Some n) → IsNext (λ z. IsSome (shown own low z) × (comes_before bound z ≡ true)) last x
      own_first n e = record {
        there = (ap is_some (is_own x (Some n) e), next.there.1);
        after = next.after;
        least = λ z h t. from_own z h.0 t;
      }

      -- and else what comes after x
      module _ (gone : own x ≡ Some None) where
        behind : (y : NameBytes) → IsSome (shown own low y) → comes_after last y ≡ true → comes_after (Some x) y ≡ true
        behind y h t = ⊎_elim
            (λ (e : y ≡ x). absurd (false≢true (sym (ap is_some (is_own x None gone)) ∙ ap (λ v. is_some (shown own low v)) (sym e) ∙ h)))
            (λ (more : name_cmp x y ≡ Less). ap is_lt more)
            (from_own y h t)

        pub passed : (o : Option NameBytes) → IsEntryBelow (λ y. IsSome (shown own low y)) (Some x) bound o
            → IsEntryBelow (λ y. IsSome (shown own low y)) last bound o
        passed None a = λ y h. ⊎_elim
            (λ (t : comes_after last y ≡ true). absurd (false≢true (sym (a y h) ∙ behind y h.0 t)))
            (λ (t : comes_after last y ≡ false). t)
            (cases_Bool (comes_after last y))
        passed (Some z) a = record {
          there = a.there;
          after = comes_later last x z next.after (is_less _ a.after);
          least = λ y h t. a.least y h (behind y h.0 t);
        }

-- ---- each step passes a name

abbrev pub Said : Type 0
Said = NameBytes × Option ℕ

abbrev pub is_after : Option NameBytes → Said → Bool
is_after last e = comes_after last e.0

-- how many of its own names are left
abbrev pub left_after : Option NameBytes → List Said → ℕ
left_after last es = length (filter (is_after last) es)

module _ (last : Option NameBytes) (x : NameBytes) (after : comes_after last x ≡ true) where
  fewer : (es : List Said) → left_after (Some x) es ≤ left_after last es
  fewer [] = omega arith
  fewer (e ∷ es) = let more = fewer es in ⊎_elim
      (λ (t : comes_after (Some x) e.0 ≡ true). let s : comes_after last e.0 ≡ true = comes_later last x e.0 after (is_less _ t) in
      rw (t, s) (omega arith))
      (λ (t : comes_after (Some x) e.0 ≡ false). ⊎_elim
      (λ (s : comes_after last e.0 ≡ true). rw (t, s) (omega arith))
      (λ (s : comes_after last e.0 ≡ false). rw (t, s) more)
      (cases_Bool (comes_after last e.0)))
      (cases_Bool (comes_after (Some x) e.0))

  pub left_falls : (es : List Said) → IsSome (find name_cmp x es) → left_after (Some x) es < left_after last es
  left_falls [] h = absurd (false≢true h)
  left_falls (e ∷ es) h = ⊎_elim
      (λ (f : x ≡ e.0).
      let s : comes_after last e.0 ≡ true = ap (comes_after last) (sym f) ∙ after in
      let t : comes_after (Some x) e.0 ≡ false = ap (λ v. is_lt (name_cmp x v)) (sym f) ∙ ap is_lt (tied_itself total x) in
      let more = fewer es in
      rw (s, t) (omega arith))
      (λ (o : (name_cmp x e.0 ≡ Less) ⊎ (name_cmp e.0 x ≡ Less)).
      let n : is_eq (name_cmp x e.0) ≡ false =
      ⊎_elim (λ (lt : name_cmp x e.0 ≡ Less). ap is_eq lt)
      (λ (gt : name_cmp e.0 x ≡ Less). ap is_eq (total.antisymm x e.0 ∙ ap ordering_reverse gt)) o in
      let more = left_falls es (rw n at h) in
      ⊎_elim
      (λ (t : comes_after (Some x) e.0 ≡ true). let s : comes_after last e.0 ≡ true = comes_later last x e.0 after (is_less _ t) in
      rw (t, s) (omega arith))
      (λ (t : comes_after (Some x) e.0 ≡ false). ⊎_elim
      (λ (s : comes_after last e.0 ≡ true). rw (t, s) (omega arith))
      (λ (s : comes_after last e.0 ≡ false). rw (t, s) more)
      (cases_Bool (comes_after last e.0)))
      (cases_Bool (comes_after (Some x) e.0)))
      (name_order x e.0)
