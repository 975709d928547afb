-- The members ascend, so each is there once.
use Rattle.std.proofs.Common.{◌≡◌, ◌≢◌, ℕ, zero, suc, Bool, true, false, cond}
use Rattle.std.proofs.Common.{List, [], ◌∷◌, ◌++◌, sym, ap, ◌∙◌, arith, ⊎_elim, subst}
use Rattle.std.proofs.lemmas.Bool.{cases_Bool, false≢true}
use Rattle.std.proofs.lemmas.List.Elements.{All-nil, All-cons, All-weaker}
use Rattle.std.specs.List.{All, AllPairs}
use Rattle.cs_sets.specs.Chains.{IsBackward}
use Rattle.cs_sets.specs.Sets.{IsAllowed, is_member}
use Rattle.cs_sets.specs.Every.{IsBefore, may, choices, every}
use Rattle.cs_sets.specs.Laws.Lists.{Ordered, ordered_flat, ordered_with, all_pairs}
use Rattle.cs_sets.specs.Laws.Members.{IsBelow, allowed_below, member_last, member_other, not_member}
use Rattle.cs_sets.specs.Laws.Complete.{each_allowed}

-- what comes after a choice keeps an order of sets of places below k
before_push_left : (k : ℕ) (a b : List ℕ) → IsBelow k b → IsBefore a b → IsBefore (a ++ k ∷ []) b
before_push_left k a b below h =
    let low = below h.place h.second_has in
    record {
      place = h.place;
      first_lacks = member_other a k h.place (λ e. omega (arith, low, e)) ∙ h.first_lacks;
      second_has = h.second_has;
      same = λ i l. member_other a k i (λ e. omega (arith, low, l, e)) ∙ h.same i l;
    }

before_push_right : (k : ℕ) (a b : List ℕ) → IsBelow k b → IsBefore a b → IsBefore a (b ++ k ∷ [])
before_push_right k a b below h =
    let low = below h.place h.second_has in
    record {
      place = h.place;
      first_lacks = h.first_lacks;
      second_has = member_other b k h.place (λ e. omega (arith, low, e)) ∙ h.second_has;
      same = λ i l. h.same i l ∙ sym (member_other b k i (λ e. omega (arith, low, l, e)));
    }

before_push_both : (k : ℕ) (a b : List ℕ) → IsBelow k b → IsBefore a b
    → IsBefore (a ++ k ∷ []) (b ++ k ∷ [])
before_push_both k a b below h =
    let low = below h.place h.second_has in
    record {
      place = h.place;
      first_lacks = member_other a k h.place (λ e. omega (arith, low, e)) ∙ h.first_lacks;
      second_has = member_other b k h.place (λ e. omega (arith, low, e)) ∙ h.second_has;
      same = λ i l. member_other a k i (λ e. omega (arith, low, l, e)) ∙ h.same i l
          ∙ sym (member_other b k i (λ e. omega (arith, low, l, e)));
    }

-- the set without k comes before the one with it
without_first : (k : ℕ) (a : List ℕ) → IsBelow k a → IsBefore a (a ++ k ∷ [])
without_first k a below = record {
  place = k;
  first_lacks = not_member k k a below (omega arith);
  second_has = member_last a k;
  same = λ i l. sym (member_other a k i (λ e. omega (arith, l, e)));
}

-- all of the one or two choices
all_choices : (P : List ℕ → Type 0) (needs : ℕ → ℕ → Bool) (k : ℕ) (places : List ℕ) → P places
    → P (places ++ k ∷ [])
    → All P (choices needs k places)
all_choices P needs k places one two = All-cons P places
    (cond (may needs k places k) ((places ++ k ∷ []) ∷ []) []) one
    (⊎_elim
    (λ (t : may needs k places k ≡ true). subst (λ b. All P (cond b ((places ++ k ∷ []) ∷ []) []))
    (sym t)
    (All-cons P (places ++ k ∷ []) [] two (All-nil P)))
    (λ (f : may needs k places k ≡ false). subst (λ b. All P (cond b ((places ++ k ∷ []) ∷ []) []))
    (sym f) (All-nil P))
    (cases_Bool (may needs k places k)))

choices_ordered : (needs : ℕ → ℕ → Bool) (k : ℕ) (places : List ℕ) → IsBelow k places
    → Ordered IsBefore (choices needs k places)
choices_ordered needs k places below = ⊎_elim
    (λ (t : may needs k places k ≡ true). subst (λ b. Ordered IsBefore
    (places ∷ cond b ((places ++ k ∷ []) ∷ []) [])) (sym t) (
      All-cons (IsBefore places) (places ++ k ∷ []) [] (without_first k places below)
          (All-nil (IsBefore places)),
      (All-nil (IsBefore (places ++ k ∷ [])), tt),
    ))
    (λ (f : may needs k places k ≡ false). subst (λ b. Ordered IsBefore
    (places ∷ cond b ((places ++ k ∷ []) ∷ []) [])) (sym f)
    (All-nil (IsBefore places), tt))
    (cases_Bool (may needs k places k))

module _ (needs : ℕ → ℕ → Bool) (back : IsBackward needs) where
  pub every_ordered : (n : ℕ) → Ordered IsBefore (every needs n)
  every_ordered zero = (All-nil (IsBefore []), tt)
  every_ordered (suc k) =
      ordered_flat (λ a b. IsAllowed needs k a × IsAllowed needs k b × IsBefore a b) IsBefore
      (choices needs k) (every needs k)
      (ordered_with (IsAllowed needs k) IsBefore (every needs k) (each_allowed needs back k)
      (every_ordered k))
      (All-weaker (IsAllowed needs k) (λ a. Ordered IsBefore (choices needs k a))
      (λ a h. choices_ordered needs k a (allowed_below needs k a h)) (every needs k)
      (each_allowed needs back k))
      (λ a b h.
      let below = allowed_below needs k b h.1 in
      all_choices (λ u. All (IsBefore u) (choices needs k b)) needs k a
      (all_choices (IsBefore a) needs k b h.2 (before_push_right k a b below h.2))
      (all_choices (IsBefore (a ++ k ∷ [])) needs k b (before_push_left k a b below h.2)
      (before_push_both k a b below h.2)))

  pub ascends : (n : ℕ) → AllPairs IsBefore (every needs n)
  ascends n = all_pairs IsBefore (every needs n) (every_ordered n)

pub not_before_itself : (a b : List ℕ) → IsBefore a b → a ≢ b
not_before_itself a b h e = false≢true (sym h.first_lacks ∙ ap (λ v. is_member v h.place) e
    ∙ h.second_has)
