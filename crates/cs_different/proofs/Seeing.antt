-- What is seen, pointwise.
use Rattle.std.proofs.Common.{◌≡◌, ℕ, ◌<◌, ◌==◌, ◌&&◌, ◌||◌, not, Bool, true, false, refl, sym, ap, ◌∙◌, arith, ⊎_elim}
use Rattle.std.proofs.lemmas.Bool.{cases_Bool, cases_eq, ne_eqb, or_left, or_right}
use Rattle.cs_sets.specs.Different.{IsLike, same_answer}
use Rattle.cs_different.specs.Seen.{has_wanted, same_seen, see}
use Rattle.cs_sets.specs.Laws.Classes.{answer_from, answer_is}
use Rattle.cs_sets.specs.Laws.Lists.{all_of_range, all_same, at_of_range}

pub seen_from : (n : ℕ) (a b : ℕ → Bool) → ((i : ℕ) → i < n → a i ≡ b i) → same_seen n a b ≡ true
seen_from n a b same = all_of_range (λ i. same_answer (a i) (b i)) 0 n (λ i l u. answer_from (a i) (b i) (same i (omega (arith, u))))

pub seen_says : (n : ℕ) (a b : ℕ → Bool) → same_seen n a b ≡ true → (i : ℕ) → i < n → a i ≡ b i
seen_says n a b t i low =
    answer_is (a i) (b i) (at_of_range (λ j. same_answer (a j) (b j)) 0 n i t (omega arith) (omega (arith, low)))

pub same_is_like : (n : ℕ) → IsLike (same_seen n)
same_is_like n = record {
  itself = λ x. seen_from n x x (λ i low. refl);
  passes_on = λ x y z p q. seen_from n x z (λ i low. seen_says n x y p i low ∙ seen_says n y z q i low);
}

-- what is wanted depends on the places below only
pub wanted_same : (wants : ℕ → ℕ → Bool) (k : ℕ) (a b : ℕ → Bool) → ((z : ℕ) → z < k → a z ≡ b z)
    → has_wanted wants k a ≡ has_wanted wants k b
unfolding has_wanted
wanted_same wants k a b same =
    all_same (λ z. not (wants z k) || a z) (λ z. not (wants z k) || b z) 0 k (λ z l u. ap (λ v. not (wants z k) || v) (same z (omega
    (arith, u))))

pub sees_alike : (n : ℕ) (wants : ℕ → ℕ → Bool) (a b : ℕ → Bool) (k : ℕ) → same_seen n a b ≡ true
    → same_seen n (see wants a k) (see wants b k) ≡ true
sees_alike n wants a b k t = seen_from n (see wants a k) (see wants b k) (λ i low. ⊎_elim
    (λ (e : i ≡ k).
    ap (λ v. i == k && v || a i) (wanted_same wants k a b (λ z l. seen_says n a b t z (omega (arith, l, low, e))))
    ∙ ap (λ v. i == k && has_wanted wants k b || v) (seen_says n a b t i low))
    (λ (ne : i ≡ k → ⊥).
    ap (λ v. v && has_wanted wants k a || a i) (ne_eqb i k ne) ∙ seen_says n a b t i low
    ∙ sym (ap (λ v. v && has_wanted wants k b || b i) (ne_eqb i k ne)))
    (cases_eq i k))

-- all is seen that is wanted, in the code's words
pub wanted_from : (wants : ℕ → ℕ → Bool) (k : ℕ) (seen : ℕ → Bool) → ((z : ℕ) → wants z k ≡ true → seen z ≡ true)
    → has_wanted wants k seen ≡ true
unfolding has_wanted
wanted_from wants k seen all = all_of_range (λ z. not (wants z k) || seen z) 0 k (λ z l u. ⊎_elim
    (λ (t : wants z k ≡ true). or_right (not (wants z k)) (seen z) (all z t))
    (λ (f : wants z k ≡ false). or_left (not (wants z k)) (seen z) (ap not f))
    (cases_Bool (wants z k)))

pub wanted_says : (wants : ℕ → ℕ → Bool) (k : ℕ) (seen : ℕ → Bool) → has_wanted wants k seen ≡ true → (z : ℕ) → z < k
    → wants z k ≡ true → seen z ≡ true
unfolding has_wanted
wanted_says wants k seen t z low w =
    sym (ap (λ b. not b || seen z) w)
    ∙ at_of_range (λ z. not (wants z k) || seen z) 0 k z t (omega arith) (omega (arith, low))
