-- What wants nothing is seen in each set that has it.
use Rattle.std.proofs.Common.{◌≡◌, ℕ, ◌+◌, ◌<◌, ◌≤◌, ◌||◌, not, Bool, true, false, List, sym, ap, ◌∙◌, ⊎_elim}
use Rattle.std.proofs.Common.{get_or, length, set, subst, take}
use Rattle.std.proofs.lemmas.Bool.{cases_Bool, cases_eq, cases_lt, false≢true}
use Rattle.std.proofs.lemmas.List.{get_or-set_other, get_or-set_same, length-set}
use Rattle.std.proofs.lemmas.List.Elements.{All-more}
use Rattle.std.specs.List.{All}
use Rattle.cs_sets.specs.declared.row.Row.{Row}
use Rattle.cs_sets.specs.Bits.{has_place}
use Rattle.cs_sets.specs.Rows.{bit_in}
use Rattle.cs_sets.specs.Following.{chosen}
use Rattle.cs_sets.specs.Sets.{is_member}
use Rattle.cs_sets.specs.Laws.Following.{chosen_has, chosen_past}
use Rattle.cs_different.specs.Members.{has_seconds}
use Rattle.cs_different.proofs.Passing.{all_agree}
use Rattle.cs_different.proofs.Rows.{bit_read, bits_past}
use Rattle.cs_different.proofs.Running.{seen_by, seen_has, unseen_lacks}

pub shown_still : (old new : List Row) (z k : ℕ) → (bit_in new z k ≡ true → bit_in old z k ≡ true) → bit_in old z k ≡ false
    → bit_in new z k ≡ false
shown_still old new z k less none = ⊎_elim
    (λ (t : bit_in new z k ≡ true). absurd (false≢true (sym none ∙ less t)))
    (λ (f : bit_in new z k ≡ false). f)
    (cases_Bool (bit_in new z k))

module _ (rows : List Row) (place : ℕ) (row : Row) (none : (k : ℕ) → has_place row k ≡ false) (low : place < length rows) where
  long : length (set rows place row) ≡ length rows
  long = length-set rows place row

  pub set_shown : (z : ℕ) → bit_in (set rows place row) z place ≡ false
  set_shown z =
      bit_read (set rows place row) place z row (subst (λ n. place < n) (sym long) low)
      ∙ ap (λ (r : Row). has_place r z) (get_or-set_same rows place row row low) ∙ none z

  pub set_less : (z k : ℕ) → bit_in (set rows place row) z k ≡ true → bit_in rows z k ≡ true
  set_less z k t = ⊎_elim
      (λ (e : k ≡ place). absurd (false≢true (sym (set_shown z) ∙ sym (ap (bit_in (set rows place row) z) e) ∙ t)))
      (λ (ne : k ≡ place → ⊥). ⊎_elim
      (λ (inside : k < length rows). bit_read rows k z row inside
      ∙ sym (ap (λ (r : Row). has_place r z) (get_or-set_other rows place k row row ne))
      ∙ sym (bit_read (set rows place row) k z row (subst (λ n. k < n) (sym long) inside)) ∙ t)
      (λ (past : length rows ≤ k). absurd (false≢true
      (sym (bits_past (set rows place row) z k (subst (λ n. n ≤ k) (sym long) past)) ∙ t)))
      (cases_lt k (length rows)))
      (cases_eq k place)

-- what wanted nothing still wants nothing if no wants are added, and so does what is shown now
pub shown_more : (old new : List Row) (at : ℕ → ℕ) (firsts : List ℕ) (i : ℕ) → i < length firsts
    → ((z k : ℕ) → bit_in new z k ≡ true → bit_in old z k ≡ true)
    → All (λ f. (z : ℕ) → bit_in old z (at f) ≡ false) (take i firsts)
    → ((z : ℕ) → bit_in new z (at (get_or firsts i 0)) ≡ false)
    → All (λ f. (z : ℕ) → bit_in new z (at f) ≡ false) (take (i + 1) firsts)
shown_more old new at firsts i low less before now =
    All-more (λ f. (z : ℕ) → bit_in new z (at f) ≡ false) firsts i 0 low
    (λ k d below z. (let f = get_or (take i firsts) k d in shown_still old new z (at f) (less z (at f)) (before k d below z))) now

module _ (wants : ℕ → ℕ → Bool) (has : ℕ → Bool) (n : ℕ) where
  abbrev seen : ℕ → Bool
  seen = seen_by wants has n

  seen_as_had : (i : ℕ) → i < n → ((z : ℕ) → wants z i ≡ false) → seen i ≡ has i
  seen_as_had i low none = ⊎_elim
      (λ (t : seen i ≡ true). t ∙ sym (seen_has wants has n i low t))
      (λ (f : seen i ≡ false). f ∙ ⊎_elim
      (λ (h : has i ≡ true). (let w = unseen_lacks wants has n i low h f in absurd (false≢true (sym (none w.0) ∙ w.2))))
      (λ (g : has i ≡ false). sym g)
      (cases_Bool (has i)))
      (cases_Bool (seen i))

  pub member_seen : (i : ℕ) → ((z : ℕ) → wants z i ≡ false) → is_member (chosen seen n) i ≡ is_member (chosen has n) i
  member_seen i none = ⊎_elim
      (λ (low : i < n). chosen_has seen n i low ∙ seen_as_had i low none ∙ sym (chosen_has has n i low))
      (λ (high : n ≤ i). chosen_past seen n i high ∙ sym (chosen_past has n i high))
      (cases_lt i n)

  -- where no half of a rename wants anything, a set and what is seen of it have the same halves
  pub seconds_seen : (firsts : List ℕ) → All (λ i. (z : ℕ) → wants z i ≡ false) firsts
      → All (λ i. (z : ℕ) → wants z (i + 1) ≡ false) firsts → has_seconds firsts (chosen seen n) ≡ has_seconds firsts (chosen has n)
  seconds_seen firsts one two =
      all_agree (λ i. not (is_member (chosen seen n) i) || is_member (chosen seen n) (i + 1))
      (λ i. not (is_member (chosen has n) i) || is_member (chosen has n) (i + 1)) firsts
      (λ k d low. (let i = get_or firsts k d in
      ap (λ b. not b || is_member (chosen seen n) (i + 1)) (member_seen i (one k d low))
      ∙ ap (λ b. not (is_member (chosen has n) i) || b) (member_seen (i + 1) (two k d low))))
