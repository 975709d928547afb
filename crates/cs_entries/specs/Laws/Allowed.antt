-- A set that is closed under the rules has what its members need.
use Rattle.std.proofs.Common.{◌≡◌, ◌≢◌, ℕ, zero, suc, ◌+◌, ◌-◌, ◌<◌, ◌≤◌, ◌&&◌, ◌||◌, not, Bool, true, false}
use Rattle.std.proofs.Common.{◌⊎◌, None, Some, refl, sym, ap, ◌∙◌, arith, ⊎_elim}
use Rattle.std.proofs.lemmas.Bool.{cases_eq, false≢true, or_cases, or_left, or_right, eqb-true, eq-eqb, lt-ltb}
use Rattle.std.specs.List.{list_any, range_with_len}
use Rattle.cs_entries.specs.Entries.{Entries, Entry, touches, entry_eq, Removes, MovesDirectory}
use Rattle.cs_entries.specs.Entries.{EntryOp, Create, Link, Delete, Move, Other}
use Rattle.cs_entries.specs.Sets.{HasNeeds, AreNumbered, AreFixed}
use Rattle.cs_entries.specs.Rules.{entries_touched, makes, removes, moves_directory, shares_entry, is_latest}
use Rattle.cs_entries.specs.Rules.{makes_directory, empties, needs, places_between, IsClosed}
use Rattle.cs_entries.specs.Laws.One.{same_entry, entry_from}
use Rattle.cs_entries.specs.Laws.Search.{NonePass, Last, last_of}
use Rattle.cs_entries.specs.declared.node.Node.TheVariants.{Directory, File}

-- a test that passes at an entry that an operation touches passes at one of them
any_touched : (t : Entry → Bool) (o : EntryOp) (e : Entry) → touches o e ≡ true → t e ≡ true
    → list_any t (entries_touched o) ≡ true
any_touched t (Create p node) e h is = ap (λ b. b || false) (ap t (entry_from p e h) ∙ is)
any_touched t (Link p kind file) e h is = ap (λ b. b || false) (ap t (entry_from p e h) ∙ is)
any_touched t (Delete p node) e h is = ap (λ b. b || false) (ap t (entry_from p e h) ∙ is)
any_touched t (Move a b node old) e h is = ⊎_elim
    (λ (l : entry_eq a e ≡ true). ap (λ x. x || (t b || false)) (ap t (entry_from a e l) ∙ is))
    (λ (r : entry_eq b e ≡ true). or_right (t a) (t b || false) (ap (λ x. x || false) (ap t (entry_from b e r) ∙ is)))
    (or_cases (entry_eq a e) (entry_eq b e) h)
any_touched t Other e h is = absurd (false≢true h)

removes_it : (o : EntryOp) (d : ℕ) → Removes o d → removes o d ≡ true
removes_it (Delete e (Directory c)) d h = eq-eqb c d h
removes_it (Delete e (File kind file)) d h = absurd h
removes_it (Move a b node (Some (Directory c))) d h = eq-eqb c d h
removes_it (Move a b node (Some (File kind file))) d h = absurd h
removes_it (Move a b node None) d h = absurd h
removes_it (Create e node) d h = absurd h
removes_it (Link e kind file) d h = absurd h
removes_it Other d h = absurd h

moves_it : (o : EntryOp) → MovesDirectory o → moves_directory o ≡ true
moves_it (Move a b (Directory c) old) h = refl
moves_it (Move a b (File kind file) old) h = absurd h
moves_it (Create e node) h = absurd h
moves_it (Link e kind file) h = absurd h
moves_it (Delete e node) h = absurd h
moves_it Other h = absurd h

-- what makes a directory puts it
made_by : (o : EntryOp) (d : ℕ) → makes o d ≡ true → (e : Entry) × (o ≡ Create e (Directory d))
made_by (Create e (Directory c)) d h = (e, ap (λ k. Create e (Directory k)) (eqb-true c d h))
made_by (Create e (File kind file)) d h = absurd (false≢true h)
made_by (Link e kind file) d h = absurd (false≢true h)
made_by (Delete e node) d h = absurd (false≢true h)
made_by (Move a b node old) d h = absurd (false≢true h)
made_by Other d h = absurd (false≢true h)

-- one of four reasons
first_of_four : (s m e v : Bool) → s ≡ true → (s || m || e || v) ≡ true
first_of_four s m e v h = or_left (s || m || e) v (or_left (s || m) e (or_left s m h))

second_of_four : (s m e v : Bool) → m ≡ true → (s || m || e || v) ≡ true
second_of_four s m e v h = or_left (s || m || e) v (or_left (s || m) e (or_right s m h))

third_of_four : (s m e v : Bool) → e ≡ true → (s || m || e || v) ≡ true
third_of_four s m e v h = or_left (s || m || e) v (or_right (s || m) e h)

-- none of some places passes
none_of : (t : ℕ → Bool) (a n : ℕ) → ((k : ℕ) → a ≤ k → k < a + n → t k ≡ false)
    → list_any t (range_with_len a n) ≡ false
none_of t a zero none = refl
none_of t a (suc n) none =
    ap (λ b. b || list_any t (range_with_len (a + 1) n)) (none a (omega arith) (omega arith))
    ∙ none_of t (a + 1) n (λ k l h. none k (omega (arith, l)) (omega (arith, h)))

last_made : (ops : ℕ → EntryOp) (i j d : ℕ) → makes (ops i) d ≡ true
    → list_any (λ k. makes (ops k) d) (places_between i j) ≡ false → is_latest ops i j d ≡ true
unfolding is_latest
last_made ops i j d passes none = λ t. passes t && not (none t)

module _ (start : Entries) (ops : ℕ → EntryOp) (n : ℕ) (has : ℕ → Bool) (closed : IsClosed (needs ops) has)
    (inside : (j : ℕ) → has j ≡ true → j < n)
    (numbered : AreNumbered start ops n ⊎ AreFixed start ops n) where
  by_reason : (i j : ℕ) → i < j → has j ≡ true
      → (shares_entry (ops i) (ops j) || makes_directory ops i j || empties (ops i) (ops j)
      || moves_directory (ops i) && moves_directory (ops j)) ≡ true → has i ≡ true
  by_reason i j lt member reason = closed i j member (λ t. lt-ltb i j lt t && reason t)

  shared : (i j : ℕ) (e : Entry) → i < j → has j ≡ true → touches (ops i) e ≡ true
      → touches (ops j) e ≡ true → has i ≡ true
  shared i j e lt member ti tj =
      by_reason i j lt member
      (first_of_four (shares_entry (ops i) (ops j)) (makes_directory ops i j) (empties (ops i) (ops j))
      (moves_directory (ops i) && moves_directory (ops j)) (any_touched (touches (ops i)) (ops j) e tj ti))

  latest : (i j : ℕ) (e : Entry) → i < j → has j ≡ true → touches (ops j) e ≡ true
      → is_latest ops i j e.directory ≡ true → has i ≡ true
  latest i j e lt member tj is =
      by_reason i j lt member
      (second_of_four (shares_entry (ops i) (ops j)) (makes_directory ops i j) (empties (ops i) (ops j))
      (moves_directory (ops i) && moves_directory (ops j))
      (any_touched (λ f. is_latest ops i j f.directory) (ops j) e tj is))

  -- the latest that makes the directory, and by it each
  maker : (i j : ℕ) (e f : Entry) → i < j → has j ≡ true → touches (ops j) e ≡ true
      → ops i ≡ Create f (Directory e.directory) → has i ≡ true
  maker i j e f lt member tj made = ⊎_elim
      (λ (none : NonePass (λ k. makes (ops k) e.directory) i j). absurd
      (false≢true (sym (none i (omega arith) lt) ∙ makes_i)))
      (λ (l : Last (λ k. makes (ops k) e.directory) i j). by l)
      (last_of (λ k. makes (ops k) e.directory) i j)
    where
      makes_i : makes (ops i) e.directory ≡ true
      makes_i = ap (λ o. makes o e.directory) made ∙ eq-eqb e.directory e.directory refl

      by : Last (λ k. makes (ops k) e.directory) i j → has i ≡ true
      by l =
          (let low = l.below in
          let lj = inside j member in
          let none = none_of (λ k. makes (ops k) e.directory) (l.place + 1) (j - (l.place + 1))
          (λ k from below. l.none_after k (omega (arith, from)) (omega (arith, below, low))) in
          let has_l = latest l.place j e low member tj (last_made ops l.place j e.directory l.passes none) in
          ⊎_elim
          (λ (same : i ≡ l.place). ap has same ∙ has_l)
          (λ (other : i ≢ l.place).
          (let w = made_by (ops l.place) e.directory l.passes in
          let from = l.from in
          ⊎_elim
          (λ (own : AreNumbered start ops n). absurd
          ((own l.place e.directory w.0 (omega (arith, low, lj)) w.1).2 i f (omega (arith, from, other)) made))
          (λ (fixed : AreFixed start ops n).
          (let at : f ≡ w.0 = sym (fixed.made i f e.directory (omega (arith, lt, lj)) made)
          ∙ fixed.made l.place w.0 e.directory (omega (arith, low, lj)) w.1 in
          shared i l.place f (omega (arith, from, other)) has_l
          (ap (λ o. touches o f) made ∙ same_entry f)
          (ap (λ o. touches o f) w.1 ∙ ap (λ g. entry_eq g f) (sym at) ∙ same_entry f)))
          numbered))
          (cases_eq i l.place))

  pub allowed_has : HasNeeds ops has
  allowed_has = record {
    entry = shared;
    maker = maker;
    emptied = λ i j e lt member ti gone. by_reason i j lt member
        (third_of_four (shares_entry (ops i) (ops j)) (makes_directory ops i j) (empties (ops i) (ops j))
        (moves_directory (ops i) && moves_directory (ops j))
        (any_touched (λ f. removes (ops j) f.directory) (ops i) e ti
        (removes_it (ops j) e.directory gone)));
    moves = λ i j lt member mi mj. by_reason i j lt member
        (or_right (shares_entry (ops i) (ops j) || makes_directory ops i j || empties (ops i) (ops j))
        (moves_directory (ops i) && moves_directory (ops j))
        (λ t. moves_it (ops i) mi t && moves_it (ops j) mj t));
  }
