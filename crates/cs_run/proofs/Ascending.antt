-- The place of an open among opens whose numbers ascend, and the numbers that a call leaves.
use Rattle.std.proofs.Common.{◌≡◌, ◌≢◌, ℕ, suc, ◌+◌, ◌<◌, ◌≤◌, ◌&&◌, ◌==◌, Bool, true, false, List, [], ◌∷◌, length, get_or, Option, Some}
use Rattle.std.proofs.Common.{None, Ok, Err, refl, sym, ap, arith, drop}
use Rattle.std.proofs.lemmas.Bool.Decides.{nat_tests}
use Rattle.std.proofs.lemmas.Cmp.{ranked}
use Rattle.std.proofs.lemmas.List.Elements.{All-append, All-drop, All-push, All-take, All-weaker}
use Rattle.std.proofs.lemmas.List.Sums.{position_or_len_is}
use Rattle.std.specs.List.{All, position, position_or_len, remove}
use Rattle.std.specs.List.Sorted.{IsBinarySearchResult, IsNonDecreasingBy}
use Rattle.std.specs.Option.{option_map_or}
use Rattle.std.specs.Ordering.{nat_cmp, ordering_index}
use Rattle.std.specs.Prelude.{nat_lt, take}
use Rattle.cs_permit.specs.Calls.{RulesView}
use Rattle.cs_permit.specs.declared.call.Call.{Call}
use Rattle.cs_permit.specs.declared.call.OpenFile.{OpenFile}
use Rattle.cs_run.proofs.OpenLaws.{as_left, one_more}
use Rattle.cs_run.specs.Effects.{effect_of}
use Rattle.cs_run.specs.Laws.{opens_one}
use Rattle.cs_run.specs.Opens.{AreBelow, IsAscending, is_open, opens_without, opens_without_if}
use Rattle.cs_run.specs.Outcomes.{result_by_outcome, closed_open_number}
use Rattle.cs_run.specs.declared.answer.Outcome.{Outcome}
use Rattle.cs_run.specs.declared.answer.Outcome.TheVariants as out
use Rattle.cs_run.specs.declared.turn.Turn.{Turn}

-- an element that passes, after elements that don't, is the first
position_at : {X : Type 0} (p : X → Bool) (xs : List X) (i : ℕ) → i < length xs → ((d : X) → p (get_or xs i d) ≡ true)
    → ((k : ℕ) (d : X) → k < i → p (get_or xs k d) ≡ false) → position p xs ≡ Some i
position_at p [] i within here before = absurd (omega arith)
position_at p (x ∷ xs) i within here before =
    let at : position_or_len p (x ∷ xs) ≡ i = position_or_len_is p (x ∷ xs) i x (omega arith) (λ k less. before k x less) (λ _. here x) in
    let test : nat_lt i (length (x ∷ xs)) ≡ true = grind (arith, nat_tests) in
    rw (at, test) refl

position_none : {X : Type 0} (p : X → Bool) (xs : List X) → ((k : ℕ) (d : X) → k < length xs → p (get_or xs k d) ≡ false)
    → position p xs ≡ None
position_none p [] none = refl
position_none p (x ∷ xs) none =
    let at : position_or_len p (x ∷ xs) ≡ length (x ∷ xs) =
    position_or_len_is p (x ∷ xs) (length (x ∷ xs)) x (omega arith) (λ k less. none k x less) (λ less. absurd (omega arith)) in
    let test : nat_lt (length (x ∷ xs)) (length (x ∷ xs)) ≡ false = grind (arith, nat_tests) in
    rw (at, test) refl

other_number : (n m : ℕ) (b : Bool) → n ≢ m → ((n == m) && b) ≡ false
other_number n m b differs = grind (arith, nat_tests)

module _ (opens : List OpenFile) (ascending : IsAscending opens) (number : ℕ) where
  -- the comparisons with a number rise along the list, as a binary search asks
  rises : IsNonDecreasingBy (λ o. ordering_index (nat_cmp o.number number)) opens
  rises i j d le within =
      let numbers : (get_or opens i d).number ≤ (get_or opens j d).number =
      grind (arith, ascending i j d, λ (same : i ≡ j). ap (λ k. (get_or opens k d).number) same) in
      grind (arith, nat_tests)

  -- if the search finds a place, the number is there
  pub found : (at : ℕ) → IsBinarySearchResult (λ o. nat_cmp o.number number) opens (Ok at) → (d : OpenFile)
      → (get_or opens at d).number ≡ number
  found at equal d = ranked _ number _ (sym (equal d))

  -- if it finds none, the number is nowhere
  pub nowhere : (at : ℕ) → IsBinarySearchResult (λ o. nat_cmp o.number number) opens (Err at) → All (λ o. o.number ≢ number) opens
  nowhere at parted k d inside same =
      let below : k < at → (get_or opens k d).number < number = λ lt. ranked _ number _ (sym ((parted rises).0 k d (omega arith) lt)) in
      let above : at ≤ k → number < (get_or opens k d).number = λ le. ranked _ number _ (sym ((parted rises).1 k d le inside)) in
      grind (arith, below, above)

  module _ (pass : ℕ) where
    -- the open of the number, if the pass made it
    pub own_open : (at : ℕ) → at < length opens → ((d : OpenFile) → (get_or opens at d).number ≡ number)
        → ((d : OpenFile) → (get_or opens at d).pass ≡ pass) → position (is_open number pass) opens ≡ Some at
    own_open at within has made =
        position_at (is_open number pass) opens at within
        (λ d. let n : (get_or opens at d).number ≡ number = has d in let p : (get_or opens at d).pass ≡ pass = made d in
        grind (arith, nat_tests))
        (λ k d below. let less : (get_or opens k d).number < (get_or opens at d).number = ascending k at d below within in
        let n : (get_or opens at d).number ≡ number = has d in other_number _ number _ (λ same. omega arith))

    -- none, if another pass made it
    pub of_another : (at : ℕ) → at < length opens → ((d : OpenFile) → (get_or opens at d).number ≡ number)
        → ((d : OpenFile) → (get_or opens at d).pass ≢ pass) → position (is_open number pass) opens ≡ None
    of_another at within has other = position_none (is_open number pass) opens (λ k d inside.
        let n : (get_or opens at d).number ≡ number = has d in
        grind (arith, nat_tests, ascending k at d, ascending at k d, other d, λ (same : k ≡ at). ap (λ j. get_or opens j d) same))

-- no open has the number
pub unnumbered : (opens : List OpenFile) (number pass : ℕ) → All (λ o. o.number ≢ number) opens
    → position (is_open number pass) opens ≡ None
unnumbered opens number pass missing =
    position_none (is_open number pass) opens (λ k d inside. other_number _ number _ (missing k d inside))

removed_below : (n : ℕ) (opens : List OpenFile) (place : ℕ) → AreBelow n opens → AreBelow n (remove opens place)
removed_below n opens place below =
    let own = λ (o : OpenFile). o.number < n in
    All-append own (take place opens) (drop (suc place) opens) (All-take own place opens below) (All-drop own (suc place) opens below)

released_below : (n number pass : ℕ) (opens : List OpenFile) → AreBelow n opens → AreBelow n (opens_without number pass opens)
released_below n number pass opens below = by (position (is_open number pass) opens)
  where
    by : (place : Option ℕ) → AreBelow n (option_map_or (remove opens) place opens)
    by None = below
    by (Some place) = removed_below n opens place below

released_if_below : (n : ℕ) (closed : Option ℕ) (pass : ℕ) (opens : List OpenFile) → AreBelow n opens
    → AreBelow n (opens_without_if closed pass opens)
released_if_below n None pass opens below = below
released_if_below n (Some number) pass opens below = released_below n number pass opens below

more_below : (n : ℕ) (opens : List OpenFile) → AreBelow n opens → AreBelow (n + 1) opens
more_below n opens below = All-weaker (λ o. o.number < n) (λ o. o.number < n + 1) (λ o less. omega arith) opens below

granted_below : (s : RulesView) (w : Turn) (call : Call) (b : Bool) → opens_one call ≡ b → AreBelow w.place s.opens
    → AreBelow (w.place + 1) (effect_of s w call).opens
granted_below s w call true one below =
    let made = one_more s w call one in
    let own : made.one.number < w.place + 1 = rw made.number (omega arith) in
    rw made.more (All-push (λ o. o.number < w.place + 1) s.opens made.one (more_below w.place s.opens below) own)
granted_below s w call false none below =
    rw (as_left s w call none) (more_below w.place _ (released_if_below w.place (closed_open_number call) w.pass s.opens below))

-- the numbers of the opens that a call leaves are below that of the next call's open
pub stays_below : (s : RulesView) (w : Turn) (call : Call) (o : Outcome) → AreBelow w.place s.opens
    → AreBelow (w.place + 1) (result_by_outcome s w call o).opens
stays_below s w call out.Granted below = granted_below s w call (opens_one call) refl below
stays_below s w call o below = more_below w.place _ (released_if_below w.place (closed_open_number call) w.pass s.opens below)
