-- Sorted entries by their places.
use Rattle.std.proofs.Common.{◌≡◌, ◌≢◌, ◌+◌, ◌<◌, ℕ, zero, suc, true, false, cond, T, List, [], ◌∷◌, map, length, Some, refl, sym, ap, ◌∙◌}
use Rattle.std.proofs.Common.{subst, ⊎_elim, arith, add-one, slice_get}
use Rattle.std.proofs.lemmas.Bool.{false≢true}
use Rattle.std.specs.FinMap.{find, is_sorted}
use Rattle.std.specs.FinMap.Entries.{below_all}
use Rattle.std.specs.Option.{option_map, is_some}
use Rattle.std.specs.Ordering.{eq_by_cmp, is_lt}
use Rattle.cs_tree_model.specs.declared.record.Record.{Record}
use Rattle.cs_tree_model.specs.Fresh.{place_in}
use Rattle.cs_tree_model.specs.Tree.{Path, path_cmp}
use Rattle.cs_tree_model.specs.Laws.Moves.{found_itself, found_more}
use Rattle.cs_tree_model.specs.Laws.Numbers.{above}
use Rattle.cs_tree_model.specs.Laws.Paths.{path_cases}
use Rattle.cs_tree_model.specs.Maps.Orders.{both_first, both_second}
use Rattle.cs_frozen.specs.Numbers.{entry_number}

-- a record with its path
abbrev pub Entry : Type 0
Entry = Path × Record

pub nth_numbers : (n : ℕ) (es : List Entry) → slice_get (map entry_number es) n ≡ option_map entry_number (slice_get es n)
nth_numbers n [] = refl
nth_numbers zero (e ∷ es) = refl
nth_numbers (suc n) (e ∷ es) = nth_numbers n es

-- an entry of a list is found in it
pub nth_found : (n : ℕ) (es : List Entry) → T (is_sorted path_cmp es) → (e : Entry) → slice_get es n ≡ Some e
    → find path_cmp e.0 es ≡ Some e.1
nth_found n [] sorted e is = absurd (false≢true (ap is_some is))
nth_found zero (d ∷ es) sorted e is =
    (let one : d ≡ e = (let two : Some d ≡ Some e = is in cc) in
    subst (λ (w : Entry). find path_cmp w.0 (d ∷ es) ≡ Some w.1) one (found_itself d es))
nth_found (suc n) (d ∷ es) sorted e is =
    let there = nth_found n es (both_second _ _ sorted) e is in
    found_more d es e.0 (λ same. above d.0 es (both_first _ _ sorted) e.1 (ap (λ w. find path_cmp w es) (sym same) ∙ there)) ∙ there

-- what is found is at its path's place
pub found_nth : (p : Path) (r : Record) (es : List Entry) → find path_cmp p es ≡ Some r → slice_get es (place_in p es) ≡ Some (p, r)
found_nth p r [] is = absurd (false≢true (ap is_some is))
found_nth p r (d ∷ es) is = ⊎_elim
    (λ (one : (eq_by_cmp path_cmp p d.0 ≡ true) × (p ≡ d.0)).
    let first : Some d.1 ≡ Some r = sym (found_itself d es) ∙ ap (λ q. find path_cmp q (d ∷ es)) (sym one.1) ∙ is in
    let same : d.1 ≡ r = cc in
    ap (λ b. slice_get (d ∷ es) (cond b 0 (place_in p es + 1))) one.0 ∙ (λ i. Some (sym one.1 i, same i)))
    (λ (two : (eq_by_cmp path_cmp p d.0 ≡ false) × (p ≢ d.0)).
    ap (λ b. slice_get (d ∷ es) (cond b 0 (place_in p es + 1))) two.0 ∙ ap (slice_get (d ∷ es)) (add-one (place_in p es)) ∙ found_nth p r es
    (sym (found_more d es p two.1) ∙ is))
    (path_cases p d.0)

pub below_at : (p : Path) (es : List Entry) (j : ℕ) (e : Entry) → T (below_all path_cmp p es) → slice_get es j ≡ Some e
    → T (is_lt (path_cmp p e.0))
below_at p [] j e h is = absurd (false≢true (ap is_some is))
below_at p (d ∷ es) zero e h is =
    (let one : d ≡ e = (let two : Some d ≡ Some e = is in cc) in subst (λ (w : Entry). T (is_lt (path_cmp p w.0))) one (both_first _ _ h))
below_at p (d ∷ es) (suc j) e h is = below_at p es j e (both_second _ _ h) is

-- paths rise with their places
pub rises : (es : List Entry) → T (is_sorted path_cmp es) → (i j : ℕ) (f e : Entry) → i < j → slice_get es i ≡ Some f
    → slice_get es j ≡ Some e → T (is_lt (path_cmp f.0 e.0))
rises [] sorted i j f e lt is js = absurd (false≢true (ap is_some is))
rises (d ∷ es) sorted i zero f e lt is js = absurd (omega arith)
rises (d ∷ es) sorted zero (suc j) f e lt is js =
    (let one : d ≡ f = (let two : Some d ≡ Some f = is in cc) in
    subst (λ (w : Entry). T (is_lt (path_cmp w.0 e.0))) one (below_at d.0 es j e (both_first _ _ sorted) js))
rises (d ∷ es) sorted (suc i) (suc j) f e lt is js = rises es (both_second _ _ sorted) i j f e (omega arith) is js

pub within : (es : List Entry) (i : ℕ) (e : Entry) → slice_get es i ≡ Some e → i < length es
within [] i e is = absurd (false≢true (ap is_some is))
within (d ∷ es) zero e is = omega arith
within (d ∷ es) (suc i) e is = let rest = within es i e is in omega arith
