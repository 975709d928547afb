-- The text of a set's places, cut back and extended.
use Rattle.std.proofs.Common.{◌≡◌, ℕ, zero, suc, ◌+◌, ◌*◌, ◌-◌, ◌/◌, ◌%◌, ◌^◌, ◌<◌, ◌≤◌, ◌≢◌, Bool, true, false, List, [], ◌∷◌, ◌++◌, codes, decimal}
use Rattle.std.proofs.Common.{get_or, take, drop, length, refl, sym, ap, ◌∙◌, arith, ⊎_elim, append_assoc, length-append}
use Rattle.std.proofs.Math.ListN.{set}
use Rattle.std.proofs.Math.Seq.{take-append_seam}
use Rattle.std.proofs.lemmas.Bool.{cases_Bool, cases_eq, cases_lt, false≢true}
use Rattle.std.proofs.lemmas.Fmt.{decimal_step, length-decimal-le}
use Rattle.std.proofs.lemmas.List.{append-nil, flat_map_more, get_or-set_same, get_or-set_other}
use Rattle.cs_sets.specs.declared.row.Row.{Row}
use Rattle.cs_sets.specs.Bits.{has_place}
use Rattle.cs_sets.specs.Finding.{HasNone, IsNext}
use Rattle.cs_sets.specs.Following.{chosen}
use Rattle.cs_sets.specs.Laws.Following.{chosen_on, chosen_same, chosen_with, chosen_without}
use Rattle.cs_sets.specs.Places.{places_of}
use Rattle.cs_every.specs.Lines.{IsText, text_before}
use Rattle.cs_every.specs.Texts.{others_text, pick_line}

-- ---- the text before a place

text_same : (p q : ℕ → Bool) (k : ℕ) → ((i : ℕ) → i < k → p i ≡ q i) → text_before p k ≡ text_before q k
unfolding text_before
text_same p q k same = ap others_text (chosen_same p q k same)

text_with : (has : ℕ → Bool) (k : ℕ) → has k ≡ true → text_before has (suc k) ≡ text_before has k ++ (codes "," ++ decimal k)
unfolding text_before
text_with has k there =
    ap others_text (chosen_with has k there) ∙ sym (flat_map_more (λ i. codes "," ++ decimal i) [] (chosen has k) k)

text_without : (has : ℕ → Bool) (k : ℕ) → has k ≡ false → text_before has (suc k) ≡ text_before has k
unfolding text_before
text_without has k missing = ap others_text (chosen_without has k missing)

text_on : (has : ℕ → Bool) (k m : ℕ) → k ≤ m → HasNone has k m → text_before has m ≡ text_before has k
unfolding text_before
text_on has k m low none =
    let e : m ≡ k + (m - k) = omega (arith, low) in
    ap (λ v. others_text (chosen has v)) e
    ∙ ap others_text (chosen_on has k (m - k) (λ i from to. none i from (omega (arith, to, low))))

-- what is behind the text before an earlier place
text_behind : (has : ℕ → Bool) (k d : ℕ) → (more : List ℕ) × (text_before has (k + d) ≡ text_before has k ++ more)
text_behind has k zero =
    let e : k + 0 ≡ k = omega arith in
    ([], ap (text_before has) e ∙ sym (append-nil (text_before has k)))
text_behind has k (suc d) =
    let e : k + suc d ≡ suc (k + d) = omega arith in
    let w = text_behind has k d in
    ⊎_elim
    (λ (t : has (k + d) ≡ true). (
      w.0 ++ (codes "," ++ decimal (k + d)),
      ap (text_before has) e ∙ text_with has (k + d) t ∙ ap (λ v. v ++ (codes "," ++ decimal (k + d))) w.1
          ∙ append_assoc (text_before has k) w.0 (codes "," ++ decimal (k + d)),
    ))
    (λ (f : has (k + d) ≡ false). (w.0, ap (text_before has) e ∙ text_without has (k + d) f ∙ w.1))
    (cases_Bool (has (k + d)))

text_cut : (has : ℕ → Bool) (k m : ℕ) → k ≤ m → take (length (text_before has k)) (text_before has m) ≡ text_before has k
text_cut has k m low =
    let e : m ≡ k + (m - k) = omega (arith, low) in
    let w = text_behind has k (m - k) in
    ap (λ v. take (length (text_before has k)) (text_before has v)) e ∙ ap (take (length (text_before has k))) w.1
    ∙ take-append_seam (text_before has k) w.0

-- before all there is none
text_none : (has : ℕ → Bool) → text_before has 0 ≡ []
unfolding text_before
text_none has = refl

-- a comma and four digits for each place
pub text_short : (has : ℕ → Bool) (k : ℕ) → k ≤ 1024 → length (text_before has k) ≤ 5 * k
text_short has zero low = let none : length (text_before has 0) ≡ 0 = ap length (text_none has) in omega (arith, none)
text_short has (suc k) low =
    let before : length (text_before has k) ≤ 5 * k = text_short has k (omega (arith, low)) in
    let digits : length (decimal k) ≤ 4 = length-decimal-le 4 k (omega arith) (omega (arith, low)) (omega (arith, low)) in
    ⊎_elim
    (λ (t : has k ≡ true).
    let long : length (text_before has (suc k)) ≡ length (text_before has k) + (1 + length (decimal k)) =
    ap length (text_with has k t) ∙ length-append (text_before has k) (codes "," ++ decimal k)
    ∙ ap (λ v. length (text_before has k) + v) (length-append (codes ",") (decimal k)) in
    omega (arith, long, before, digits))
    (λ (f : has k ≡ false).
    let long : length (text_before has (suc k)) ≡ length (text_before has k) = ap length (text_without has k f) in
    omega (arith, long, before))
    (cases_Bool (has k))

-- ---- the kept text

-- of another set with the same places so far
pub same_text : (starts text : List ℕ) (p q : ℕ → Bool) (end : ℕ) → IsText starts text p end → ((i : ℕ) → i < end → p i ≡ q i)
    → IsText starts text q end
same_text starts text p q end kept same = record {
  whole = kept.whole ∙ text_same p q end same;
  each = λ k low there. kept.each k low (same k low ∙ there)
      ∙ ap length (text_same p q k (λ i below. same i (omega (arith, below, low))));
}

-- up to a place on from which there is none
pub shorter_text : (starts text : List ℕ) (has : ℕ → Bool) (end m : ℕ) → end ≤ m → HasNone has end m → IsText starts text has m
    → IsText starts text has end
shorter_text starts text has end m low none kept = record {
  whole = kept.whole ∙ text_on has end m low none;
  each = λ k below there. kept.each k (omega (arith, below, low)) there;
}

-- and from there on
pub longer_text : (starts text : List ℕ) (has : ℕ → Bool) (at m : ℕ) → at ≤ m → HasNone has at m → IsText starts text has at
    → IsText starts text has m
longer_text starts text has at m low none kept = record {
  whole = kept.whole ∙ sym (text_on has at m low none);
  each = λ k below there. ⊎_elim
      (λ (early : k < at). kept.each k early there)
      (λ (late : at ≤ k). absurd (false≢true (sym (none k late below) ∙ there)))
      (cases_lt k at);
}

-- cut back to where a place starts
pub cut_text_at : (starts text : List ℕ) (has : ℕ → Bool) (end m place : ℕ) → IsNext has end m place → IsText starts text has m
    → IsText starts (take (get_or starts place 0) text) has end
cut_text_at starts text has end m place next kept =
    let to = next.before_end in let from = next.from_first in
    record {
      whole = ap (λ v. take v text) (kept.each place to next.is_there)
          ∙ ap (take (length (text_before has place))) kept.whole
          ∙ text_cut has place m (omega (arith, to))
          ∙ text_on has end place from next.none_before;
      each = λ k below there. kept.each k (omega (arith, below, from, to)) there;
    }

-- extended by a place
pub more_text : (starts text : List ℕ) (has : ℕ → Bool) (at end place : ℕ) → IsNext has at end place → place < length starts
    → IsText starts text has at
    → IsText (set starts place (length text)) (text ++ (codes "," ++ decimal place)) has (place + 1)
more_text starts text has at end place next room kept =
    let from = next.from_first in
    let before = longer_text starts text has at place from next.none_before kept in
    let e : place + 1 ≡ suc place = omega arith in
    record {
      whole = ap (λ v. v ++ (codes "," ++ decimal place)) before.whole ∙ sym (text_with has place next.is_there)
          ∙ ap (text_before has) (sym e);
      each = λ k below there. ⊎_elim
          (λ (s : k ≡ place). ap (λ v. get_or (set starts place (length text)) v 0) s
          ∙ get_or-set_same starts place (length text) 0 room
          ∙ ap length (before.whole ∙ ap (text_before has) (sym s)))
          (λ (ne : k ≢ place). get_or-set_other starts place k (length text) 0 ne
          ∙ before.each k (omega (arith, below, ne)) there)
          (cases_eq k place);
    }

-- of no places
pub empty_text : (starts text : List ℕ) (has : ℕ → Bool) → ((k : ℕ) → has k ≡ false) → text ≡ [] → IsText starts text has 1024
empty_text starts text has none empty =
    longer_text starts text has 0 1024 (omega arith) (λ i low high. none i)
    (record { whole = empty ∙ sym (text_none has); each = λ k below there. absurd (omega (arith, below)) })

-- ---- the line

line_of : (places : List ℕ) → pick_line places ≡ codes "[" ++ (drop 1 (others_text places) ++ codes "]\n")
line_of [] = refl
line_of (place ∷ places) =
    ap (λ v. codes "[" ++ v) (sym (append_assoc (decimal place) (others_text places) (codes "]\n")))

-- the line of a set, by the text of its places
pub line_of_text : (starts text : List ℕ) (row : Row) (places : List ℕ) → IsText starts text (has_place row) 1024 → places_of row ≡ places
    → codes "[" ++ (drop 1 text ++ codes "]\n") ≡ pick_line places
unfolding text_before places_of
line_of_text starts text row places kept e =
    ap (λ v. codes "[" ++ (drop 1 v ++ codes "]\n")) (kept.whole ∙ ap others_text e) ∙ sym (line_of places)

pub nothing_in : (text : List ℕ) → length text < 1 → text ≡ []
nothing_in [] low = refl
nothing_in (x ∷ xs) low = absurd (omega (arith, low))

-- ---- digits

pub digits_of_rest : (n : ℕ) → 10 ≤ n → n < 2 ^ 64 → length (decimal n) ≡ length (decimal (n / 10)) + 1
digits_of_rest n many fits =
    ap length (decimal_step n many fits) ∙ length-append (decimal (n / 10)) ((48 + n % 10) ∷ [])
