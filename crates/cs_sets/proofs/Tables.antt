-- Levels of futures in the code's words.
use Rattle.std.proofs.Common.{◌≡◌, ℕ, ◌+◌, ◌*◌, ◌-◌, ◌<◌, ◌==◌, ◌&&◌, not, min, Bool, true, false, List, [], ◌∷◌, ◌++◌}
use Rattle.std.proofs.Common.{length, sym, ap, ◌∙◌, arith, ltb, get_or}
use Rattle.std.proofs.lemmas.Bool.{lt-ltb}
use Rattle.std.proofs.lemmas.List.Sums.{sum_by_push}
use Rattle.cs_sets.specs.declared.count.Future.{Future}
use Rattle.cs_sets.specs.declared.row.Row.{Row}
use Rattle.cs_sets.specs.Bits.{has_place}
use Rattle.cs_sets.specs.Every.{count, every, lacking}
use Rattle.cs_sets.specs.Counting.{weight, weigh, Capped}
use Rattle.cs_sets.specs.Rows.{needed_in}
use Rattle.cs_sets.specs.Laws.Futures.{one_half, both_halves, start_weighs}
use Rattle.cs_sets.proofs.Reading.{removed}

-- the future without a place, in two steps
pub cleared_out : (rows : List Row) (left other out : Row) (k : ℕ) (d : Row) → k < length rows
    → ((j : ℕ) → has_place other j ≡ (has_place left j && not (has_place (get_or rows k d) j)))
    → ((j : ℕ) → has_place out j ≡ (has_place other j && not (j == k)))
    → (j : ℕ) → has_place out j ≡ (lacking (needed_in rows) k (has_place left) j && not (j == k))
cleared_out rows left other out k d low is cleared j = cleared j ∙ ap (λ b. b && not (j == k)) (removed rows left other k d low is j)

pub pushed_one : (needs : ℕ → ℕ → Bool) (n k : ℕ) (old new : List Future) (future : Future) (without : Row) → k < n
    → ((j : ℕ) → has_place without j ≡ (lacking needs k (has_place future.left) j && not (j == k)))
    → has_place future.left k ≡ false
    → new ≡ old ++ record { left = without; sets = future.sets } ∷ []
    → weigh needs (n - (k + 1)) (k + 1) new ≡ weigh needs (n - (k + 1)) (k + 1) old + weight needs (n - k) k future
pushed_one needs n k old new future without low out f e =
    ap (weigh needs (n - (k + 1)) (k + 1)) e
    ∙ sum_by_push (weight needs (n - (k + 1)) (k + 1)) old (record { left = without; sets = future.sets })
    ∙ ap (λ v. weigh needs (n - (k + 1)) (k + 1) old + v) (sym (one_half needs n k low future without out f))

pub pushed_two : (needs : ℕ → ℕ → Bool) (n k : ℕ) (old one two : List Future) (future : Future) (without kept : Row) → k < n
    → ((j : ℕ) → has_place without j ≡ (lacking needs k (has_place future.left) j && not (j == k)))
    → ((j : ℕ) → has_place kept j ≡ (has_place future.left j && not (j == k)))
    → has_place future.left k ≡ true
    → one ≡ old ++ record { left = without; sets = future.sets } ∷ []
    → two ≡ one ++ record { left = kept; sets = future.sets } ∷ []
    → weigh needs (n - (k + 1)) (k + 1) two ≡ weigh needs (n - (k + 1)) (k + 1) old + weight needs (n - k) k future
pushed_two needs n k old one two future without kept low out is t e f =
    let w = weight needs (n - (k + 1)) (k + 1) in
    let a : Future = record { left = without; sets = future.sets } in
    let b : Future = record { left = kept; sets = future.sets } in
    let p : weigh needs (n - (k + 1)) (k + 1) two ≡ weigh needs (n - (k + 1)) (k + 1) one + w b = ap (weigh needs (n - (k + 1)) (k + 1)) f
    ∙ sum_by_push w one b in
    let q : weigh needs (n - (k + 1)) (k + 1) one ≡ weigh needs (n - (k + 1)) (k + 1) old + w a = ap (weigh needs (n - (k + 1)) (k + 1)) e
    ∙ sum_by_push w old a in
    let h : weight needs (n - k) k future ≡ w a + w b = both_halves needs n k low future without out kept is t in
    sums _ _ _ _ _ _ p q h
  where
    sums : (t o d a b s : ℕ) → t ≡ o + b → o ≡ d + a → s ≡ a + b → t ≡ d + s
    sums t o d a b s x y z = omega (arith, x, y, z)

-- the first level
pub first_weighs : (needs : ℕ → ℕ → Bool) (n most : ℕ) (left : Row) (futures : List Future)
    → ((k : ℕ) → has_place left k ≡ ltb k n) → futures ≡ [] ++ record { left = left; sets = 1 } ∷ []
    → Capped most (weigh needs (n - 0) 0 futures) (length (every needs n))
first_weighs needs n most left futures is e =
    let z : n - 0 ≡ n = omega arith in
    ap (λ v. min v most)
    (ap (weigh needs (n - 0) 0) e ∙ ap (λ m. 0 + 1 * count needs m 0 (has_place left)) z ∙ one_time (count needs n 0 (has_place left))
    ∙ start_weighs needs n (has_place left) (λ j low. is j ∙ lt-ltb j n low))
  where
    one_time : (x : ℕ) → 0 + 1 * x ≡ x
    one_time x = omega arith
