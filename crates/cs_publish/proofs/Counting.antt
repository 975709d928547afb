-- How many states are missing.
use Rattle.std.proofs.Common.{◌≡◌, Bool, true, false, cond, not, List, [], ◌∷◌, length, refl, ap, arith}
use Rattle.std.specs.Prelude.{count_by, replicate}
use Rattle.std.proofs.lemmas.List.Sums.{sum_by-cons}

-- if none is missing, each is published
pub all_there : (xs : List Bool) → count_by not xs ≡ 0 → xs ≡ replicate (length xs) true
all_there [] none = refl
all_there (true ∷ xs) none = ap (λ ys. true ∷ ys) (all_there xs (omega (arith, none, sum_by-cons (λ b. cond (not b) 1 0) true xs)))
all_there (false ∷ xs) none = absurd (omega (arith, none, sum_by-cons (λ b. cond (not b) 1 0) false xs))
