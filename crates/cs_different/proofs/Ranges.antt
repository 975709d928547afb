-- Folds over ranges.
use Rattle.std.proofs.Common.{◌≡◌, ℕ, ◌+◌, ap, ◌∙◌, fold}
use Rattle.std.proofs.lemmas.List.Sums.{fold_push}
use Rattle.std.specs.List.{range_with_len}
use Rattle.cs_sets.specs.Laws.Lists.{range_more}

-- one number more
pub fold_more : {B : Type 0} (f : B → ℕ → B) (a : B) (n : ℕ) → fold f a (range_with_len 0 (n + 1)) ≡ f (fold f a (range_with_len 0 n)) n
fold_more f a n = ap (fold f a) (range_more n) ∙ fold_push f a (range_with_len 0 n) n
