-- One state more whose first is found.
use Rattle.std.proofs.Common.{◌≡◌, ℕ, ◌+◌, ◌<◌, List, [], ◌∷◌, ◌++◌, sym, ap, ◌∙◌, subst, length, slice_index, arith, below_more}
use Rattle.std.proofs.lemmas.List.{get_or_push, length_push}
use Rattle.std.proofs.Math.ListN.{get_or-append}
use Rattle.cs_plan.specs.Scenes.{Scene}
use Rattle.cs_same_states.specs.Firsts.{IsSame}

pub longer : (firsts new : List ℕ) (n first : ℕ) → length firsts ≡ n → new ≡ firsts ++ first ∷ [] → length new ≡ n + 1
longer firsts new n first long is = ap length is ∙ length_push firsts first ∙ ap (λ k. k + 1) long

pub each_more : (s : Scene) (firsts new : List ℕ) (n first : ℕ) → length firsts ≡ n → new ≡ firsts ++ first ∷ []
    → ((k : ℕ) → k < n → IsSame s k (slice_index firsts k)) → IsSame s n first → (k : ℕ) → k < n + 1 → IsSame s k (slice_index new k)
each_more s firsts new n first long is each here =
    subst (λ (xs : List ℕ). (k : ℕ) → k < n + 1 → IsSame s k (slice_index xs k)) (sym is)
    (below_more (λ k. IsSame s k (slice_index (firsts ++ first ∷ []) k)) n before last)
  where
    before : (k : ℕ) → k < n → IsSame s k (slice_index (firsts ++ first ∷ []) k)
    before k low = subst (IsSame s k) (sym (get_or-append firsts (first ∷ []) 0 k (omega arith))) (each k low)

    last : IsSame s n (slice_index (firsts ++ first ∷ []) n)
    last = subst (IsSame s n) (sym (get_or_push firsts first 0 n long)) here
