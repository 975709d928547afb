-- What holds of the elements of a list.
use Rattle.std.proofs.Common.{◌≡◌, ◌<◌, ◌≤◌, ℕ, ◌+◌, List, [], ◌∷◌, None, Some, length, get_or, sym, subst, take, ◌∙◌}
use Rattle.std.proofs.lemmas.List.{take_more}
use Rattle.std.proofs.lemmas.List.Elements.{All-append, All-cons, All-nil}
use Rattle.std.proofs.lemmas.Option.{slice_get-get_or, slice_get_past, slice_get_within}
use Rattle.std.specs.List.{All, slice_get}

pub all_more : {X : Type 0} (P : X → Type 0) (xs : List X) (w : ℕ) (d : X) → w < length xs → All P (take w xs) → P (get_or xs w d)
    → All P (take (w + 1) xs)
all_more P xs w d low before here = subst (All P) (sym (take_more xs w d low))
    (All-append P (take w xs) (get_or xs w d ∷ []) before (All-cons P (get_or xs w d) [] here (All-nil P)))

some_same : {X : Type 0} {x y : X} → Some x ≡ Some y → x ≡ y
some_same e = cc e

-- what holds of all holds of the one that was found
pub all_at : {X : Type 0} (P : X → Type 0) (xs : List X) (k : ℕ) (x : X) → slice_get xs k ≡ Some x → All P xs → P x
all_at P xs k x there all =
    let low = slice_get_within xs k x there in
    subst P (some_same (sym (slice_get-get_or xs k x low) ∙ there)) (all k x low)

some_none : {X : Type 0} (x : X) → None ≡ Some x → ⊥
some_none x e = cc e

-- what was found is within the list
pub not_past : {X : Type 0} (xs : List X) (k : ℕ) (x : X) → slice_get xs k ≡ Some x → length xs ≤ k → ⊥
not_past xs k x there high = some_none x (sym (slice_get_past xs k high) ∙ there)
