-- One more set, which passes a test or not.
use Rattle.std.proofs.Common.{◌≡◌, Bool, true, false, cond, List, ◌∷◌, ap, ◌∙◌}
use Rattle.std.specs.List.{filter}

pub passes_next : {X : Type 0} (p : X → Bool) (sets rest : List X) (x : X) → sets ≡ x ∷ rest → p x ≡ true
    → filter p sets ≡ x ∷ filter p rest
passes_next p sets rest x e t = ap (filter p) e ∙ ap (λ b. cond b (x ∷ filter p rest) (filter p rest)) t

pub fails_next : {X : Type 0} (p : X → Bool) (sets rest : List X) (x : X) → sets ≡ x ∷ rest → p x ≡ false
    → filter p sets ≡ filter p rest
fails_next p sets rest x e f = ap (filter p) e ∙ ap (λ b. cond b (x ∷ filter p rest) (filter p rest)) f
