-- What is said of a text, which was made, or no memory was left for it.
use Rattle.std.proofs.Common.{◌≡◌, ℕ, List, sym, subst}
use Rattle.std.specs.Prelude.{Result, Ok, Err, IfOk, OnErr}

pub told_ok : {X E : Type 0} (bytes_of : X → List ℕ) (P : List ℕ → Type 0) (text : List ℕ) (r : Result X E) → P text
    → IfOk r (λ x. bytes_of x ≡ text) → IfOk r (λ x. P (bytes_of x))
told_ok bytes_of P text (Ok x) p e = subst P (sym e) p
told_ok bytes_of P text (Err fault) p e = tt

pub told_err : {X E : Type 0} (P : List ℕ → Type 0) (text : List ℕ) (r : Result X E) → P text → OnErr r ((t : List ℕ) × P t)
told_err P text (Ok x) p = tt
told_err P text (Err fault) p = (text, p)
