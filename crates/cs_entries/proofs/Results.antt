-- What is known of a result by cases.
use Rattle.std.proofs.Common.{◌≡◌, ℕ, zero, suc, List, [], ◌∷◌, ◌++◌, Result, Ok, Err, length, take, drop, ap, arith, refl}
use Rattle.std.specs.Prelude.{IfOk, OnErr, OnOk}

pub if_ok : {A E : Type 0} {P Q : A → Type 0} (r : Result A E) → ((x : A) → P x → Q x) → IfOk r P → IfOk r Q
if_ok (Ok x) more is = more x is
if_ok (Err e) more is = is

pub on_ok : {A E P Q : Type 0} (r : Result A E) → (P → Q) → OnOk r P → OnOk r Q
on_ok (Ok x) more is = more is
on_ok (Err e) more is = is

pub on_err : {A E P Q : Type 0} (r : Result A E) → (P → Q) → OnErr r P → OnErr r Q
on_err (Ok x) more is = is
on_err (Err e) more is = more is

pub always : {A E P : Type 0} (r : Result A E) → P → OnErr r P
always (Ok x) is = tt
always (Err e) is = is

-- a vector whose elements were all written
pub refilled : {X : Type 0} (n : ℕ) (ws ys : List X) → length ws ≡ n → length ys ≡ n → take n (ws ++ drop (length ws) ys) ≡ ws
refilled zero [] [] a b = refl
refilled zero [] (y ∷ ys) a b = absurd (omega (arith, b))
refilled zero (w ∷ ws) ys a b = absurd (omega (arith, a))
refilled (suc n) [] ys a b = absurd (omega (arith, a))
refilled (suc n) (w ∷ ws) [] a b = absurd (omega (arith, b))
refilled (suc n) (w ∷ ws) (y ∷ ys) a b = ap (λ zs. w ∷ zs) (refilled n ws ys (omega (arith, a)) (omega (arith, b)))
