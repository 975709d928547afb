-- What is made of each of a list, one more at a time.
use Rattle.std.proofs.Common.{◌≡◌, ℕ, ◌+◌, ◌<◌, List, [], ◌∷◌, ◌++◌, sym, ap, ◌∙◌, length, get_or, take, arith}
use Rattle.std.proofs.lemmas.Grind.{flat_map-append}
use Rattle.std.proofs.lemmas.List.{append-nil, take_more}
use Rattle.std.proofs.lemmas.List.FromFn.{length-enumerate_from, get_or-enumerate_from}
use Rattle.std.specs.List.{enumerate_from, flat_map}

pub more : {X Y : Type 0} (f : X → List Y) (xs : List X) (k : ℕ) (x : X) (ys zs : List Y)
    → k < length xs → x ≡ get_or xs k x → ys ≡ flat_map f (take k xs) → zs ≡ ys ++ f x → zs ≡ flat_map f (take (k + 1) xs)
more f xs k x ys zs low is before grown =
    grown
    ∙ ap (λ v. v ++ f x) before
    ∙ ap (λ v. flat_map f (take k xs) ++ v) (ap f is ∙ sym (append-nil (f (get_or xs k x))))
    ∙ sym (flat_map-append f (take k xs) (get_or xs k x ∷ []))
    ∙ ap (flat_map f) (sym (take_more xs k x low))

-- the same of a list with its places
pub more_at : {X Y : Type 0} (f : ℕ × X → List Y) (xs : List X) (k : ℕ) (x : X) (ys zs : List Y)
    → k < length xs → x ≡ get_or xs k x → ys ≡ flat_map f (take k (enumerate_from 0 xs)) → zs ≡ ys ++ f (k, x)
    → zs ≡ flat_map f (take (k + 1) (enumerate_from 0 xs))
more_at f xs k x ys zs low is before grown =
    let here : k < length (enumerate_from 0 xs) = omega (arith, length-enumerate_from 0 xs) in
    let zero : k ≡ 0 + k = omega arith in
    more f (enumerate_from 0 xs) k (k, x) ys zs here ((λ i. (zero i, is i)) ∙ sym (get_or-enumerate_from 0 xs k (k, x) low)) before grown
