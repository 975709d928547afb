-- What is appended in parts is appended whole, and lists, as a loop writes them out.
use Rattle.std.proofs.Common.{◌≡◌, ℕ, ◌+◌, List, ◌∷◌, ◌++◌, length, map, ap, ◌∙◌, append_assoc}
use Rattle.std.specs.List.{flat_map}
use Rattle.std.proofs.lemmas.List.{length-append}
use Rattle.std.proofs.lemmas.List.Concat.{flat_map-cons}

pub then_put : (old : List ℕ) {mid new : List ℕ} (a b : List ℕ) → mid ≡ old ++ a → new ≡ mid ++ b → new ≡ old ++ (a ++ b)
then_put old {mid} {new} a b p q = q ∙ ap (λ (z : List ℕ). z ++ b) p ∙ append_assoc old a b

-- one item of a list, and those after it
pub bytes_cut : {A B : Type 0} (spell : B → List ℕ) (view : A → B) (xs ys : List A) (x : A) → xs ≡ x ∷ ys
    → flat_map spell (map view xs) ≡ spell (view x) ++ flat_map spell (map view ys)
bytes_cut spell view xs ys x cut = ap (λ zs. flat_map spell (map view zs)) cut ∙ flat_map-cons spell (view x) (map view ys)

-- how long the rest is
pub len_cut : {A B : Type 0} (spell : B → List ℕ) (view : A → B) (xs ys : List A) (x : A) → xs ≡ x ∷ ys
    → length (flat_map spell (map view xs)) ≡ length (spell (view x)) + length (flat_map spell (map view ys))
len_cut spell view xs ys x cut =
    ap length (bytes_cut spell view xs ys x cut) ∙ length-append (spell (view x)) (flat_map spell (map view ys))
