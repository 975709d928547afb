-- Keys that are the same are equal.
use Rattle.std.proofs.Common.{◌≡◌, ℕ, Bool, true, false, List, refl, inl, inr}
use Rattle.std.specs.Prelude.{nat_eq, ◌&&◌}
use Rattle.std.proofs.lemmas.Bool.{eqb-true}
use Rattle.cs_names.specs.Texts.{same_bytes}
use Rattle.cs_registry.specs.Keys.{Key, same_key}
use Rattle.cs_tree_model.specs.Laws.Moves.{name_cases}

both : (a b : Bool) → (a && b) ≡ true → (a ≡ true) × (b ≡ true)
both true b e = (refl, e)
both false b e = absurd (cc)

same_names : (x y : List ℕ) → same_bytes x y ≡ true → x ≡ y
same_names x y is =
    elim (name_cases x y) [ inl alike ↦ alike.1 | inr other ↦ absurd (let differs : same_bytes x y ≡ false = other.0 in cc) ]

-- only one key is the same as another
pub same_is : (k l : Key) → same_key k l ≡ true → k ≡ l
same_is k l is =
    let parts = both (nat_eq k.number l.number) (same_bytes k.name l.name) is in
    λ i. record { number = eqb-true k.number l.number parts.0 i; name = same_names k.name l.name parts.1 i }
