-- The places of classes.
use Rattle.std.proofs.Common.{◌≡◌, ℕ, ◌≤◌, Bool, List, [], ◌∷◌, refl, sym, ap, ◌∙◌, subst, map}
use Rattle.std.proofs.lemmas.List.Elements.{All-nil, All-cons, All-head, All-tail}
use Rattle.std.specs.List.{All}
use Rattle.cs_sets.specs.declared.row.Row.{Row}
use Rattle.cs_sets.specs.Places.{places_of}
use Rattle.cs_sets.specs.Sets.{IsAllowed}
use Rattle.cs_sets.specs.Laws.Chosen.{places_read}
use Rattle.cs_different.specs.Classing.{IsClass, members_at}
use Rattle.cs_different.specs.declared.classes.Class.{Class}

module _ (act : (ℕ → Bool) → ℕ → ℕ → Bool) (start : ℕ → Bool) (needs : ℕ → ℕ → Bool) (n : ℕ) (few : n ≤ 1024) where
  one_read : (class : Class) → IsClass act start needs n n class → places_of class.members ≡ members_at n class
  one_read class is = places_read class.members n few is.none_later

  all_read : (classes : List Class) → All (IsClass act start needs n n) classes
      → map places_of (map (λ class. class.members) classes) ≡ map (members_at n) classes
  all_read [] all = refl
  all_read (c ∷ cs) all =
      ap (λ v. v ∷ map places_of (map (λ class. class.members) cs)) (one_read c (All-head (IsClass act start needs n n) c cs all))
      ∙ ap (λ v. members_at n c ∷ v) (all_read cs (All-tail (IsClass act start needs n n) c cs all))

  all_allowed : (classes : List Class) → All (IsClass act start needs n n) classes
      → All (λ row. IsAllowed needs n (places_of row)) (map (λ class. class.members) classes)
  all_allowed [] all = All-nil (λ row. IsAllowed needs n (places_of row))
  all_allowed (c ∷ cs) all =
      let is = All-head (IsClass act start needs n n) c cs all in
      All-cons (λ row. IsAllowed needs n (places_of row)) c.members (map (λ class. class.members) cs)
      (subst (IsAllowed needs n) (sym (one_read c is)) is.allowed)
      (all_allowed cs (All-tail (IsClass act start needs n n) c cs all))

  pub members_read : (classes : List Class) → All (IsClass act start needs n n) classes → (rows : List Row)
      → rows ≡ map (λ class. class.members) classes → map places_of rows ≡ map (members_at n) classes
  members_read classes all rows e = ap (map places_of) e ∙ all_read classes all

  pub members_allowed : (classes : List Class) → All (IsClass act start needs n n) classes → (rows : List Row)
      → rows ≡ map (λ class. class.members) classes → All (λ row. IsAllowed needs n (places_of row)) rows
  members_allowed classes all rows e = subst (All (λ row. IsAllowed needs n (places_of row))) (sym e) (all_allowed classes all)
