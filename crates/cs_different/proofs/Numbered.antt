-- No more classes than sets.
use Rattle.std.proofs.Common.{◌≡◌, ℕ, zero, suc, ◌+◌, ◌-◌, ◌≤◌, Bool, true, false, cond}
use Rattle.std.proofs.Common.{List, [], ◌∷◌, ◌++◌, sym, ap, ◌∙◌, arith, ⊎_elim, length, subst, fold, length-append}
use Rattle.std.proofs.lemmas.Bool.{cases_Bool}
use Rattle.std.proofs.lemmas.List.{append-nil}
use Rattle.std.proofs.lemmas.List.Concat.{flat_map-append}
use Rattle.std.specs.List.{flat_map, list_any}
use Rattle.cs_sets.specs.Different.{add_first, firsts}
use Rattle.cs_sets.specs.Every.{every, extending, may}
use Rattle.cs_sets.specs.Bits.{has_place}
use Rattle.cs_sets.specs.Laws.Counts.{every_is}
use Rattle.cs_different.specs.Classing.{extensions, members_at, one_key}
use Rattle.cs_different.specs.declared.classes.Class.{Class}

-- a set extends itself
some_extend : (needs : ℕ → ℕ → Bool) (m k : ℕ) (places : List ℕ) → 1 ≤ length (extending needs m k places)
some_extend needs zero k places = omega arith
some_extend needs (suc m) k places =
    let first = some_extend needs m (k + 1) places in
    let rest = flat_map (extending needs m (k + 1)) (cond (may needs k places k) ((places ++ k ∷ []) ∷ []) []) in
    let long = length-append (extending needs m (k + 1) places) rest in
    omega (arith, first, long)

pub one_each : (needs : ℕ → ℕ → Bool) (n k : ℕ) (level : List Class) → length level ≤ length (flat_map (extensions needs n k) level)
one_each needs n k [] = omega arith
one_each needs n k (c ∷ level) =
    let here = some_extend needs (n - k) k (members_at k c) in
    let rest = one_each needs n k level in
    let long = length-append (extensions needs n k c) (flat_map (extensions needs n k) level) in
    omega (arith, here, rest, long)

fewer_kept : {X Y : Type 0} (like : X → X → Bool) (f : X → List Y) (xs kept : List X)
    → length (flat_map f (fold (add_first like) kept xs)) ≤ length (flat_map f kept) + length (flat_map f xs)
fewer_kept like f [] kept = omega arith
fewer_kept like f (x ∷ xs) kept = ⊎_elim
    (λ (m : list_any (λ y. like y x) kept ≡ true).
    (let rest = fewer_kept like f xs kept in
    let long = length-append (f x) (flat_map f xs) in
    subst (λ b. length (flat_map f (fold (add_first like) (cond b kept (kept ++ x ∷ [])) xs)) ≤ length (flat_map f kept) + length (f x ++
    flat_map f xs))
    (sym m) (omega (arith, rest, long))))
    (λ (g : list_any (λ y. like y x) kept ≡ false).
    (let rest = fewer_kept like f xs (kept ++ x ∷ []) in
    let long = length-append (f x) (flat_map f xs) in
    let more : length (flat_map f (kept ++ x ∷ [])) ≡ length (flat_map f kept) + length (f x) =
    ap length (flat_map-append f kept (x ∷ []) ∙ ap (λ v. flat_map f kept ++ v) (append-nil (f x))) ∙ length-append (flat_map f kept) (f x)
    in
    subst (λ b. length (flat_map f (fold (add_first like) (cond b kept (kept ++ x ∷ [])) xs)) ≤ length (flat_map f kept) + length (f x ++
    flat_map f xs))
    (sym g) (omega (arith, rest, long, more))))
    (cases_Bool (list_any (λ y. like y x) kept))

pub first_extends : (needs : ℕ → ℕ → Bool) (n : ℕ) (class : Class) (level : List Class) → ((j : ℕ) → has_place class.members j ≡ false)
    → level ≡ [] ++ class ∷ [] → flat_map (extensions needs n 0) level ≡ every needs n
first_extends needs n class level none e =
    let z : n - 0 ≡ n = omega arith in
    ap (flat_map (extensions needs n 0)) e ∙ append-nil (extending needs (n - 0) 0 []) ∙ ap (λ m. extending needs m 0 []) z ∙ sym (every_is
    needs n)

pub fewer_firsts : (needs : ℕ → ℕ → Bool) (n k : ℕ) (level next kept : List Class) → kept ≡ firsts one_key next
    → flat_map (extensions needs n (k + 1)) next ≡ flat_map (extensions needs n k) level
    → length (flat_map (extensions needs n k) level) ≤ length (every needs n)
    → length (flat_map (extensions needs n (k + 1)) kept) ≤ length (every needs n)
fewer_firsts needs n k level next kept is grown few =
    let a = ap (λ v. length (flat_map (extensions needs n (k + 1)) v)) is in
    let b = fewer_kept one_key (extensions needs n (k + 1)) next [] in
    let c = ap length grown in
    omega (arith, a, b, c, few)
