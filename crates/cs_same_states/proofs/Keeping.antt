-- If an operation that fails a test changes nothing, only those that pass it decide what a set
-- leaves.
use Rattle.std.proofs.Common.{◌≡◌, ℕ, zero, suc, ◌<◌, Bool, true, false, cond, List, [], ◌∷◌, ◌++◌, ◌⊎◌, inl, inr, length, get_or, map}
use Rattle.std.proofs.Common.{refl, sym, ap, ◌∙◌, arith, Result, Ok, Err, IfOk}
use Rattle.std.specs.Prelude.{fold}
use Rattle.cs_micro.specs.declared.micro_op.MicroOp.{MicroOp}
use Rattle.cs_apm.specs.Rules.{op_at}
use Rattle.cs_state.specs.Steps.{items_that_pass}

module _ (S : Type 0) (after : S → MicroOp → S) (test : MicroOp → Bool) (keeps : (s : S) (o : MicroOp) → test o ≡ false → after s o ≡ s)
    (ops : List MicroOp) where
  abbrev passes : ℕ → Bool
  passes k = test (op_at ops k)

  abbrev left : S → List ℕ → S
  left s places = fold after s (map (op_at ops) places)

  kept : (s : S) (places : List ℕ) → left s places ≡ left s (items_that_pass passes places)
  kept s [] = refl
  kept s (k ∷ places) = by (passes k) refl (λ v. kept v places)
    where
      by : (b : Bool) → passes k ≡ b → ((v : S) → left v places ≡ left v (items_that_pass passes places))
          → left (after s (op_at ops k)) places ≡ left s (cond b (k ∷ []) [] ++ items_that_pass passes places)
      by true is rest = rest (after s (op_at ops k))
      by false is rest = ap (λ v. left v places) (keeps s (op_at ops k) is) ∙ rest s

  pub same_left : (s : S) (places others : List ℕ) → items_that_pass passes places ≡ items_that_pass passes others
      → left s places ≡ left s others
  same_left s places others same = kept s places ∙ ap (left s) same ∙ sym (kept s others)

-- one of the places passes the test, or none is picked
pub some_or_none : (f : ℕ → Bool) (places : List ℕ) → ((k : ℕ) × (k < length places) × (f (get_or places k 0) ≡ true))
    ⊎ (items_that_pass f places ≡ [])
some_or_none f [] = inr refl
some_or_none f (place ∷ places) = by (f place) refl (some_or_none f places)
  where
    by : (b : Bool) → f place ≡ b → ((k : ℕ) × (k < length places) × (f (get_or places k 0) ≡ true)) ⊎ (items_that_pass f places ≡ [])
        → ((k : ℕ) × (k < length (place ∷ places)) × (f (get_or (place ∷ places) k 0) ≡ true))
        ⊎ (cond b (place ∷ []) [] ++ items_that_pass f places ≡ [])
    by true is rest = inl (zero, omega arith, is)
    by false is (inl w) = inl (suc w.0, (let l = w.1 in omega (arith, l)), w.2)
    by false is (inr none) = inr none

-- what is known of a result by several clauses
pub if_ok_by : {A E : Type 0} {P Q R : A → Type 0} (r : Result A E) → ((a : A) → P a → Q a → R a) → IfOk r P → IfOk r Q → IfOk r R
if_ok_by (Ok a) f p q = f a p q
if_ok_by (Err e) f p q = tt

pub if_ok_by_all : {A E : Type 0} {P Q R S : A → Type 0} (r : Result A E) → ((a : A) → P a → Q a → R a → S a) → IfOk r P → IfOk r Q
    → IfOk r R → IfOk r S
if_ok_by_all (Ok a) f p q s = f a p q s
if_ok_by_all (Err e) f p q s = tt
