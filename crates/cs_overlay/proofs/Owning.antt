-- Copies of blocks that no read shows.
use Rattle.std.proofs.Common.{◌≡◌, ◌≢◌, ℕ, ◌+◌, ◌-◌, ◌*◌, ◌/◌, ◌%◌, ◌<◌, ◌≤◌, ◌==◌, nat_lt, true, false, cond, List, ◌++◌, length}
use Rattle.std.proofs.Common.{replicate, slice_index, Option, None, Some, IsSome, IfSome, refl, sym, ap, ◌∙◌, ⊎_elim, arith, length-append}
use Rattle.std.proofs.lemmas.List.{append-nil}
use Rattle.std.proofs.lemmas.Bool.{false≢true, cases_lt, cases_eq, lt-ltb, le-ltb, eq-eqb, ne_eqb}
use Rattle.std.specs.Option.{option_map, option_map_or, is_some}
use Rattle.std.specs.Ordering.{nat_cmp, is_eq}
use Rattle.cs_tree_model.specs.Laws.Bytes.{zeros_behind}
use Rattle.cs_overlay.specs.Patch.{byte_at, AreLonger, Reaches}

-- a map with one entry set
module _ (blocks new : ℕ → Option (List ℕ)) (k : ℕ) (t : List ℕ)
    (goes : (q : ℕ) → new q ≡ cond (is_eq (nat_cmp k q)) (Some t) (blocks q)) where
  set_here : (q : ℕ) → q ≡ k → new q ≡ Some t
  set_here q e = let t : k == q ≡ true = eq-eqb _ _ (sym e) in let u : nat_lt k q ≡ false = le-ltb _ _ (omega (arith, e)) in
      goes q ∙ rw (t, u) refl

  set_other : (q : ℕ) → q ≢ k → new q ≡ blocks q
  set_other q ne = let t : k == q ≡ false = ne_eqb _ _ (λ e. ne (sym e)) in ⊎_elim
      (λ (a : k < q). let u : nat_lt k q ≡ true = lt-ltb _ _ a in goes q ∙ rw (t, u) refl)
      (λ (a : q ≤ k). let u : nat_lt k q ≡ false = le-ltb _ _ a in goes q ∙ rw (t, u) refl)
      (cases_lt k q)

  pub are_longer : (s : List ℕ) → blocks k ≡ Some s → (longer : (z : ℕ) × (t ≡ s ++ replicate z 0)) → AreLonger blocks new
  are_longer s here longer q = ⊎_elim
      (λ (e : q ≡ k).
      (longer.0, set_here q e ∙ ap Some longer.1 ∙ sym (ap (option_map (λ v. v ++ replicate longer.0 0)) (ap blocks e ∙ here))))
      (λ (ne : q ≢ k). (0, set_other q ne ∙ by (blocks q)))
      (cases_eq q k)
    where
      by : (o : Option (List ℕ)) → o ≡ option_map (λ v. v ++ replicate 0 0) o
      by None = refl
      by (Some v) = ap Some (sym (append-nil v))

  module _ (none : blocks k ≡ None) where
    pub own_reaches : (a b : ℕ) → Reaches blocks a b → Reaches new a b
    own_reaches a b r i lo hi = (let o = r i lo hi in
        (o.0, set_other (i / 4096) (λ e. false≢true (ap is_some (sym none ∙ ap blocks (sym e) ∙ o.1))) ∙ o.1, o.2))

module _ (blocks new : ℕ → Option (List ℕ)) (longer : AreLonger blocks new) where
  pub longer_byte : (lower : List ℕ) (kept i : ℕ) → byte_at lower kept new i ≡ byte_at lower kept blocks i
  longer_byte lower kept i =
      ap (λ o. option_map_or (λ b. slice_index b (i % 4096)) o (cond (nat_lt i kept) (slice_index lower i) 0)) (longer (i / 4096)).1 ∙ by
      (blocks (i / 4096))
    where
      by : (o : Option (List ℕ))
          → option_map_or (λ b. slice_index b (i % 4096)) (option_map (λ s. s ++ replicate (longer (i / 4096)).0 0) o)
          (cond (nat_lt i kept) (slice_index lower i) 0)
          ≡ option_map_or (λ b. slice_index b (i % 4096)) o (cond (nat_lt i kept) (slice_index lower i) 0)
      by None = refl
      by (Some s) = zeros_behind s (longer (i / 4096)).0 (i % 4096)

  pub longer_reaches : (a b : ℕ) → Reaches blocks a b → Reaches new a b
  longer_reaches a b r i lo hi = (let o = r i lo hi in let l = longer (i / 4096) in (
    o.0 ++ replicate l.0 0,
    l.1 ∙ ap (option_map (λ s. s ++ replicate l.0 0)) o.1,
    omega
        (arith, o.2, length-append o.0 (replicate l.0 0)),
  ))

pub absent : {A : Type 0} (o : Option A) → is_some o ≡ false → o ≡ None
absent None e = refl
absent (Some x) e = absurd (false≢true (sym e))

pub longer_there : (blocks new : ℕ → Option (List ℕ)) → AreLonger blocks new → (k n : ℕ) → IsSome (blocks k)
    → IfSome (new k) (λ s. n ≤ length s) → (s : List ℕ) × (new k ≡ Some s) × (n ≤ length s)
longer_there blocks new longer k n some all = by (blocks k) (new k) some (longer k).1 refl all
  where
    by : (o p : Option (List ℕ)) → IsSome o → p ≡ option_map (λ s. s ++ replicate (longer k).0 0) o → new k ≡ p
        → IfSome p (λ s. n ≤ length s) → (s : List ℕ) × (new k ≡ Some s) × (n ≤ length s)
    by None p is e f h = absurd (false≢true is)
    by (Some v) None is e f h = absurd (false≢true (ap is_some e))
    by (Some v) (Some s) is e f h = (s, f, h)

-- a block more is reached
pub reaches_more : (blocks new : ℕ → Option (List ℕ)) (offset at stop : ℕ) → ((a b : ℕ) → Reaches blocks a b → Reaches new a b)
    → Reaches blocks offset at → stop ≤ (at / 4096 + 1) * 4096
    → (s : List ℕ) × (new (at / 4096) ≡ Some s) × (stop - at / 4096 * 4096 ≤ length s) → Reaches new offset stop
reaches_more blocks new offset at stop keeps was in_block there i lo hi = ⊎_elim
    (λ (lt : i < at). keeps offset at was i lo lt)
    (λ (ge : at ≤ i).
    (let same : i / 4096 ≡ at / 4096 = omega (arith, ge, hi, in_block) in
    (there.0, ap new same ∙ there.1, omega (arith, there.2, same, hi))))
    (cases_lt i at)
