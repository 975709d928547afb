-- The members by what is needed directly are those by what is needed by any chain.
use Rattle.std.proofs.Common.{◌≡◌, ℕ, zero, suc, ◌+◌, ◌<◌, ◌==◌, ◌&&◌, ◌||◌, not, Bool, true, false, cond, inl, inr}
use Rattle.std.proofs.Common.{List, [], ◌∷◌, ◌++◌, refl, sym, ap, ◌∙◌, arith, ⊎_elim, get_or}
use Rattle.std.proofs.lemmas.Bool.{cases_Bool, false≢true, eqb-true, and_from, and_parts, or_cases, or_right}
use Rattle.std.proofs.lemmas.List.Elements.{All-weaker}
use Rattle.std.specs.List.{flat_map}
use Rattle.cs_sets.specs.Sets.{IsAllowed, is_member}
use Rattle.cs_sets.specs.Every.{may, choices, every}
use Rattle.cs_sets.specs.Chains.{IsBackward, by_chain}
use Rattle.cs_sets.specs.Laws.Chains.{any_at, any_in, chain_found, chain_step}
use Rattle.cs_sets.specs.Reach.{IsReach}
use Rattle.cs_sets.specs.Reach.{IsTransitive}
use Rattle.cs_sets.specs.Laws.Lists.{flat_agree, all_same}
use Rattle.cs_sets.specs.Laws.Members.{contains_has, found_has, may_from, may_says}
use Rattle.cs_sets.specs.Laws.Complete.{each_allowed}

module _ (needs reach : ℕ → ℕ → Bool) (is : IsReach needs reach) where
  -- a set with what its places need directly has what they need by any chain
  pub closed : (f m : ℕ) → m < f → (k : ℕ) (places : List ℕ) → IsAllowed needs k places
      → is_member places m ≡ true → (i : ℕ) → reach i m ≡ true
      → is_member places i ≡ true
  closed zero m fuel k places allowed here i r = absurd (omega (arith, fuel))
  closed (suc f) m fuel k places allowed here i r =
      let step = is.last_step i m r in
      let at = found_has places m here in
      let there : is_member places step.0 ≡ true =
      contains_has places step.0 (allowed.closed at.0 step.0 at.1
      (ap (needs step.0) at.2 ∙ step.1.0)) in
      let low = is.backward step.0 m step.1.0 in
      ⊎_elim
      (λ (e : i ≡ step.0). ap (is_member places) e ∙ there)
      (λ (s : reach i step.0 ≡ true). closed f step.0 (omega (arith, fuel, low)) k places allowed
      there i s)
      step.1.1

  may_reach : (k : ℕ) (places : List ℕ) → IsAllowed needs k places → may needs k places k
      ≡ may reach k places k
  may_reach k places allowed = ⊎_elim
      (λ (t : may needs k places k ≡ true). t ∙ sym (may_from reach k places k (λ i low r.
      (let step = is.last_step i k r in
      let there = may_says needs k places k step.0 t (is.backward step.0 k step.1.0) step.1.0 in
      ⊎_elim
      (λ (e : i ≡ step.0). ap (is_member places) e ∙ there)
      (λ (s : reach i step.0 ≡ true). closed (step.0 + 1) step.0 (omega arith) k places allowed
      there i s)
      step.1.1))))
      (λ (f : may needs k places k ≡ false). f ∙ sym (⊎_elim
      (λ (t : may reach k places k ≡ true). absurd (false≢true
      (sym f ∙ may_from needs k places k (λ i low d.
      may_says reach k places k i t low (is.direct i k d)))))
      (λ (g : may reach k places k ≡ false). g)
      (cases_Bool (may reach k places k))))
      (cases_Bool (may needs k places k))

  pub every_reach : (n : ℕ) → every needs n ≡ every reach n
  every_reach zero = refl
  every_reach (suc k) =
      flat_agree (choices needs k) (choices reach k) (every needs k)
      (All-weaker (IsAllowed needs k) (λ places. choices needs k places ≡ choices reach k places)
      (λ places allowed. ap (λ b. places ∷ cond b ((places ++ k ∷ []) ∷ []) [])
      (may_reach k places allowed))
      (every needs k) (each_allowed needs is.backward k))
      ∙ ap (flat_map (choices reach k)) (every_reach k)

  passed_on : (f i j k : ℕ) → k < f → reach i j ≡ true → reach j k ≡ true → reach i k ≡ true
  passed_on zero i j k fuel r s = absurd (omega (arith, fuel))
  passed_on (suc f) i j k fuel r s =
      let step = is.last_step j k s in
      let low = is.backward step.0 k step.1.0 in
      is.longer i step.0 k
      (⊎_elim
      (λ (e : j ≡ step.0). ap (reach i) (sym e) ∙ r)
      (λ (t : reach j step.0 ≡ true). passed_on f i j step.0 (omega (arith, fuel, low)) r t)
      step.1.1)
      step.1.0

  pub reach_transitive : IsTransitive reach
  reach_transitive i j k r s = passed_on (k + 1) i j k (omega arith) r s

-- tests that agree below n have the same members
pub every_same : (p q : ℕ → ℕ → Bool) (n : ℕ) → ((i j : ℕ) → j < n → p i j ≡ q i j) → every p n
    ≡ every q n
unfolding may
every_same p q zero same = refl
every_same p q (suc k) same =
    ap (flat_map (choices p k)) (every_same p q k (λ i j low. same i j (omega (arith, low))))
    ∙ flat_agree (choices p k) (choices q k) (every q k)
    (λ i d low. ap (λ b. get_or (every q k) i d ∷ cond b ((get_or (every q k) i d ++ k ∷ []) ∷ [])
    []) (may_same (get_or (every q k) i d)))
  where
    may_same : (places : List ℕ) → may p k places k ≡ may q k places k
    may_same places =
        all_same (λ i. not (p i k) || is_member places i) (λ i. not (q i k) || is_member places i) 0
        k
        (λ i l u. ap (λ b. not b || is_member places i) (same i k (omega arith)))

-- needs by any chain are such a test
pub chains_reach : (needs : ℕ → ℕ → Bool) → IsBackward needs → IsReach needs (by_chain needs)
chains_reach needs back = record {
  backward = back;
  direct = λ i k is. chain_found needs back 0 i k is;
  longer = λ i m k r is. chain_step needs i k
      ∙ any_at (λ v. needs v k && (i == v || by_chain needs i v)) m k (back m k is)
      (and_from (needs m k) (i == m || by_chain needs i m) is
      (or_right (i == m) (by_chain needs i m) r));
  last_step = λ i k r.
      let w = any_in (λ v. needs v k && (i == v || by_chain needs i v)) 0 k
      (sym (chain_step needs i k) ∙ r) in
      let parts = and_parts (needs w.0 k) (i == w.0 || by_chain needs i w.0) w.1 in (
        w.0,
        (
          parts.0,
          ⊎_elim
              (λ (e : (i == w.0) ≡ true). inl (eqb-true i w.0 e))
              (λ (s : by_chain needs i w.0 ≡ true). inr s)
              (or_cases (i == w.0) (by_chain needs i w.0) parts.1),
        ),
      );
}

-- nothing that comes later is needed
pub chains_backward : (needs : ℕ → ℕ → Bool) → IsBackward needs → IsBackward (by_chain needs)
chains_backward needs back i k r = downward (k + 1) k (omega arith) r
  where
    downward : (f m : ℕ) → m < f → by_chain needs i m ≡ true → i < m
    downward zero m fuel r = absurd (omega (arith, fuel))
    downward (suc f) m fuel r =
        let step = (chains_reach needs back).last_step i m r in
        let low = back step.0 m step.1.0 in
        ⊎_elim
        (λ (e : i ≡ step.0). omega (arith, e, low))
        (λ (s : by_chain needs i step.0 ≡ true).
        (let less = downward f step.0 (omega (arith, fuel, low)) s in omega (arith, less, low)))
        step.1.1
