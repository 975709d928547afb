-- Sums and products that are compared only below a bound.
use Rattle.std.proofs.Common.{◌≡◌, ℕ, ◌+◌, ◌*◌, ◌<◌, ◌≤◌, min, ap, arith, ⊎_elim}
use Rattle.std.proofs.lemmas.Bool.{cases_lt}
use Rattle.std.proofs.Math.Nat.{mul-le-mul_left}
use Rattle.cs_sets.specs.Counting.{Capped}

pub capped_plus : (most a b c d : ℕ) → Capped most a b → Capped most c d
    → Capped most (a + c) (b + d)
capped_plus most a b c d e f = omega (arith, e, f)

at_least : (c x : ℕ) → 1 ≤ x → c ≤ c * x
at_least c x one = let h = mul-le-mul_left c one in let e : c * 1
    ≡ c = omega arith in omega (arith, h, e)

pub capped_times : (most c d x : ℕ) → 1 ≤ x → Capped most c d → Capped most (c * x) (d * x)
capped_times most c d x one e = ⊎_elim
    (λ (l : c < most). (let f : c ≡ d = omega (arith, l, e) in ap (λ v. min (v * x) most) f))
    (λ (h : most ≤ c). (let p = at_least c x one in let q = at_least d x one in omega
    (arith, h, e, p, q)))
    (cases_lt c most)
