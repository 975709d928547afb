-- Sets that have both halves of each rename.
use Rattle.std.proofs.Common.{◌≡◌, ℕ, ◌+◌, ◌<◌, ◌≤◌, true, List, length, get_or, ap, ◌∙◌, sym, subst, arith, ⊎_elim}
use Rattle.std.proofs.lemmas.Bool.{cases_eq, cases_lt}
use Rattle.std.proofs.lemmas.List.{get_or_default}
use Rattle.std.specs.List.{Contains}
use Rattle.cs_micro.specs.declared.micro_op.MicroOp.{MicroOp}
use Rattle.cs_apm.specs.Profiles.{HasBothHalves}
use Rattle.cs_apm.specs.Rules.{is_first_half, op_at}

abbrev pub Ascend : List ℕ → Type 0
Ascend places = (a b : ℕ) → a < b → b < length places → get_or places a 0 < get_or places b 0

-- the first so many
abbrev pub HasFirstHalves : List MicroOp → List ℕ → ℕ → Type 0
HasFirstHalves ops places n = (a : ℕ) → a < n → is_first_half (op_at ops (get_or places a 0)) ≡ true
    → Contains places (get_or places a 0 + 1)

-- the place behind one is there only as the next
pub next_there : (places : List ℕ) → Ascend places → (a : ℕ) → a < length places → Contains places (get_or places a 0 + 1)
    → (a + 1 < length places) × (get_or places (a + 1) 0 ≡ get_or places a 0 + 1)
next_there places up a low there =
    let b = there.0 in
    let inside = there.1 in
    let is : get_or places b 0 ≡ get_or places a 0 + 1 =
    get_or_default places b 0 (get_or places a 0 + 1) inside ∙ there.2 in
    ⊎_elim
    (λ (h : b < a). let less = up b a h low in absurd (omega (arith, is, less)))
    (λ (h : a ≤ b). ⊎_elim
    (λ (e : a ≡ b). absurd (let same = ap (λ k. get_or places k 0) e in omega (arith, is, same)))
    (λ (ne : a ≡ b → ⊥). ⊎_elim
    (λ (e : a + 1 ≡ b). (omega (arith, e, inside), ap (λ k. get_or places k 0) e ∙ is))
    (λ (other : a + 1 ≡ b → ⊥).
    let behind : a + 1 < b = omega (arith, h, ne, other) in
    let first = up a (a + 1) (omega arith) (omega (arith, behind, inside)) in
    let second = up (a + 1) b behind inside in
    absurd (omega (arith, is, first, second)))
    (cases_eq (a + 1) b))
    (cases_eq a b))
    (cases_lt b a)

pub all_halves : (ops : List MicroOp) (places : List ℕ) → HasFirstHalves ops places (length places) → HasBothHalves ops places
all_halves ops places h i there half =
    let is : get_or places there.0 0 ≡ i = get_or_default places there.0 0 i there.1 ∙ there.2 in
    subst (λ k. Contains places (k + 1)) is
    (h there.0 there.1 (ap (λ k. is_first_half (op_at ops k)) is ∙ half))

pub contains_at : (places : List ℕ) (a : ℕ) → a < length places → Contains places (get_or places a 0)
contains_at places a low = (a, low, sym (get_or_default places a 0 (get_or places a 0) low))

-- one place more
pub halves_more : (ops : List MicroOp) (places : List ℕ) (n : ℕ) → HasFirstHalves ops places n
    → (is_first_half (op_at ops (get_or places n 0)) ≡ true → Contains places (get_or places n 0 + 1)) → HasFirstHalves ops places (n + 1)
halves_more ops places n so_far here a below half = ⊎_elim
    (λ (low : a < n). so_far a low half)
    (λ (high : n ≤ a).
    (let same : n ≡ a = omega (arith, below, high) in
    subst (λ k. Contains places (get_or places k 0 + 1)) same
    (here (ap (λ k. is_first_half (op_at ops (get_or places k 0))) same ∙ half))))
    (cases_lt a n)

pub followed : (places : List ℕ) (a : ℕ) → (a + 1 < length places) × (get_or places (a + 1) 0 ≡ get_or places a 0 + 1)
    → Contains places (get_or places a 0 + 1)
followed places a both = (a + 1, both.0, get_or_default places (a + 1) (get_or places a 0 + 1) 0 both.0 ∙ both.1)
