-- Entries of the table.
use Rattle.cs_trace_lines.specs.declared.profile.Profile.{Profile}
use Rattle.cs_trace_lines.specs.declared.version.Version.{Version}
use Rattle.std.proofs.Common.{◌≡◌, ℕ, zero, suc, ◌∷◌, ◌+◌, ◌<◌, ◌≤◌, Bool, false, List, [], length, map, get_or, refl, sym, ap, ◌∙◌}
use Rattle.std.proofs.Common.{⊎_elim, arith}
use Rattle.std.proofs.lemmas.Bool.{cases_lt}
use Rattle.std.proofs.lemmas.List.{get_or_past}
use Rattle.std.proofs.lemmas.List.FromFn.{get_or-map-range_with_len, length-map-range_with_len}
use Rattle.std.specs.List.{range_with_len}
use Rattle.cs_micro.specs.declared.micro_op.MicroOp.{MicroOp}
use Rattle.cs_micro.specs.declared.sync_point.SyncPoint.{SyncPoint}
use Rattle.cs_apm.specs.Rules.{needs}
use Rattle.cs_sets.specs.Orders.{table, needs_in}
use Rattle.cs_apm.proofs.Filling.{needs_later}

pub length_table : (need : ℕ → ℕ → Bool) (n : ℕ) → length (table need n) ≡ n
unfolding table
length_table need n = length-map-range_with_len (λ j. map (λ i. need i j) (range_with_len 0 j)) 0 n

pub entry : (need : ℕ → ℕ → Bool) (n i j : ℕ) → ((a b : ℕ) → b ≤ a → need a b ≡ false) → j < n → needs_in (table need n) i j ≡ need i j
unfolding table needs_in
entry need n i j later low =
    ap (λ r. get_or r i false) (get_or-map-range_with_len (λ j. map (λ i. need i j) (range_with_len 0 j)) 0 n j j [] low (omega arith))
    ∙ ⊎_elim
    (λ (l : i < j). get_or-map-range_with_len (λ i. need i j) 0 j i i false l (omega arith))
    (λ (h : j ≤ i). get_or_past (map (λ i. need i j) (range_with_len 0 j)) i false
    (omega (arith, h, length-map-range_with_len (λ i. need i j) 0 j)) ∙ sym (later i j h))
    (cases_lt i j)

pub entry_of_rules : (ops : List MicroOp) (syncs : List SyncPoint) (version : Version) (profile : Profile) (n i j : ℕ) → j < n
    → needs_in (table (needs ops syncs version profile) n) i j ≡ needs ops syncs version profile i j
entry_of_rules ops syncs version profile n i j low =
    entry (needs ops syncs version profile) n i j (λ a b h. needs_later ops syncs version profile a b h) low

map_same : {X : Type 0} (f g : ℕ → X) (a n : ℕ) → ((k : ℕ) → k < a + n → f k ≡ g k)
    → map f (range_with_len a n) ≡ map g (range_with_len a n)
map_same f g a zero same = refl
map_same f g a (suc n) same =
    ap (λ x. x ∷ map f (range_with_len (a + 1) n)) (same a (omega arith)) ∙ ap (λ xs. g a ∷ xs)
    (map_same f g (a + 1) n (λ k l. same k (omega (arith, l))))

pub table_same : (p q : ℕ → ℕ → Bool) (n : ℕ) → ((i j : ℕ) → j < n → p i j ≡ q i j) → table p n ≡ table q n
unfolding table
table_same p q n same =
    map_same (λ j. map (λ i. p i j) (range_with_len 0 j)) (λ j. map (λ i. q i j) (range_with_len 0 j)) 0 n
    (λ j l. map_same (λ i. p i j) (λ i. q i j) 0 j (λ i m. same i j (omega (arith, l))))
