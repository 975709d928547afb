-- A read that finds no block, or no byte.
use Rattle.std.proofs.Common.{◌≡◌, ◌≢◌, ℕ, ◌+◌, ◌-◌, ◌/◌, ◌%◌, ◌≤◌, nat_lt, Bool, false, cond, min, List, [], ◌∷◌, map, take, drop, length}
use Rattle.std.proofs.Common.{slice_index, Option, None, refl, sym, ap, ◌∙◌, arith}
use Rattle.std.proofs.lemmas.Bool.{le-ltb}
use Rattle.std.proofs.lemmas.List.FromFn.{length-map-range_with_len, fill_by_all}
use Rattle.std.specs.BTreeMap.{is_at}
use Rattle.std.specs.List.{range_with_len}
use Rattle.std.specs.Map.{lookup}
use Rattle.std.specs.Option.{option_map_or}
use Rattle.std.specs.Ordering.{nat_cmp}
use Rattle.cs_overlay.specs.Patch.{byte_at, bytes_of, IsShown}
use Rattle.cs_overlay.proofs.Patching.{read_range}
use Rattle.cs_overlay.proofs.Pieces.{all_shown, shifted}

-- a map without entries finds nothing
pub none_of_none : {K X : Type 0} (test : K → Bool) (es : List (K × X)) → length es ≡ 0 → lookup test es ≡ None
none_of_none test [] e = refl
none_of_none test (x ∷ es) e = absurd (omega (arith, e))

pub no_blocks : {X : Type 0} (es : List (ℕ × X)) → length es ≡ 0 → (q : ℕ) → lookup (is_at (nat_cmp q)) es ≡ None
no_blocks es e q = none_of_none (is_at (nat_cmp q)) es e

module _ (f : ℕ → ℕ) (offset count size n : ℕ) (is : n ≡ min count (size - offset)) where
  pub no_bytes : n ≡ 0 → [] ≡ take count (drop offset (map f (range_with_len 0 size)))
  no_bytes none = ap (λ k. map f (range_with_len offset k)) (sym none) ∙ read_range f offset count size n is

  pub some_bytes : n ≢ 0 → take count (drop offset (map f (range_with_len 0 size))) ≢ []
  some_bytes some e = some (sym (length-map-range_with_len f offset n) ∙ ap length (read_range f offset count size n is ∙ e))

-- if there are no blocks, what shows of the lower file is all
pub shown_alone : (lower : List ℕ) (kept : ℕ) (blocks : ℕ → Option (List ℕ)) (offset n : ℕ) (shown : List ℕ) → ((q : ℕ) → blocks q ≡ None)
    → IsShown lower kept offset n shown → length shown ≡ n
    → shown ≡ map (byte_at lower kept blocks) (range_with_len offset n)
shown_alone lower kept blocks offset n shown none is long =
    fill_by_all (λ k. byte_at lower kept blocks (offset + k)) shown n 0 long
    (λ k lt. let z : offset + k - offset ≡ k = omega arith in
    ap (slice_index shown) (sym z) ∙ is (offset + k) (omega arith) (omega (arith, lt))
    ∙ sym (ap
    (λ o. option_map_or (λ b. slice_index b ((offset + k) % 4096)) o
    (cond (nat_lt (offset + k) kept) (slice_index lower (offset + k)) 0)) (none ((offset + k) / 4096))))
    ∙ shifted (λ k. byte_at lower kept blocks (offset + k)) (byte_at lower kept blocks) 0 offset n
    (λ i lt. (let z : 0 + i ≡ i = omega arith in ap (λ j. byte_at lower kept blocks (offset + j)) z))

-- a file that is the lower one
module _ (lower : List ℕ) (blocks : ℕ → Option (List ℕ)) (none : (q : ℕ) → blocks q ≡ None) where
  blocks_are : blocks ≡ (λ q. None)
  blocks_are = λ i q. none q i

  pub all_lower : (size : ℕ) → length lower ≡ size → bytes_of lower size blocks size ≡ lower
  all_lower size long = (λ i. bytes_of lower (sym long i) (blocks_are i) (sym long i)) ∙ all_shown lower

  pub nothing_hidden : (size i : ℕ) → size ≤ i → byte_at lower size blocks i ≡ 0
  nothing_hidden size i le =
      ap (λ b. byte_at lower size b i) blocks_are ∙
      (let u : nat_lt i size ≡ false = le-ltb _ _ le in ap (λ b. cond b (slice_index lower i) 0) u)
