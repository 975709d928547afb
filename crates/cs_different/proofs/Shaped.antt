-- Sets that leave the same have one shape.
use Rattle.std.proofs.Common.{◌≡◌, ℕ, ◌<◌, Bool, true, List, ap, ◌∙◌, sym, arith, get_or, length, map}
use Rattle.std.proofs.lemmas.List.{get_or-map, length-map}
use Rattle.std.specs.List.{All}
use Rattle.cs_apm.specs.Atlases.{atlas_in}
use Rattle.cs_plan.specs.Scenes.{Scene, micros_of}
use Rattle.cs_same_states.specs.Parts.{AreParts}
use Rattle.cs_same_states.specs.declared.parts.Parts.{Parts}
use Rattle.cs_sets.specs.declared.row.Row.{Row}
use Rattle.cs_sets.specs.Places.{places_of}
use Rattle.cs_different.specs.Sets.{IsLeavable, leave_same}
use Rattle.cs_different.specs.Shapes.{AreShared, shape_left}
use Rattle.cs_different.proofs.Alike.{left_told}
use Rattle.cs_different.proofs.RootNames.{same_shape}

module _ (s : Scene) (parts : Parts) (are : AreParts s.trace parts) where
  one_shape : (a b : List ℕ) → IsLeavable s a → IsLeavable s b → leave_same s a b ≡ true
      → shape_left parts.tables a ≡ shape_left parts.tables b
  one_shape a b ia ib t = same_shape s.trace (micros_of s) (atlas_in parts.tables) are.atlas a b ia ib ((left_told s a b).0 t).trees

  pub both_shared : (shared : ℕ → Bool) (y x : List ℕ) → IsLeavable s y → IsLeavable s x → leave_same s y x ≡ true
      → shared (shape_left parts.tables x) ≡ true → shared (shape_left parts.tables y) ≡ true
  both_shared shared y x iy ix l t = ap shared (one_shape y x iy ix l) ∙ t

  -- a set before one with a shape of its own doesn't leave the same
  pub shape_apart : (shared : ℕ → Bool) (rows : List Row) (shapes : List ℕ)
      → shapes ≡ map (λ (row : Row). shape_left parts.tables (places_of row)) rows → AreShared shared shapes
      → All (λ (row : Row). IsLeavable s (places_of row)) rows → (i : ℕ) (d : Row) → i < length rows
      → (shared (get_or shapes i 0) ≡ true → ⊥)
      → (k : ℕ) → k < i → leave_same s (places_of (get_or rows k d)) (places_of (get_or rows i d)) ≡ true → ⊥
  shape_apart shared rows shapes is are_shared all i d low alone k below l =
      let shape : Row → ℕ = λ row. shape_left parts.tables (places_of row) in
      let at_k : get_or shapes k 0 ≡ shape (get_or rows k d) =
      ap (λ v. get_or v k 0) is ∙ get_or-map shape rows k d 0 (omega (arith, below, low)) in
      let at_i : get_or shapes i 0 ≡ shape (get_or rows i d) = ap (λ v. get_or v i 0) is ∙ get_or-map shape rows i d 0 low in
      let long : length shapes ≡ length rows = ap length is ∙ length-map rows shape in
      alone (are_shared k i below (omega (arith, long, low))
      (at_k
      ∙ one_shape (places_of (get_or rows k d)) (places_of (get_or rows i d)) (all k d (omega (arith, below, low))) (all i d low) l
      ∙ sym at_i))
