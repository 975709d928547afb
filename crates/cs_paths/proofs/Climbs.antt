-- The path of a directory, one step up.
use Rattle.std.proofs.Common.{◌≡◌, ◌≢◌, ℕ, zero, suc, ◌-◌, ◌++◌, cond, [], ◌∷◌, refl, ap, ◌∙◌, arith}
use Rattle.std.proofs.lemmas.Bool.{eq-eqb, ne_eqb}
use Rattle.cs_entries.specs.declared.entry.Entry.{Entry}
use Rattle.cs_entries.specs.Positions.{climb}

module _ (at : ℕ → Entry) where
  pub climb_nowhere : (deep d : ℕ) → deep ≡ 0 → climb at deep d ≡ []
  climb_nowhere zero d is = refl
  climb_nowhere (suc deep) d is = absurd (omega (arith, is))

  pub climb_root : (deep d : ℕ) → d ≡ 0 → climb at deep d ≡ []
  climb_root zero d is = refl
  climb_root (suc deep) d is =
      ap (λ b. cond b [] (climb at deep (at d).directory ++ (at d).name ∷ [])) (eq-eqb d 0 is)

  pub climb_up : (deep d : ℕ) → deep ≢ 0 → d ≢ 0 → climb at deep d ≡ climb at (deep - 1) (at d).directory ++ (at d).name ∷ []
  climb_up zero d some below = absurd (some refl)
  climb_up (suc deep) d some below =
      (let less : deep ≡ suc deep - 1 = omega arith in
      ap (λ b. cond b [] (climb at deep (at d).directory ++ (at d).name ∷ [])) (ne_eqb d 0 below)
      ∙ ap (λ n. climb at n (at d).directory ++ (at d).name ∷ []) less)
