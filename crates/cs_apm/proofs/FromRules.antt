-- Rows that say what the rules say.
use Rattle.std.proofs.Common.{◌≡◌, ℕ, zero, suc, ◌<◌, ◌≤◌, Bool, false, List, [], ◌∷◌, Some, length, refl, sym, ap, ◌∙◌, subst, ⊎_elim, arith}
use Rattle.std.proofs.lemmas.Bool.{cases_lt, false≢true}
use Rattle.std.proofs.lemmas.Option.{slice_get_past}
use Rattle.std.specs.Prelude.{slice_get}
use Rattle.std.specs.Option.{option_map_or}
use Rattle.cs_trace_lines.specs.declared.profile.Profile.{Profile}
use Rattle.cs_trace_lines.specs.declared.version.Version.{Version}
use Rattle.cs_sets.specs.declared.row.Row.{Row}
use Rattle.cs_sets.specs.Bits.{has_place}
use Rattle.cs_micro.specs.declared.micro_op.MicroOp.{MicroOp}
use Rattle.cs_micro.specs.declared.sync_point.SyncPoint.{SyncPoint}
use Rattle.cs_apm.specs.Rules.{needs}
use Rattle.cs_apm.specs.Rows.{AreRows}
use Rattle.cs_sets.specs.Rows.{bit_in}
use Rattle.cs_apm.proofs.Filling.{needs_later}
use Rattle.cs_sets.specs.Chains.{IsBackward}

there_at : (rows : List Row) (j : ℕ) → j < length rows → (row : Row) × (slice_get rows j ≡ Some row)
there_at [] j low = absurd (omega (arith, low))
there_at (row ∷ rows) zero low = (row, refl)
there_at (row ∷ rows) (suc j) low = there_at rows j (omega (arith, low))

pub row_says : (need : ℕ → ℕ → Bool) (n : ℕ) (rows : List Row) → AreRows need n rows → (i j : ℕ) → j < n
    → bit_in rows i j ≡ need i j
unfolding bit_in
row_says need n rows are i j low =
    let there = there_at rows j (subst (λ m. j < m) (sym are.long) low) in
    ap (λ o. option_map_or (λ r. has_place r i) o false) there.1 ∙ are.each j there.0 there.1 i

past_none : (rows : List Row) (i j : ℕ) → length rows ≤ j → bit_in rows i j ≡ false
unfolding bit_in
past_none rows i j high = ap (λ o. option_map_or (λ r. has_place r i) o false) (slice_get_past rows j high)

pub rows_backward : (ops : List MicroOp) (syncs : List SyncPoint) (version : Version) (profile : Profile) (rows : List Row)
    → AreRows (needs ops syncs version profile) (length ops) rows → IsBackward (bit_in rows)
rows_backward ops syncs version profile rows are i k is = ⊎_elim
    (λ (l : k < length ops).
    let said = sym (row_says (needs ops syncs version profile) (length ops) rows are i k l) ∙ is in
    ⊎_elim
    (λ (x : i < k). x)
    (λ (x : k ≤ i). absurd (false≢true (sym (needs_later ops syncs version profile i k x) ∙ said)))
    (cases_lt i k))
    (λ (h : length ops ≤ k). absurd (false≢true (sym (past_none rows i k (subst (λ m. m ≤ k) (sym are.long) h)) ∙ is)))
    (cases_lt k (length ops))
