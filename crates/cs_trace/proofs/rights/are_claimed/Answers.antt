use Rattle.std.proofs.Common.{◌≡◌, sym, ◌∙◌}
use Rattle.std.proofs.lemmas.Bool.{eqb-true}
use Rattle.std.proofs.lemmas.Bool.Decides.{Decides-eqb}
use Rattle.std.proofs.lemmas.Slice.Eq.{slice_eq-Decides}
use Rattle.cs_trace_lines.specs.Said.{claims_of}
use Rattle.cs_trace.proofs.Claimed.{claimed_again}
use Rattle.cs_trace.proofs.rights.are_claimed.Goals as goal
use Rattle.cs_trace.proofs.rights.are_claimed.Goals.{then-rights-claims, else-rights-claims}

pub returns-then-eq : goal.returns-then-eq
returns-then-eq c = λ same.
    let groups : c.as_str-then-eq.result.now ≡ c.as_str-then-eq-2.result.now =
    (slice_eq-Decides Decides-eqb _ _ _ c.eq-then-eq.ensures).0 same in
    elim c.if-rights-claims.branch [
      | then-rights-claims w ↦
          let owners : w.as_str.result.now ≡ w.as_str-then-rights-claims.result.now =
          (slice_eq-Decides Decides-eqb _ _ _ w.eq.ensures).0 (sym w.value-is ∙ c.if-eq.true) in
          claimed_again c.args.rights.now (claims_of c.args.claims.now) w.as_str.ensures.legal c.as_str-then-eq.ensures.legal
          (sym w.if-rights-claims.true)
          (sym w.as_str-then-rights-claims.ensures.value ∙ sym owners ∙ w.as_str.ensures.value)
          (sym c.as_str-then-eq-2.ensures.value ∙ sym groups ∙ c.as_str-then-eq.ensures.value)
      | else-rights-claims w ↦ absurd (w.if-rights-claims.false (eqb-true _ _ (sym w.value-is ∙ c.if-eq.true)))
    ]
