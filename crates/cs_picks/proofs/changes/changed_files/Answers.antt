use Rattle.std.proofs.Common.{arith, ap, sym, ◌∙◌, ◌≡◌, ◌++◌, ◌∷◌, []}
use Rattle.std.specs.List.{filter, range_with_len}
use Rattle.cs_picks.specs.Changes.{changed_files, file_end, is_changed}
use Rattle.cs_plan.proofs.Listed.{kept_more, kept_same}
use Rattle.cs_picks.proofs.changes.changed_files.Goals.{then-is_changed+in_ok-push, else-is_changed}
use Rattle.cs_picks.proofs.changes.changed_files.Goals as goal

pub loop-number-preserved : goal.loop-number-preserved
loop-number-preserved c =
    let p = is_changed c.args.ops.now in
    let k = c.loop-number.number in
    elim c.if-is_changed.branch [
      | then-is_changed+in_ok-push w ↦ ap (λ r. r.items) w.files-is ∙ w.in_ok-push.ensures.items ∙ ap (λ v. v ++ k ∷ [])
          c.loop-number.invariant ∙ sym (kept_more p k (sym c.is_changed.ensures ∙ w.if-is_changed.true))
      | else-is_changed w ↦ ap (λ r. r.items) w.files-is ∙ c.loop-number.invariant ∙ sym
          (kept_same p k (sym c.is_changed.ensures ∙ w.if-is_changed.false))
    ]

pub returns : goal.returns
unfolding changed_files
returns c = let e : c.loop-number.number ≡ file_end c.args.ops.now = omega arith in
    c.loop-number.invariant ∙ ap (λ n. filter (is_changed c.args.ops.now) (range_with_len 0 n)) e
