use Rattle.std.proofs.Common.{◌≡◌, ◌<◌, ◌+◌, ◌∙◌, ℕ, Global, Vec, ap, arith, length, subst, sym}
use Rattle.std.proofs.lemmas.List.{get_or_read}
use Rattle.std.proofs.lemmas.List.Elements.{All-push}
use Rattle.cs_micro.specs.declared.micro_op.MicroOp.TheVariants.{Say}
use Rattle.cs_apm.specs.Making.{makes_file}
use Rattle.cs_apm.specs.Rules.{op_at}
use Rattle.cs_apm.proofs.FilesMade.{AreMakingsOf, all_makings, makings_more, makings_same, none_made, one_made}
use Rattle.cs_apm.proofs.makings.makings_of.Goals.{then-makes_file+in_ok-push, else-makes_file}
use Rattle.cs_apm.proofs.makings.makings_of.Goals as goal

pub loop-place-preserved : goal.loop-place-preserved
loop-place-preserved c =
    let ops = c.args.ops.now in
    let k = c.loop-place.place in
    let low : k < length ops = c.loop-place-test.true in
    let old = c.loop-place.makings.items in
    let at : c.index-ops-place.result ≡ op_at ops k = get_or_read ops k c.index-ops-place.result low c.index-ops-place.is Say in
    let said = ap makes_file (sym at) ∙ sym c.makes_file.ensures in
    elim c.if-makes_file.branch [
      | then-makes_file+in_ok-push w ↦ subst (λ (v : Vec ℕ Global). AreMakingsOf ops (k + 1) v.items) (sym w.makings-is)
          (subst (AreMakingsOf ops (k + 1)) (sym w.in_ok-push.ensures.items)
          (makings_more ops k low old (one_made (op_at ops k) (said ∙ w.if-makes_file.true)) c.loop-place.invariant
          (All-push (λ n. n < length ops) old k c.loop-place.invariant.inside low)))
      | else-makes_file w ↦ subst (λ (v : Vec ℕ Global). AreMakingsOf ops (k + 1) v.items) (sym w.makings-is)
          (makings_same ops k low old (none_made (op_at ops k) (said ∙ w.if-makes_file.false)) c.loop-place.invariant)
    ]

pub returns : goal.returns
returns c = all_makings c.args.ops.now c.loop-place.place c.loop-place.makings.items (omega arith) c.loop-place.invariant
