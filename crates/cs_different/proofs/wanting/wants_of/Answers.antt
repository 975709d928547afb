use Rattle.std.proofs.Common.{◌≡◌, ◌+◌, ap, ◌∙◌, sym, [], ◌∷◌, length, length-append, arith, subst}
use Rattle.std.proofs.lemmas.Bool.{false≢true}
use Rattle.cs_micro.specs.Micros.{Micros}
use Rattle.cs_sets.specs.Rows.{bit_in}
use Rattle.cs_different.specs.Wants.{Wants}
use Rattle.cs_different.proofs.Rows.{bits_past, pushed_bits}
use Rattle.cs_different.proofs.wanting.wants_of.Goals as goal

pub loop-place-preserved : goal.loop-place-preserved
loop-place-preserved c =
    let s = c.args.scene.now in
    let old = c.loop-place.wanted.items in
    let row = c.wanted_by.result in
    let inv = c.loop-place.invariant in
    let e = c.in_ok-push.ensures.items in
    record {
      long = ap length e ∙ length-append old (row ∷ []) ∙ ap (λ v. v + 1) inv.long;
      wants = pushed_bits (Wants s) old c.push.new.self.items row e inv.wants
          (λ z t. subst (Wants s z) (sym inv.long) (c.wanted_by.ensures z t));
    }

pub loop-place-init : goal.loop-place-init
loop-place-init c = record {
  long = ap length c.new-wanted.ensures.items;
  wants = λ z k t. absurd (false≢true
      (sym (bits_past [] z k (omega arith)) ∙ ap (λ rows. bit_in rows z k) (sym c.new-wanted.ensures.items) ∙ t));
}

pub returns-clause-long : goal.returns-clause-long
returns-clause-long c =
    let all : c.loop-place.place ≡ length c.ops-count.result.now = omega (arith, c.loop-place-test.false, c.loop-place.auto.place-end) in
    c.loop-place.invariant.long ∙ all
    ∙ ap length (c.ops-count.ensures.value ∙ ap (λ (m : Micros). m.ops) c.micros.ensures)
