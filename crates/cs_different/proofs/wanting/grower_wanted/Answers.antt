use Rattle.std.proofs.Common.{ap, ◌∙◌, sym, ◌≡◌, ◌<◌, List, length, subst}
use Rattle.std.proofs.lemmas.List.{get_or_default}
use Rattle.cs_micro.specs.Micros.{Micros}
use Rattle.cs_micro.specs.declared.micro_op.MicroOp.{MicroOp}
use Rattle.cs_micro.specs.declared.micro_op.MicroOp.TheVariants.{WriteBlock, Say}
use Rattle.cs_apm.specs.Atlases.{content_before}
use Rattle.cs_apm.specs.Rules.{op_at}
use Rattle.cs_plan.specs.Scenes.{micros_of}
use Rattle.cs_different.specs.Wants.{IsGrower, WantsGrower}
use Rattle.cs_different.proofs.Makers.{some_weaker}
use Rattle.cs_different.proofs.wanting.grower_wanted.Goals as goal

pub returns-in_ok-offset-in-WriteBlock : goal.returns-in_ok-offset-in-WriteBlock
returns-in_ok-offset-in-WriteBlock c =
    let s = c.args.scene.now in
    let ops = (micros_of s).ops in
    let same : c.ops-ops.result.now ≡ ops = c.ops-ops.ensures.value ∙ ap (λ (m : Micros). m.ops) c.micros.ensures in
    let low : c.args.place < length c.ops-ops.result.now =
    subst (λ (os : List MicroOp). c.args.place < length os) (sym same) c.requires.inside in
    let writes : op_at ops c.args.place
    ≡ WriteBlock c.in-WriteBlock.file c.in-WriteBlock.block c.in-WriteBlock.start c.in-WriteBlock.at c.in-WriteBlock.bytes =
    ap (λ (os : List MicroOp). op_at os c.args.place) (sym same)
    ∙ sym (get_or_default c.ops-ops.result.now c.args.place c.index-ops-place.result Say low)
    ∙ sym c.index-ops-place.is ∙ c.in-WriteBlock.is in
    let offset = c.in_ok-offset-in-WriteBlock.ensures.1 in
    some_weaker {Q = λ z. WantsGrower s z c.args.place} c.grower_of.result (λ z grower. record {
      file = c.in-WriteBlock.file;
      block = c.in-WriteBlock.block;
      start = c.in-WriteBlock.start;
      at = c.in-WriteBlock.at;
      bytes = c.in-WriteBlock.bytes;
      writes = writes;
      grower = subst (λ v. IsGrower (content_before s.trace ops c.in-WriteBlock.file).size ops c.in-WriteBlock.file v z) offset grower;
    }) c.grower_of.ensures
