use Rattle.std.proofs.Common.{ap, ◌∙◌, sym}
use Rattle.std.specs.List.{list_any}
use Rattle.cs_micro.specs.Micros.{Micros}
use Rattle.cs_apm.specs.Atlases.{atlas_in}
use Rattle.cs_plan.specs.Scenes.{micros_of}
use Rattle.cs_different.specs.Wants.{holds}
use Rattle.cs_different.proofs.Makers.{maker_is}
use Rattle.cs_different.proofs.wanting.maker_of.Goals as goal

pub returns : goal.returns
returns c =
    let s = c.args.scene.now in
    maker_is s.trace (micros_of s) c.ops-ops.result.now (atlas_in c.args.parts.now.tables) c.args.file c.in_ok-maker.maker
    (c.ops-ops.ensures.value ∙ ap (λ (m : Micros). m.ops) c.micros.ensures) c.requires.atlas
    (sym c.is_linked.ensures ∙ c.if-is_linked.false)
    (ap (list_any (holds c.args.file)) (sym c.deref.ensures.value) ∙ sym c.is_in_slot.ensures ∙ c.if-is_in_slot.false)
    c.in_ok-maker.ensures (c.is_made_twice.ensures c.if-is_made_twice.false)
