use Rattle.std.proofs.Common.{◌≡◌, ap, ◌∙◌, arith, length}
use Rattle.cs_apm.specs.Atlases.{IsAtlas, atlas_in}
use Rattle.cs_same_states.proofs.Listing.{steps_long}
use Rattle.cs_same_states.proofs.parts.Parts.of.Goals as goal

pub of-requires-2 : goal.of-requires-2
of-requires-2 c =
    let tables = c.in_ok-tables.tables in
    let is : IsAtlas c.trace-2.result.now c.in-Ok.micros (atlas_in tables) = c.in_ok-tables.ensures in
    let steps : length c.deref-2.result.now ≡ length c.in-Ok.micros.ops =
    ap length c.deref-2.ensures.value ∙ steps_long tables.entries.items c.in-Ok.micros.ops tables.steps.items is.steps
    in
    let ops : length c.ops-2.result.now ≡ length c.in-Ok.micros.ops = ap length c.ops-2.ensures.value in
    let few = c.ops-2.ensures.few in
    omega (arith, steps, ops, few)
