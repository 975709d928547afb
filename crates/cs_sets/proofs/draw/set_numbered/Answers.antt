use Rattle.std.proofs.Common.{refl, length}
use Rattle.cs_sets.specs.Rows.{needed_in}
use Rattle.cs_sets.proofs.Drawing.{first_draw, last_draw}
use Rattle.cs_sets.proofs.Reading.{at_first}
use Rattle.cs_sets.proofs.draw.set_numbered.Goals as goal

pub loop-place-init : goal.loop-place-init
loop-place-init c =
    let needs = needed_in c.args.needed.now in
    let n = length c.args.needed.now in
    record {
      known = c.requires.known;
      draw = first_draw needs n c.args.most c.args.number
          (record { first = 0; left = c.below.result; members = c.empty.result; rest = c.args.number })
          refl (at_first needs n c.below.result c.below.ensures) (λ k high. c.empty.ensures k) refl c.requires.sets c.requires.there;
    }

pub returns-clause-set : goal.returns-clause-set
returns-clause-set c =
    last_draw (needed_in c.args.needed.now) c.requires.chained (length c.args.needed.now) c.args.most c.args.number c.loop-place.draw
    c.requires.few c.loop-place.invariant.draw c.in_default.ensures
