use Rattle.std.proofs.Common.{ap, arith}
use Rattle.cs_run.proofs.Joining.{few, with_one}
use Rattle.cs_run.specs.Blocks.{all_opens}
use Rattle.cs_run.proofs.opens.Opens.add.Goals as goal

pub overflow_add-self : goal.overflow_add-self
overflow_add-self c =
    omega (
      arith,
      c.self.invariant.counted,
      few (all_opens c.self.inside.blocks.items) c.args.opened.number c.self.invariant.ascending
          (rw (ap (λ v. v.items) c.self.view_is) c.requires.above),
    )

pub invariant_of-self : goal.invariant_of-self
invariant_of-self c =
    with_one c.self.inside.blocks.items c.push_last.new.blocks.items c.self.inside.count c.args.opened c.self.invariant
    (rw (ap (λ v. v.items) c.self.view_is) c.requires.above) c.push_last.ensures.opens c.push_last.ensures.filled
