use Rattle.std.proofs.Common.{◌≡◌, ◌∙◌, ◌<◌, Some, refl, sym, ap, arith, vec_len}
use Rattle.std.specs.Prelude.{slice_get}
use Rattle.std.proofs.lemmas.Option.{slice_get-get_or}
use Rattle.cs_world.proofs.Moving.{asks, fitting}
use Rattle.cs_world.proofs.run_with_passes.RunWithPasses.call.Goals as goal

pub step-requires : goal.step-requires
step-requires c =
    let low : c.args.pass < vec_len c.self.inside.passes = c.in-Some.ensures.variant.0 refl in
    let ok = c.self.inside.passes.ok in
    let there : slice_get c.self.inside.passes.items c.args.pass ≡ Some c.in-Some.pass.now =
    slice_get-get_or c.self.inside.passes.items c.args.pass c.in-Some.pass.now (omega arith) ∙ ap Some (sym c.in-Some.ensures.value) in
    record { fits = c.self.invariant.fit c.args.pass c.in-Some.pass.now there }

pub invariant_of-self-2 : goal.invariant_of-self-2
invariant_of-self-2 c =
    let low : c.args.pass < vec_len c.self.inside.passes = c.in-Some.ensures.variant.0 refl in
    let ok = c.self.inside.passes.ok in
    let there : slice_get c.self.inside.passes.items c.args.pass ≡ Some c.in-Some.pass.now =
    slice_get-get_or c.self.inside.passes.items c.args.pass c.in-Some.pass.now (omega arith) ∙ ap Some (sym c.in-Some.ensures.value) in
    fitting c.self.inside.run c.self.inside.passes.items c.self.invariant c.args.pass c.in-Some.pass.now there c.args.now c.args.call
    c.step.result c.step.new.self c.step.new.pass c.step.ensures.stepped c.step.ensures.fits c.step.ensures.others

pub returns-clause-called : goal.returns-clause-called
returns-clause-called c =
    let low : c.args.pass < vec_len c.self.inside.passes = c.in-Some.ensures.variant.0 refl in
    let ok = c.self.inside.passes.ok in
    let there : slice_get c.self.inside.passes.items c.args.pass ≡ Some c.in-Some.pass.now =
    slice_get-get_or c.self.inside.passes.items c.args.pass c.in-Some.pass.now (omega arith) ∙ ap Some (sym c.in-Some.ensures.value) in
    rw (← c.self.view_is)
    (asks c.self.inside.run c.self.inside.passes.items c.self.invariant c.args.pass c.in-Some.pass.now there c.args.now c.args.call
    c.step.result c.step.new.self c.step.new.pass c.step.ensures.stepped)
