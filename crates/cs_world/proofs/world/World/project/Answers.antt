use Rattle.std.proofs.Common.{◌≡◌, ◌∙◌, ◌++◌, ◌+◌, [], ◌∷◌, List, add-one, arith, drop, drop-cons, false, length-drop, refl, sym, ap}
use Rattle.std.proofs.lemmas.List.{append-nil, nil_from_length}
use Rattle.cs_world.specs.declared.step.Step.{Step}
use Rattle.cs_world.specs.Ample.{all_ample, says_out_of_memory}
use Rattle.cs_world.specs.Noting.{world_in}
use Rattle.cs_world.specs.Projections.{calls_of, projection_of}
use Rattle.cs_world.proofs.Projected.{more_noted, start_all, start_noted}
use Rattle.cs_world.proofs.world.World.project.Goals as goal

pub loop-step-init : goal.loop-step-init
loop-step-init c =
    let start = c.in_ok-world.ensures in
    record {
      all = start_all _ _ _ _ start;
      key = start.key_is ∙ c.new.ensures;
      noted = λ ample. start_noted _ _ _ _ start _ c.args.steps.now c.args.steps.now refl;
    }

pub loop-step-preserved : goal.loop-step-preserved
loop-step-preserved c =
    let notes = c.step.ensures.notes in
    let told : says_out_of_memory c.step.result ≡ false = sym c.says_out_of_memory.ensures ∙ c.if-says_out_of_memory.false in
    let i = c.loop-step.step-index in
    let items : drop i c.args.steps.now ≡ c.step-item.result ∷ drop (i + 1) c.args.steps.now =
    drop-cons c.args.steps.now i c.step-item.result c.loop-step-test.true ∙
    (λ k. sym c.step-item.is k ∷ drop (sym (add-one i) k) c.args.steps.now) in
    record {
      all = c.step.ensures.all;
      key = notes.key ∙ c.loop-step.invariant.key;
      noted = more_noted c.loop-step.world c.step.new.self c.step-item.result c.step.result (rw c.in_ok-copy.ensures at notes) told _
          c.loop-step.invariant.key (drop i c.args.steps.now) (drop (i + 1) c.args.steps.now) items _ c.loop-step.invariant.noted;
    }

pub returns : goal.returns
returns c =
    let w = c.loop-step.world in
    let empty : drop c.loop-step.step-index c.args.steps.now ≡ [] =
    nil_from_length (drop c.loop-step.step-index c.args.steps.now)
    (omega (arith, length-drop c.loop-step.step-index c.args.steps.now, c.loop-step-test.false)) in
    sym (append-nil (w.watched.calls.items))
    ∙ ap (λ (items : List Step). w.watched.calls.items ++ calls_of (projection_of (world_in w) (all_ample items) (record {
      number = c.args.number;
      name = c.args.name.now;
    }))) (sym empty)
    ∙ c.loop-step.invariant.noted c.if-world.false
