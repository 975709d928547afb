use Rattle.std.proofs.Common.{◌≡◌, ◌+◌, ◌∙◌, suc, ap, length, subst, arith}
use Rattle.std.specs.Prelude.{IfSome}
use Rattle.cs_apm.specs.Rules.{op_at}
use Rattle.cs_apm.specs.States.{entries_after}
use Rattle.cs_entries.specs.Tables.{Table}
use Rattle.cs_micro.specs.Micros.{Micros}
use Rattle.cs_plan.specs.Scenes.{micros_of}
use Rattle.cs_list.specs.Listings.{AreObjects}
use Rattle.cs_list.specs.Paths.{LeadsToChanged, entries_before}
use Rattle.cs_list.proofs.Objects.{no_objects, objects_more}
use Rattle.cs_list.proofs.json_listing.op_objects.Goals as goal

pub loop-place-init : goal.loop-place-init
loop-place-init c = record {
  objects = rw c.new-text.ensures.items (no_objects c.args.scene.now c.args.lines.now);
  held = c.in_ok-paths.ensures;
}

pub loop-place-preserved : goal.loop-place-preserved
loop-place-preserved c =
    let s = c.args.scene.now in
    let k = c.loop-place.place in
    let op = op_at (micros_of s).ops k in
    let pushed = c.in_ok-push_op_object.ensures.object in
    let before = c.loop-place.invariant.held in
    let leads = subst (λ (t : Table). IfSome pushed.0 (LeadsToChanged t op)) before pushed.1 in
    let next : suc k ≡ k + 1 = omega arith in
    record {
      objects = objects_more s c.args.lines.now k c.loop-place.text.items c.push_op_object.new.text.items pushed.0
          c.loop-place.invariant.objects leads pushed.2;
      held = c.in_ok-push_op_object.ensures.after ∙ ap (λ t. entries_after t op) before ∙ ap (entries_before s) next;
    }

pub returns : goal.returns
returns c =
    let first = ap length c.ops-ops.ensures.value in
    let then = ap (λ (m : Micros). length m.ops) c.micros.ensures in
    let all : c.loop-place.place ≡ length (micros_of c.args.scene.now).ops = omega (arith, first, then) in
    subst (λ n. AreObjects c.args.scene.now c.args.lines.now n c.loop-place.text.items) all c.loop-place.invariant.objects
