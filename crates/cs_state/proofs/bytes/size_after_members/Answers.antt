use Rattle.std.proofs.Common.{ℕ, ◌-◌, ap, ◌∙◌, arith, get_or}
use Rattle.std.proofs.lemmas.List.{get_or_read}
use Rattle.cs_micro.specs.declared.micro_op.MicroOp.TheVariants.{Say}
use Rattle.cs_state.specs.Steps.{resizes}
use Rattle.cs_state.specs.Windows.{size_after}
use Rattle.cs_state.proofs.Including.{size_says}
use Rattle.cs_state.proofs.Lasting.{last_inside, last_says, no_last}
use Rattle.cs_state.proofs.bytes.size_after_members.Goals as goal

pub returns-then-count-eq0 : goal.returns-then-count-eq0
returns-then-count-eq0 c =
    let e = c.count_members-count.ensures in
    no_last ℕ (size_after c.args.file) (resizes c.args.file) (size_says c.args.file) c.args.size c.args.ops.now c.args.members.now
    c.args.size_changes.now c.count_members-count.result c.requires.sizes c.requires.long e.bound e.low e.high c.if-count-eq0.true

pub bounds-ops-size_changes : goal.bounds-ops-size_changes
bounds-ops-size_changes c =
    let e = c.count_members-count.ensures in
    let some = c.if-count-eq0.false in
    last_inside ℕ (size_after c.args.file) (resizes c.args.file) (size_says c.args.file) c.args.size c.args.ops.now c.args.members.now
    c.args.size_changes.now c.count_members-count.result c.requires.sizes c.requires.long e.bound e.low e.high (omega (arith, some))

pub returns : goal.returns
returns c =
    let e = c.count_members-count.ensures in
    let some = c.if-count-eq0.false in
    let r = c.count_members-count.result in
    let ops = c.args.ops.now in
    let p = get_or c.args.size_changes.now (r - 1) 0 in
    let inside =
    last_inside ℕ (size_after c.args.file) (resizes c.args.file) (size_says c.args.file) c.args.size ops c.args.members.now
    c.args.size_changes.now r c.requires.sizes c.requires.long e.bound e.low e.high (omega (arith, some)) in
    c.size_after.ensures
    ∙ ap (size_after c.args.file c.args.size) (get_or_read ops p c.index-ops-size_changes.result inside c.index-ops-size_changes.is Say)
    ∙ last_says ℕ (size_after c.args.file) (resizes c.args.file) (size_says c.args.file) c.args.size ops c.args.members.now
    c.args.size_changes.now
    r c.requires.sizes c.requires.long e.bound e.low e.high (omega (arith, some))
