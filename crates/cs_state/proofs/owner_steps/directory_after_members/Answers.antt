use Rattle.std.proofs.Common.{◌-◌, ap, ◌∙◌, arith, get_or}
use Rattle.std.proofs.lemmas.List.{get_or_read}
use Rattle.cs_start.specs.declared.rights.Rights.{Rights}
use Rattle.cs_micro.specs.declared.micro_op.MicroOp.TheVariants.{Say}
use Rattle.cs_apm.specs.Owners.{directory_after, directory_left}
use Rattle.cs_state.specs.Owners.{sets_directory}
use Rattle.cs_state.proofs.Settling.{directory_says}
use Rattle.cs_state.proofs.Lasting.{last_inside, last_says, no_last}
use Rattle.cs_state.proofs.owner_steps.directory_after_members.Goals as goal

pub returns-then-count-eq0 : goal.returns-then-count-eq0
unfolding directory_left
returns-then-count-eq0 c =
    let e = c.count_members-count.ensures in
    no_last Rights (directory_after c.args.directory) (sets_directory c.args.directory) (directory_says c.args.directory) c.args.owner.now
    c.args.ops.now
    c.args.members.now c.args.places.now
    c.count_members-count.result c.requires.places c.requires.long e.bound e.low e.high c.if-count-eq0.true

pub bounds-ops-places : goal.bounds-ops-places
bounds-ops-places c =
    let e = c.count_members-count.ensures in
    let some = c.if-count-eq0.false in
    last_inside Rights (directory_after c.args.directory) (sets_directory c.args.directory) (directory_says c.args.directory)
    c.args.owner.now c.args.ops.now
    c.args.members.now c.args.places.now
    c.count_members-count.result c.requires.places c.requires.long e.bound e.low e.high (omega (arith, some))

pub returns : goal.returns
unfolding directory_left
returns c =
    let e = c.count_members-count.ensures in
    let some = c.if-count-eq0.false in
    let r = c.count_members-count.result in
    let ops = c.args.ops.now in
    let p = get_or c.args.places.now (r - 1) 0 in
    let inside =
    last_inside Rights (directory_after c.args.directory) (sets_directory c.args.directory) (directory_says c.args.directory)
    c.args.owner.now ops
    c.args.members.now c.args.places.now
    r c.requires.places c.requires.long e.bound e.low e.high (omega (arith, some)) in
    c.directory_after.ensures
    ∙ ap (directory_after c.args.directory c.args.owner.now) (get_or_read ops p c.index-ops-places.result inside c.index-ops-places.is Say)
    ∙ last_says Rights (directory_after c.args.directory) (sets_directory c.args.directory) (directory_says c.args.directory)
    c.args.owner.now ops c.args.members.now
    c.args.places.now
    r c.requires.places c.requires.long e.bound e.low e.high (omega (arith, some))
