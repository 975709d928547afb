use Rattle.std.proofs.Common.{◌≡◌, ◌<◌, length, subst, sym, ap, ◌∙◌, IfOk}
use Rattle.std.specs.List.{All}
use Rattle.cs_tree_model.specs.Fresh.{IsNested}
use Rattle.cs_tree_model.specs.Tree.{IsTree, Tree}
use Rattle.cs_apm.specs.Atlases.{atlas_in}
use Rattle.cs_apm.specs.Contents.{IsSmall}
use Rattle.cs_apm.specs.Slots.{AreKnown, table_of_slots}
use Rattle.cs_apm.specs.States.{records_of, start_state, state_of, tree_of_state}
use Rattle.cs_apm.proofs.Building.{are_files, deep_left, fits, has_root, inside, inside_steps, is_tree_left, known_left, long_left, nested_left, table_left}
use Rattle.cs_apm.proofs.Folding.{if_ok}
use Rattle.cs_apm.proofs.state.state_of.Goals as goal

pub slots_of_set-requires-clause-fit : goal.slots_of_set-requires-clause-fit
slots_of_set-requires-clause-fit c = fits c.args.trace.now c.args.micros.now (atlas_in c.args.tables.now) c.requires.atlas

pub slots_of_set-requires-clause-inside : goal.slots_of_set-requires-clause-inside
slots_of_set-requires-clause-inside c =
    inside_steps c.args.trace.now c.args.micros.now (atlas_in c.args.tables.now) c.requires.atlas c.args.places.now c.requires.allowed

pub store_of-requires-clause-files : goal.store_of-requires-clause-files
store_of-requires-clause-files c =
    are_files c.args.trace.now c.args.micros.now c.args.tables.now c.requires.atlas c.ops.result.now c.ops.ensures.value

pub store_of-requires-clause-long : goal.store_of-requires-clause-long
store_of-requires-clause-long c =
    ap length (c.deref.ensures.value ∙ c.in_ok-slots.ensures) ∙ long_left c.args.trace.now c.args.micros.now (atlas_in c.args.tables.now)
    c.requires.atlas c.args.places.now c.requires.allowed

pub store_of-requires-clause-known : goal.store_of-requires-clause-known
store_of-requires-clause-known c =
    subst (AreKnown (length c.args.tables.now.directories.items) (length c.args.tables.now.owners.items))
    (sym (c.deref.ensures.value ∙ c.in_ok-slots.ensures))
    (known_left c.args.trace.now c.args.micros.now (atlas_in c.args.tables.now) c.requires.atlas c.args.places.now c.requires.allowed)

pub store_of-requires-clause-root : goal.store_of-requires-clause-root
store_of-requires-clause-root c = has_root c.args.trace.now c.args.micros.now (atlas_in c.args.tables.now) c.requires.atlas

pub store_of-requires-clause-small : goal.store_of-requires-clause-small
store_of-requires-clause-small c = subst (All IsSmall) (sym c.ops.ensures.value) c.requires.atlas.small

pub store_of-requires-clause-inside : goal.store_of-requires-clause-inside
store_of-requires-clause-inside c =
    subst (λ v. All (λ place. place < length v) c.args.places.now) (sym c.ops.ensures.value)
    (inside c.args.trace.now c.args.micros.now (atlas_in c.args.tables.now) c.requires.atlas c.args.places.now c.requires.allowed)

pub store_of-requires-clause-same : goal.store_of-requires-clause-same
store_of-requires-clause-same c =
    let t = c.args.trace.now in
    ap (λ ops. (state_of (start_state t) ops c.args.places.now).entries) c.ops.ensures.value
    ∙ table_left t c.args.micros.now (atlas_in c.args.tables.now) c.requires.atlas c.args.places.now c.requires.allowed
    ∙ ap (table_of_slots c.args.tables.now.entries.items) (sym (c.deref.ensures.value ∙ c.in_ok-slots.ensures))

pub store_of-requires-clause-deep : goal.store_of-requires-clause-deep
store_of-requires-clause-deep c =
    let t = c.args.trace.now in
    ap (λ ops. length (state_of (start_state t) ops c.args.places.now).directories) c.ops.ensures.value
    ∙ deep_left t c.args.micros.now (atlas_in c.args.tables.now) c.requires.atlas c.args.places.now c.requires.allowed

pub store_of-requires-clause-nested : goal.store_of-requires-clause-nested
store_of-requires-clause-nested c =
    let t = c.args.trace.now in
    subst (λ ops. IsNested (records_of (state_of (start_state t) ops c.args.places.now))) (sym c.ops.ensures.value)
    (nested_left t c.args.micros.now (atlas_in c.args.tables.now) c.requires.atlas c.args.places.now c.requires.allowed)

pub returns-clause-state : goal.returns-clause-state
returns-clause-state c =
    let t = c.args.trace.now in
    subst (λ (v : Tree). IfOk c.store_of.result (λ tree. tree ≡ v))
    (ap (λ ops. tree_of_state (state_of (start_state t) ops c.args.places.now)) c.ops.ensures.value)
    c.store_of.ensures

pub returns-clause-tree : goal.returns-clause-tree
returns-clause-tree c =
    let t = c.args.trace.now in
    let is_tree = is_tree_left t c.args.micros.now (atlas_in c.args.tables.now) c.requires.atlas c.args.places.now c.requires.allowed in
    if_ok c.store_of.result
    (λ tree e. subst IsTree
    (sym (e ∙ ap (λ ops. tree_of_state (state_of (start_state t) ops c.args.places.now)) c.ops.ensures.value)) is_tree)
    c.store_of.ensures
