use Rattle.std.proofs.Common.{◌≡◌, ◌<◌, [], ap, get_or, length, subst, sym, ◌∙◌}
use Rattle.std.specs.List.Sorted.{IsPartitionPoint}
use Rattle.std.specs.declared.cmp.Ordering.TheVariants.{Less, Greater}
use Rattle.cs_entries.specs.declared.node.Node.TheVariants.{Directory}
use Rattle.cs_tree_model.specs.Laws.Paths.{path_exact, path_total}
use Rattle.cs_tree_model.specs.Tree.{Path, path_cmp}
use Rattle.cs_trace.specs.Judging.{directory_number}
use Rattle.cs_apm.specs.Laws.Ascents.{searchable}
use Rattle.cs_apm.proofs.Homing.{ascending_of, number_found, number_none}
use Rattle.cs_apm.proofs.homes.number_at.Goals as goal

pub returns-in-Ok : goal.returns-in-Ok
returns-in-Ok c =
    let paths = c.args.paths.now in
    let nodes = c.args.nodes.now in
    let place = c.in-Ok.place in
    let low : place < length paths = c.in-Ok.ensures.bound in
    let at = path_exact (get_or paths place []) c.in_ok-path.path (c.in-Ok.ensures.ok []) ∙ c.in_ok-path.ensures in
    let long : length nodes ≡ length paths = c.requires.each in
    c.directory_number.ensures
    ∙ sym (ap directory_number (number_found paths nodes c.args.names.now place (Directory 0) c.requires.ascending long low at))

pub returns : goal.returns
returns c =
    let paths = c.args.paths.now in
    let path = c.in_ok-path.path in
    let part = c.in-Err.ensures.position (searchable path_total path_exact paths path (ascending_of paths c.requires.ascending)) in
    sym (ap directory_number (number_none paths c.args.nodes.now c.args.names.now c.in-Err.field-0
    (subst (λ (q : Path). IsPartitionPoint (λ p. path_cmp p q ≡ Less) (λ p. path_cmp p q ≡ Greater) paths c.in-Err.field-0)
    c.in_ok-path.ensures part)))
