use Rattle.std.proofs.Common.{◌≡◌, ◌<◌, ◌++◌, [], ap, arith, get_or, length, length-append, map, subst, sym, ◌∙◌}
use Rattle.std.specs.FinMap.{entries}
use Rattle.std.specs.List.{flat_map}
use Rattle.cs_trace.specs.Traces.{held_by_path}
use Rattle.cs_apm.specs.Held.{nodes_by_path, node_at}
use Rattle.std.specs.List.Sorted.{IsStrictlySortedBy}
use Rattle.cs_tree_model.specs.Tree.{path_cmp}
use Rattle.cs_apm.proofs.Homing.{entries-zip, pair_few, pairs_all, pairs_more}
use Rattle.cs_apm.proofs.Starting.{names_length}
use Rattle.cs_apm.proofs.homes.start_pairs.Goals as goal

pub loop-place-preserved : goal.loop-place-preserved
loop-place-preserved c =
    let paths = c.in_ok-paths.paths.items in
    let nodes = c.args.nodes.now in
    let k = c.loop-place.place in
    let m = nodes_by_path paths nodes in
    let one = held_by_path m (get_or paths k [], node_at nodes k) in
    let named = c.in_ok-paths.ensures in
    let long : length nodes ≡ length paths = c.requires.each ∙ sym (ap length named ∙ names_length c.args.records.now) in
    let low : k < length paths = omega arith in
    let pushed : c.push_pair.new.pairs.items ≡ c.loop-place.pairs.items ++ one =
    c.in_ok-push_pair.ensures
    ∙ ap (λ ps. c.loop-place.pairs.items ++ held_by_path (nodes_by_path ps nodes) (get_or ps k [], node_at nodes k)) c.deref.ensures.value
    in
    let few = c.loop-place.invariant.few in
    let more = ap length pushed in
    record {
      pairs = pushed ∙ ap (λ v. v ++ one) c.loop-place.invariant.pairs ∙ sym (pairs_more m paths nodes k low long);
      few = omega (arith, few, more, length-append c.loop-place.pairs.items one, pair_few m (get_or paths k []) (node_at nodes k));
    }

pub returns-clause-pairs : goal.returns-clause-pairs
returns-clause-pairs c =
    let paths = c.in_ok-paths.paths.items in
    let nodes = c.args.nodes.now in
    let named = c.in_ok-paths.ensures in
    let long : length nodes ≡ length paths = c.requires.each ∙ sym (ap length named ∙ names_length c.args.records.now) in
    c.loop-place.invariant.pairs
    ∙ pairs_all (nodes_by_path paths nodes) paths nodes c.loop-place.place (omega arith) long
    ∙ ap (flat_map (held_by_path (nodes_by_path paths nodes)))
    (sym (entries-zip paths nodes (subst (IsStrictlySortedBy path_cmp) (sym named) c.requires.ascending) long))
    ∙ (λ w. flat_map (held_by_path (nodes_by_path (named w) nodes)) (entries (nodes_by_path (named w) nodes)))
