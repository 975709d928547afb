use Rattle.std.proofs.Common.{◌≡◌, [], ap, sym, ◌∙◌}
use Rattle.std.proofs.lemmas.List.{nil_from_length}
use Rattle.std.specs.FinMap as map
use Rattle.cs_tree_model.specs.Tree.{path_cmp}
use Rattle.cs_start.specs.Siblings.{with_all}
use Rattle.cs_start.proofs.by_path.insert_all.Goals as goal

pub loop-path-init : goal.loop-path-init
loop-path-init c =
    ap (with_all (map.from_entries {R = path_cmp} c.args.by_path.now.entries)) c.into_iter-path-iterator.ensures.into_iter_gives.0

pub loop-path-preserved : goal.loop-path-preserved
loop-path-preserved c =
    ap (λ m. with_all m c.next.new.self.rest.items) c.in_ok-insert_in_map.ensures.state
    ∙ ap (with_all (map.from_entries {R = path_cmp} c.loop-path.by_path.entries)) (sym c.in-Some.ensures.steps.0)
    ∙ c.loop-path.invariant

pub returns : goal.returns
returns c =
    let rest = c.loop-path.path-iterator.rest in
    let nothing : rest.items ≡ [] = nil_from_length rest.items (sym rest.ok.0 ∙ c.in-None.ensures.steps.0) in
    ap (with_all (map.from_entries {R = path_cmp} c.loop-path.by_path.entries)) (sym nothing) ∙ c.loop-path.invariant
