use Rattle.std.proofs.Common.{◌≡◌, ◌++◌, ◌∷◌, [], ◌∙◌, IfOk, ap, subst}
use Rattle.cs_entries.specs.declared.node.Node.TheVariants.{Directory}
use Rattle.cs_entries.specs.Tables.{below}
use Rattle.cs_apm.specs.Slots.{held_in_slots}
use Rattle.cs_apm.specs.Walks.{nodes_of, pairs_in}
use Rattle.cs_apm.proofs.Walking.{paths_of_slots}
use Rattle.cs_apm.proofs.walk.nodes_at_paths.Goals as goal

pub returns : goal.returns
returns c =
    let es = c.args.entries.now in
    let ss = c.args.slots.now in
    let first : c.push.new.self.items ≡ ([], Directory 0) ∷ [] =
    c.in_ok-push.ensures.items
    ∙ (λ i. c.new-pairs.ensures.items i ++ ((c.in_ok-try_clone.ensures ∙ c.root-root.ensures) i, Directory 0) ∷ []) in
    let pairs : c.push_below.new.found.items ≡ ([], Directory 0) ∷ below (held_in_slots es ss) c.args.deep [] 0 =
    c.in_ok-push_below.ensures ∙ (λ i. first i ++ below (held_in_slots es ss) c.args.deep (c.root-root.ensures i) 0) in
    subst (λ v. IfOk c.map_of_pairs.result (λ nodes. nodes_of nodes ≡ v)) (ap pairs_in pairs
    ∙ paths_of_slots es ss c.requires.ascending c.args.deep)
    c.map_of_pairs.ensures
