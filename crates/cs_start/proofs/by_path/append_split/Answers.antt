use Rattle.std.proofs.Common.{length, ◌≡◌, ◌++◌, ap, ◌∙◌}
use Rattle.std.specs.FinMap as map
use Rattle.cs_tree_model.specs.Tree.{path_cmp}
use Rattle.cs_start.specs.Entries.{with_nodes, with_records}
use Rattle.cs_start.specs.Owned.{with_places}
use Rattle.cs_start.specs.Unions.{union}
use Rattle.cs_start.proofs.Around.{entries-around}
use Rattle.cs_start.proofs.Numbered.{nodes-append, places-next, records-append}
use Rattle.cs_start.proofs.by_path.append_split.Goals as goal

pub returns-clause-records : goal.returns-clause-records
returns-clause-records c =
    let s = c.args.siblings in
    let m = map.from_entries {R = path_cmp} c.args.others.entries in
    let before = map.entries (map.from_entries {R = path_cmp} c.split_off_after.new.others.entries) in
    let after = map.entries (map.from_entries {R = path_cmp} c.in_ok-after.after.entries) in
    let rs = c.args.lists.now.records in
    let whole : before ++ (map.entries s.entries ++ after) ≡ map.entries (union s.entries m) =
    entries-around s m before after c.in_ok-after.ensures.parts c.requires.all c.requires.apart c.in_ok-after.ensures.before
    c.in_ok-after.ensures.after in
    c.in_ok-append_map-2.ensures.records
    ∙ ap (λ r. with_records r after)
    (c.in_ok-append_to.ensures.records ∙ ap (λ r. with_records r (map.entries s.entries)) c.in_ok-append_map.ensures.records)
    ∙ records-append (with_records rs before) (map.entries s.entries) after
    ∙ records-append rs before (map.entries s.entries ++ after)
    ∙ ap (with_records rs) whole

pub returns-clause-nodes : goal.returns-clause-nodes
returns-clause-nodes c =
    let s = c.args.siblings in
    let m = map.from_entries {R = path_cmp} c.args.others.entries in
    let before = map.entries (map.from_entries {R = path_cmp} c.split_off_after.new.others.entries) in
    let after = map.entries (map.from_entries {R = path_cmp} c.in_ok-after.after.entries) in
    let ns = c.args.lists.now.nodes.items in
    let whole : before ++ (map.entries s.entries ++ after) ≡ map.entries (union s.entries m) =
    entries-around s m before after c.in_ok-after.ensures.parts c.requires.all c.requires.apart c.in_ok-after.ensures.before
    c.in_ok-after.ensures.after in
    c.in_ok-append_map-2.ensures.nodes
    ∙ ap (λ n. with_nodes n after)
    (c.in_ok-append_to.ensures.nodes ∙ ap (λ n. with_nodes n (map.entries s.entries)) c.in_ok-append_map.ensures.nodes)
    ∙ nodes-append (with_nodes ns before) (map.entries s.entries) after
    ∙ nodes-append ns before (map.entries s.entries ++ after)
    ∙ ap (with_nodes ns) whole

pub returns-clause-places : goal.returns-clause-places
returns-clause-places c =
    let s = c.args.siblings in
    let m = map.from_entries {R = path_cmp} c.args.others.entries in
    let before = map.entries (map.from_entries {R = path_cmp} c.split_off_after.new.others.entries) in
    let after = map.entries (map.from_entries {R = path_cmp} c.in_ok-after.after.entries) in
    let rs = c.args.lists.now.records in
    let ps = c.args.lists.now.places.items in
    let whole : before ++ (map.entries s.entries ++ after) ≡ map.entries (union s.entries m) =
    entries-around s m before after c.in_ok-after.ensures.parts c.requires.all c.requires.apart c.in_ok-after.ensures.before
    c.in_ok-after.ensures.after in
    c.in_ok-append_map-2.ensures.places
    ∙ places-next c.append_map.new.lists.places.items c.append_to.new.lists.places.items c.append_map.new.lists.records
    c.append_to.new.lists.records (map.entries s.entries) after c.in_ok-append_to.ensures.records c.in_ok-append_to.ensures.places
    ∙ places-next ps c.append_map.new.lists.places.items rs c.append_map.new.lists.records before (map.entries s.entries ++ after)
    c.in_ok-append_map.ensures.records c.in_ok-append_map.ensures.places
    ∙ ap (with_places ps (length rs)) whole
