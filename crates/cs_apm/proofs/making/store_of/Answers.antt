use Rattle.std.proofs.Common.{◌≡◌, ◌+◌, IfOk, Some, length, subst, sym, ap, ◌∙◌}
use Rattle.std.specs.FinMap.{entries}
use Rattle.std.specs.List.{All}
use Rattle.cs_entries.specs.declared.node.Node.{Node}
use Rattle.cs_entries.specs.Tables.{paths_in}
use Rattle.cs_tree_model.specs.Fresh.{listing}
use Rattle.cs_tree_model.specs.Laws.Fresh.{listing-IsListing}
use Rattle.cs_tree_model.specs.Laws.Paths.{path_exact, path_total}
use Rattle.cs_tree_model.specs.Listing.{IsListing}
use Rattle.cs_tree_model.specs.Tree.{Path, Tree}
use Rattle.cs_apm.specs.Slots.{IsKnown, table_of_slots}
use Rattle.cs_apm.specs.States.{records_of, start_state, state_of}
use Rattle.cs_apm.proofs.Recording.{known_paths, listed, listed_tree}
use Rattle.cs_apm.proofs.Views.{entries-keyed}
use Rattle.cs_apm.proofs.making.store_of.Goals as goal

pub records_of_nodes-requires-clause-known : goal.records_of_nodes-requires-clause-known
records_of_nodes-requires-clause-known c =
    let tables = c.args.tables.now in
    let ordered = entries-keyed path_total path_exact c.in_ok-nodes.nodes.entries c.len.ensures.ordered in
    let deep = c.len-deep.result + 1 in
    let are = c.in_ok-nodes.ensures ∙ ap (λ es. paths_in deep (table_of_slots es c.args.slots.now)) c.deref.ensures.value in
    subst (All (λ (x : Path × Node). IsKnown (length tables.directories.items) (length tables.owners.items) (Some x.1)))
    (sym (ap entries are) ∙ ordered)
    (known_paths (length tables.directories.items) (length tables.owners.items) deep tables.entries.items c.args.slots.now
    c.requires.ascending c.requires.known c.requires.root)

pub from_records-requires : goal.from_records-requires
from_records-requires c =
    let s = state_of (start_state c.args.trace.now) c.args.ops.now c.args.places.now in
    let ordered = entries-keyed path_total path_exact c.in_ok-nodes.nodes.entries c.len.ensures.ordered in
    let deep = c.len-deep.result + 1 in
    let are = c.in_ok-nodes.ensures ∙ ap (λ es. paths_in deep (table_of_slots es c.args.slots.now)) c.deref.ensures.value in
    let down : length s.directories + 1 ≡ deep =
    ap (λ n. n + 1) (c.requires.deep ∙ sym (c.len-deep.ensures ∙ c.args.tables.now.directories.ok.0)) in
    subst IsListing
    (sym (c.in_ok-records.ensures ∙ listed s deep c.args.tables.now.entries.items c.args.slots.now c.in_ok-nodes.nodes.entries
    down c.requires.same (sym ordered ∙ ap entries are)))
    (listing-IsListing (records_of s) c.requires.nested)

pub returns : goal.returns
returns c =
    let s = state_of (start_state c.args.trace.now) c.args.ops.now c.args.places.now in
    let ordered = entries-keyed path_total path_exact c.in_ok-nodes.nodes.entries c.len.ensures.ordered in
    let deep = c.len-deep.result + 1 in
    let are = c.in_ok-nodes.ensures ∙ ap (λ es. paths_in deep (table_of_slots es c.args.slots.now)) c.deref.ensures.value in
    let down : length s.directories + 1 ≡ deep =
    ap (λ n. n + 1) (c.requires.deep ∙ sym (c.len-deep.ensures ∙ c.args.tables.now.directories.ok.0)) in
    subst (λ (w : Tree). IfOk c.from_records.result (λ tree. tree ≡ w))
    (listed_tree s deep c.args.tables.now.entries.items c.args.slots.now c.in_ok-nodes.nodes.entries
    down c.requires.same (sym ordered ∙ ap entries are)
    c.in_ok-records.records.items c.in_ok-records.ensures)
    c.from_records.ensures
