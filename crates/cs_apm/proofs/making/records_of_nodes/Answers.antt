use Rattle.std.proofs.Common.{◌++◌, Some, length, ap, sym, ◌∙◌, subst}
use Rattle.std.proofs.lemmas.List.{append-nil}
use Rattle.std.proofs.lemmas.List.Elements.{All-head, All-tail}
use Rattle.std.specs.List.{All}
use Rattle.cs_entries.specs.declared.node.Node.{Node}
use Rattle.cs_tree_model.specs.Fresh.{with_numbers_from}
use Rattle.cs_tree_model.specs.Maps.Values.{map_entries}
use Rattle.cs_tree_model.specs.Tree.{Path}
use Rattle.cs_apm.specs.Slots.{IsKnown}
use Rattle.cs_apm.specs.States.{record_of, start_state, state_of}
use Rattle.cs_apm.proofs.Recording.{one_more}
use Rattle.cs_apm.proofs.making.records_of_nodes.Goals as goal

pub loop-path-init : goal.loop-path-init
loop-path-init c =
    let gives = c.into_iter-path-iterator.ensures.into_iter_gives in
    let F = record_of (state_of (start_state c.args.trace.now) c.args.ops.now c.args.places.now) in
    record {
      known = subst (All (λ (x : Path × Node). IsKnown (length c.args.tables.now.directories.items) (length c.args.tables.now.owners.items)
          (Some x.1)))
          (sym gives.0) c.requires.known;
      records =
          (λ i. c.new-records.ensures.items i ++ with_numbers_from (length (c.new-records.ensures.items i)) (map_entries F (gives.0 i)));
    }

pub record_at-requires-clause-known : goal.record_at-requires-clause-known
record_at-requires-clause-known c =
    let P = λ (x : Path × Node). IsKnown (length c.args.tables.now.directories.items) (length c.args.tables.now.owners.items) (Some x.1) in
    All-head P (c.in-Some.path, c.in-Some.node) c.next.new.self (subst (All P) c.in-Some.ensures.steps c.loop-path.invariant.known)

pub loop-path-preserved : goal.loop-path-preserved
loop-path-preserved c =
    let P = λ (x : Path × Node). IsKnown (length c.args.tables.now.directories.items) (length c.args.tables.now.owners.items) (Some x.1) in
    let F = record_of (state_of (start_state c.args.trace.now) c.args.ops.now c.args.places.now) in
    let rest = c.next.new.self in
    let x : Path × Node = (c.in-Some.path, c.in-Some.node) in
    record {
      known = All-tail P x rest (subst (All P) c.in-Some.ensures.steps c.loop-path.invariant.known);
      records =
          one_more F c.loop-path.records.items c.push.new.self.items _ x rest c.in_ok-record.record c.len-number.result
          c.in_ok-push.ensures.items (c.len-number.ensures ∙ c.loop-path.records.ok.0) c.in_ok-record.ensures
          (ap (λ v. c.loop-path.records.items ++ with_numbers_from (length c.loop-path.records.items) (map_entries F v))
          (sym c.in-Some.ensures.steps) ∙ c.loop-path.invariant.records);
    }

pub returns : goal.returns
returns c =
    let F = record_of (state_of (start_state c.args.trace.now) c.args.ops.now c.args.places.now) in
    sym (append-nil _)
    ∙ ap (λ v. c.loop-path.records.items ++ with_numbers_from (length c.loop-path.records.items) (map_entries F v))
    (sym c.in-None.ensures.steps.0)
    ∙ c.loop-path.invariant.records
