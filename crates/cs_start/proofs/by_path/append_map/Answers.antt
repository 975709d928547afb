use Rattle.std.proofs.Common.{length, ◌∷◌, [], ap, sym, ◌∙◌}
use Rattle.std.proofs.lemmas.List.{append-nil}
use Rattle.cs_start.specs.Entries.{with_nodes, with_records}
use Rattle.cs_start.proofs.Numbered.{nodes-append, places-next, records-append}
use Rattle.cs_start.specs.Owned.{with_places}
use Rattle.cs_start.proofs.Views.{entries-keyed}
use Rattle.cs_start.proofs.by_path.append_map.Goals as goal

pub loop-path-init : goal.loop-path-init
loop-path-init c =
    let gives = c.into_iter-path-iterator.ensures.into_iter_gives in
    let same = gives.0 ∙ sym (entries-keyed _ gives.5) in
    record {
      records = ap (with_records c.args.lists.now.records) same;
      nodes = ap (with_nodes c.args.lists.now.nodes.items) same;
      places = ap (with_places c.args.lists.now.places.items (length c.args.lists.now.records)) same;
    }

pub loop-path-preserved : goal.loop-path-preserved
loop-path-preserved c =
    let rs = c.loop-path.lists.records in
    let ns = c.loop-path.lists.nodes.items in
    let rest = c.next.new.self in
    let one = (c.in-Some.path, c.in-Some.entry) ∷ [] in
    record {
      records =
          ap (λ r. with_records r rest) c.in_ok-append.ensures.records
          ∙ records-append rs one rest
          ∙ ap (with_records rs) (sym c.in-Some.ensures.steps)
          ∙ c.loop-path.invariant.records;
      nodes =
          ap (λ n. with_nodes n rest) c.in_ok-append.ensures.nodes
          ∙ nodes-append ns one rest
          ∙ ap (with_nodes ns) (sym c.in-Some.ensures.steps)
          ∙ c.loop-path.invariant.nodes;
      places =
          places-next c.loop-path.lists.places.items c.append.new.self.places.items rs c.append.new.self.records one rest
          c.in_ok-append.ensures.records c.in_ok-append.ensures.places
          ∙ ap (with_places c.loop-path.lists.places.items (length rs)) (sym c.in-Some.ensures.steps)
          ∙ c.loop-path.invariant.places;
    }

pub returns : goal.returns
returns c = record {
  records = sym (append-nil _) ∙ ap (with_records c.loop-path.lists.records) (sym c.in-None.ensures.steps.0)
      ∙ c.loop-path.invariant.records;
  nodes = sym (append-nil _) ∙ ap (with_nodes c.loop-path.lists.nodes.items) (sym c.in-None.ensures.steps.0) ∙ c.loop-path.invariant.nodes;
  places =
      ap (with_places c.loop-path.lists.places.items (length c.loop-path.lists.records)) (sym c.in-None.ensures.steps.0)
      ∙ c.loop-path.invariant.places;
}
