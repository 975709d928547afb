use Rattle.std.proofs.Common.{◌≡◌, List, length, ◌∷◌, [], ◌++◌, ap, subst, sym, ◌∙◌}
use Rattle.std.proofs.lemmas.List.{append-nil}
use Rattle.std.specs.FinMap.{entries}
use Rattle.std.specs.String.{string_bytes}
use Rattle.cs_tree_model.specs.Maps.Texts.{by_bytes}
use Rattle.cs_tree_model.specs.Tree.{Path}
use Rattle.cs_start.specs.Entries.{with_nodes, with_records}
use Rattle.cs_start.specs.Owned.{with_places}
use Rattle.cs_start.specs.Siblings.{HaveLegalNames, Siblings, in_directory}
use Rattle.cs_start.specs.declared.entry.StartEntry.{StartEntry}
use Rattle.cs_start.proofs.Named.{entries-whole}
use Rattle.cs_start.proofs.Numbered.{nodes-append, places-next, records-append}
use Rattle.cs_start.proofs.siblings.Siblings.append_to.Goals as goal

pub loop-name-init : goal.loop-name-init
loop-name-init c =
    let s = c.self.inside in
    let gives = c.into_iter-name-iterator.ensures.into_iter_gives in
    let same =
    ap (λ es. in_directory c.directory.inside.path (by_bytes es)) gives.0
    ∙ ap (λ d. in_directory d (by_bytes s.by_name.entries)) c.directory.view_is
    ∙ sym (entries-whole s.directory s.by_name.entries gives.5)
    ∙ ap (λ (s : Siblings). entries s.entries) c.self.view_is in
    record {
      records = ap (with_records c.args.lists.now.records) same;
      nodes = ap (with_nodes c.args.lists.now.nodes.items) same;
      places = ap (with_places c.args.lists.now.places.items (length c.args.lists.now.records)) same;
      legal = subst (λ es. HaveLegalNames (by_bytes es)) (sym gives.0) c.self.invariant;
    }

pub append_child-requires : goal.append_child-requires
append_child-requires c = (subst (λ es. HaveLegalNames (by_bytes es)) c.in-Some.ensures.steps c.loop-name.invariant.legal).0

pub loop-name-preserved : goal.loop-name-preserved
loop-name-preserved c =
    let d = c.directory.inside.path in
    let rs = c.loop-name.lists.records in
    let ns = c.loop-name.lists.nodes.items in
    let ps = c.loop-name.lists.places.items in
    let rest = in_directory d (by_bytes c.next.new.self) in
    let one : List (Path × StartEntry) = (d ++ string_bytes c.in-Some.name ∷ [], c.in-Some.entry) ∷ [] in
    let at : (c.path.result.now ++ string_bytes c.in-Some.name ∷ [], c.in-Some.entry) ∷ [] ≡ one =
    ap (λ d. (d ++ string_bytes c.in-Some.name ∷ [], c.in-Some.entry) ∷ []) (c.path.ensures ∙ sym c.directory.view_is) in
    let back = ap (λ es. in_directory d (by_bytes es)) (sym c.in-Some.ensures.steps) in
    let records = c.in_ok-append_child.ensures.records ∙ ap (with_records rs) at in
    record {
      records =
          ap (λ r. with_records r rest) records ∙ records-append rs one rest ∙ ap (with_records rs) back
          ∙ c.loop-name.invariant.records;
      nodes =
          ap (λ n. with_nodes n rest) (c.in_ok-append_child.ensures.nodes ∙ ap (with_nodes ns) at)
          ∙ nodes-append ns one rest
          ∙ ap (with_nodes ns) back
          ∙ c.loop-name.invariant.nodes;
      places =
          places-next ps c.append_child.new.self.places.items rs c.append_child.new.self.records one rest records
          c.in_ok-append_child.ensures.places
          ∙ ap (with_places ps (length rs)) back
          ∙ c.loop-name.invariant.places;
      legal = (subst (λ es. HaveLegalNames (by_bytes es)) c.in-Some.ensures.steps c.loop-name.invariant.legal).1;
    }

pub returns : goal.returns
returns c =
    let d = c.directory.inside.path in
    let none = ap (λ es. in_directory d (by_bytes es)) (sym c.in-None.ensures.steps.0) in
    record {
      records = sym (append-nil _) ∙ ap (with_records c.loop-name.lists.records) none ∙ c.loop-name.invariant.records;
      nodes = sym (append-nil _) ∙ ap (with_nodes c.loop-name.lists.nodes.items) none ∙ c.loop-name.invariant.nodes;
      places = ap (with_places c.loop-name.lists.places.items (length c.loop-name.lists.records)) none ∙ c.loop-name.invariant.places;
    }
