use Rattle.std.proofs.Common.{◌≡◌, List, [], ◌∷◌, ◌++◌, append_assoc, ap, subst, sym, ◌∙◌}
use Rattle.std.proofs.lemmas.List.{append-nil}
use Rattle.std.specs.FinMap.{entries}
use Rattle.std.specs.String.{string_bytes}
use Rattle.cs_names.specs.Legal.{IsLegalName}
use Rattle.cs_tree_model.specs.Maps.Texts.{by_bytes}
use Rattle.cs_tree_model.specs.Tree.{NameBytes, Path}
use Rattle.cs_start.specs.Siblings.{HaveLegalNames, Siblings, in_directory}
use Rattle.cs_start.specs.declared.entry.StartEntry.{StartEntry}
use Rattle.cs_start.proofs.InDirectory.{Named}
use Rattle.cs_start.proofs.Named.{entries-whole}
use Rattle.cs_start.proofs.siblings.Siblings.push_to.Goals as goal

-- one entry more in the list, and one less to come
push_by : (items new old : List (Path × StartEntry)) (d path : Path) (name : NameBytes) (entry : StartEntry) (all rest : Named)
    → new ≡ items ++ (path, entry) ∷ [] → path ≡ d ++ name ∷ [] → all ≡ (name, entry) ∷ rest
    → items ++ in_directory d all ≡ old → new ++ in_directory d rest ≡ old
push_by items new old d path name entry all rest is at steps before =
    ap (λ es. es ++ in_directory d rest) (is ∙ ap (λ p. items ++ (p, entry) ∷ []) at)
    ∙ append_assoc items ((d ++ name ∷ [], entry) ∷ []) (in_directory d rest)
    ∙ ap (λ es. items ++ in_directory d es) (sym steps)
    ∙ before

pub loop-name-init : goal.loop-name-init
loop-name-init c =
    let s = c.self.inside in
    let gives = c.into_iter-name-iterator.ensures.into_iter_gives in
    record {
      all =
          ap (λ es. c.args.list.now.items ++ in_directory c.directory.inside.path (by_bytes es)) gives.0
          ∙ ap (λ d. c.args.list.now.items ++ in_directory d (by_bytes s.by_name.entries)) c.directory.view_is
          ∙ ap (λ es. c.args.list.now.items ++ es)
          (sym (entries-whole s.directory s.by_name.entries gives.5) ∙ ap (λ (s : Siblings). entries s.entries) c.self.view_is);
      legal = subst (λ es. HaveLegalNames (by_bytes es)) (sym gives.0) c.self.invariant;
    }

pub child-requires : goal.child-requires
child-requires c =
    subst IsLegalName (sym c.deref.ensures)
    (subst (λ es. HaveLegalNames (by_bytes es)) c.in-Some.ensures.steps c.loop-name.invariant.legal).0

pub loop-name-preserved : goal.loop-name-preserved
loop-name-preserved c = record {
  all = push_by c.loop-name.list.items c.push.new.self.items _ c.directory.inside.path c.in_ok-child.field-0
      (string_bytes c.in-Some.name)
      c.in-Some.entry (by_bytes c.loop-name.name-iterator) (by_bytes c.next.new.self) c.in_ok-push.ensures.items
      (c.in_ok-child.ensures ∙ ap (λ d. d ++ c.deref.result.now ∷ []) (sym c.directory.view_is)
      ∙ ap (λ n. c.directory.inside.path ++ n ∷ []) c.deref.ensures)
      (ap by_bytes c.in-Some.ensures.steps) c.loop-name.invariant.all;
  legal = (subst (λ es. HaveLegalNames (by_bytes es)) c.in-Some.ensures.steps c.loop-name.invariant.legal).1;
}

pub returns : goal.returns
returns c =
    sym (append-nil _)
    ∙ ap (λ es. c.loop-name.list.items ++ in_directory c.directory.inside.path (by_bytes es)) (sym c.in-None.ensures.steps.0)
    ∙ c.loop-name.invariant.all
