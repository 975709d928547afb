use Rattle.std.proofs.Common.{ap, sym, ◌∙◌}
use Rattle.std.specs.FinMap as map
use Rattle.std.specs.List.{list_any}
use Rattle.cs_tree_model.specs.Tree.{path_cmp}
use Rattle.cs_start.specs.Below.{is_below}
use Rattle.cs_start.specs.Siblings.{with_siblings}
use Rattle.cs_start.specs.Unions.{union}
use Rattle.cs_start.proofs.Around.{elsewhere-none}
use Rattle.cs_start.proofs.Unions.{empty-union}
use Rattle.cs_start.proofs.start_map.StartMap.keep_apart.Goals as goal

pub returns-then-has_below : goal.returns-then-has_below
returns-then-has_below c =
    let t = c.self.inside in
    ap (λ o. with_siblings o (map.from_entries {R = path_cmp} c.put_back.new.by_path.entries)) c.take-siblings.ensures.after
    ∙ c.in_ok-put_back.ensures
    ∙ ap (λ o. with_siblings o (map.from_entries {R = path_cmp} t.by_path.entries)) c.take-siblings.ensures.value
    ∙ c.self.view_is

pub invariant_of-self-2 : goal.invariant_of-self-2
invariant_of-self-2 c =
    elsewhere-none c.new.result c.put_back.new.by_path.entries
    (ap (λ d. list_any (λ e. is_below d e.0) c.put_back.new.by_path.entries)
    (c.new.ensures.directory ∙ c.in_ok-try_clone.ensures ∙ sym c.path.ensures)
    ∙ sym c.has_below.ensures.value ∙ c.if-has_below.false)

pub returns : goal.returns
returns c =
    let t = c.self.inside in
    let m = map.from_entries {R = path_cmp} c.put_back.new.by_path.entries in
    ap (λ s. union s m) c.new.ensures.entries
    ∙ empty-union m
    ∙ c.in_ok-put_back.ensures
    ∙ ap (λ o. with_siblings o (map.from_entries {R = path_cmp} t.by_path.entries)) c.take-siblings.ensures.value
    ∙ c.self.view_is
