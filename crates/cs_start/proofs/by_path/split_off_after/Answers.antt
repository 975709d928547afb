use Rattle.std.proofs.Common.{◌≡◌, ◌++◌, Option, ap, subst, sym, ◌∙◌}
use Rattle.std.proofs.lemmas.List.{append-nil}
use Rattle.std.specs.FinMap as map
use Rattle.std.specs.Prelude.{IfNone, IfSome}
use Rattle.cs_tree_model.specs.Tree.{Path, path_cmp}
use Rattle.cs_start.specs.Siblings.{BeginsAt}
use Rattle.cs_start.proofs.Around.{none_after, none_before, split_after, split_before, split_parts}
use Rattle.cs_start.proofs.Views.{entries-empty}
use Rattle.cs_start.proofs.by_path.split_off_after.Goals as goal

pub returns-in-None : goal.returns-in-None
returns-in-None c =
    let s = c.args.siblings.now in
    let none : s.entries ≡ map.empty =
    subst (λ (o : Option Path). IfNone o (s.entries ≡ map.empty)) c.in-None.is c.in_ok-first.ensures.none in
    let nothing = ap (λ es. map.entries (map.from_entries {R = path_cmp} es)) c.new.ensures.empty ∙ entries-empty in
    record {
      parts =
          sym (append-nil _)
          ∙ ap (λ es. map.entries (map.from_entries {R = path_cmp} c.args.others.now.entries) ++ es) (sym nothing);
      before = none_before s _ none;
      after = none_after s _ none;
    }

pub returns-in-Some : goal.returns-in-Some
returns-in-Some c =
    let s = c.args.siblings.now in
    let first = c.in-Some.first in
    let begins = subst (λ (o : Option Path). IfSome o (λ path. BeginsAt s.entries path)) c.in-Some.is c.in_ok-first.ensures.some in
    let old = c.args.others.now.entries in
    let new = c.split_off.new.self.entries in
    let r = c.split_off.result in
    let order = c.requires.order in
    let split = c.split_off.ensures in
    record {
      parts = split_parts old new order split.ordered r split.rest_ordered split.parts;
      before = split_before old new order split.ordered r s first begins c.requires.all split.below;
      after = split_after old new order split.ordered r s first begins c.requires.all c.requires.below split.rest_ordered split.parts
          split.from;
    }
