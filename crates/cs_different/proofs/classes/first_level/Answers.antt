use Rattle.std.proofs.Common.{length, refl, sym, ap, ◌∙◌, ◌++◌, ◌∷◌, [], subst, ◌≡◌}
use Rattle.std.proofs.lemmas.List.Elements.{All-nil, All-cons}
use Rattle.std.specs.List.{All}
use Rattle.cs_sets.specs.Rows.{needed_in}
use Rattle.cs_different.specs.Classing.{IsClass}
use Rattle.cs_different.specs.declared.classes.Class.{Class}
use Rattle.cs_different.specs.Seen.{none_seen, see}
use Rattle.cs_different.proofs.Leading.{first_class}
use Rattle.cs_different.proofs.Numbered.{first_extends}
use Rattle.cs_different.proofs.Rows.{at_first}
use Rattle.cs_different.proofs.classes.first_level.Goals as goal

pub returns-clause-extends : goal.returns-clause-extends
returns-clause-extends c =
    let class : Class = record { members = c.empty-members.result; common = c.below-common.result } in
    first_extends (needed_in c.args.needed.now) (length c.args.needed.now) class c.push.new.self.items c.empty-members.ensures
    (c.in_ok-push.ensures.items ∙ ap (λ v. v ++ class ∷ []) c.new-level.ensures.items)

pub returns-clause-classes : goal.returns-clause-classes
returns-clause-classes c = λ wants.
    let needs = needed_in c.args.needed.now in
    let n = length c.args.needed.now in
    let class : Class = record { members = c.empty-members.result; common = c.below-common.result } in
    let P = IsClass (see wants) none_seen needs n 0 in
    let items : c.push.new.self.items ≡ [] ++ class ∷ [] = c.in_ok-push.ensures.items ∙ ap (λ v. v ++ class ∷ []) c.new-level.ensures.items
    in
    subst (All P) (sym items)
    (All-cons P class []
    (first_class (see wants) none_seen needs c.requires.backward n class (λ i. refl) c.empty-members.ensures
    (at_first needs n c.below-common.result c.below-common.ensures))
    (All-nil P))
