use Rattle.std.proofs.Common.{◌≡◌, ◌<◌, ◌-◌, ◌++◌, ◌∷◌, [], sym, ap, ◌∙◌, subst, length}
use Rattle.std.proofs.lemmas.List.{get_or_read}
use Rattle.std.proofs.lemmas.Result.{IfOk-weaker}
use Rattle.cs_entries.specs.DirEntries.{root_home}
use Rattle.cs_entries.specs.Positions.{climb}
use Rattle.cs_apm.specs.Slots.{entry_at}
use Rattle.cs_paths.specs.PathOrders.{position_by}
use Rattle.cs_paths.proofs.Climbs.{climb_up}
use Rattle.cs_paths.proofs.climbing.+climb.Goals as goal

pub returns : goal.returns
returns t c =
    let es = c.args.entries.now in
    let at = position_by es c.args.positions.now in
    let d = c.args.directory in
    let deep = c.args.deep in
    let place = c.position_of-position.result in
    let entry = c.index-entries-position.result in
    let inside : place < length es = subst (λ p. p < length es) (sym c.position_of-position.ensures) (c.requires d) in
    let is : entry ≡ at d =
    get_or_read es place entry inside c.index-entries-position.is root_home ∙ ap (entry_at es) c.position_of-position.ensures in
    IfOk-weaker c.child.result _ _ (λ path h.
    h ∙ (λ i. c.in_ok-above.ensures i ++ c.as_str.ensures.value i ∷ [])
    ∙ (λ i. climb at (deep - 1) (is i).directory ++ (is i).name ∷ [])
    ∙ sym (climb_up at deep d c.if-deep-eq0.false c.if-directory-eq0.false))
    c.child.ensures
