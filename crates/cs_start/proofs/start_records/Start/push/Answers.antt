use Rattle.std.proofs.Common.{[], ◌∷◌, ap, sym, ◌∙◌, subst}
use Rattle.cs_start.specs.Entries.{with_records}
use Rattle.cs_start.specs.Starts.{AreLegalEntries, start_records}
use Rattle.cs_start.specs.declared.start_records.StartPath.TheVariants.{Whole}
use Rattle.cs_start.proofs.Recorded.{legal-push, start-push}
use Rattle.cs_start.proofs.start_records.Start.push.Goals as goal

pub invariant_of-self-2 : goal.invariant_of-self-2
invariant_of-self-2 c =
    subst AreLegalEntries (sym c.in_ok-push.ensures.items)
    (legal-push c.self.inside.entries.items (Whole c.args.path, c.args.entry) c.self.invariant tt)

pub returns : goal.returns
returns c =
    let d = c.self.inside.directory in
    ap (start_records d) c.in_ok-push.ensures.items
    ∙ start-push d c.self.inside.entries.items (Whole c.args.path, c.args.entry)
    ∙ ap (λ rs. with_records rs ((c.args.path, c.args.entry) ∷ [])) c.self.view_is
