use Rattle.std.proofs.Common.{[], ◌∷◌, length, refl, sym, ap, ◌∙◌, subst}
use Rattle.std.proofs.lemmas.List.{length-map}
use Rattle.std.proofs.lemmas.Slice.{pushed}
use Rattle.std.specs.FinMap.{insert}
use Rattle.std.specs.Option.{is_some}
use Rattle.cs_entries.specs.Paths.{entry_in}
use Rattle.cs_entries.specs.declared.node.Node.TheVariants.{Directory}
use Rattle.cs_trace.specs.Homes.{AreFirst, home_of, homes_in}
use Rattle.cs_trace.specs.declared.homes.Home.{Home}
use Rattle.cs_trace.proofs.Homed.{first_none, first_some, homes_push}
use Rattle.cs_trace.proofs.homes.Homes.push.Goals as goal

pub invariant_of-self-then-is_some : goal.invariant_of-self-then-is_some
invariant_of-self-then-is_some c =
    let first = c.self.inside.first in
    let items = c.self.inside.list.items in
    let e = entry_in c.args.directory c.args.name.now in
    let home : Home = record { directory = c.args.directory; name = c.in_ok-kept.kept } in
    let more = ap homes_in (pushed (home ∷ []) refl c.in_ok-push.was c.push.ensures.items)
    ∙ homes_push items home c.args.directory c.args.name.now refl c.in_ok-kept.ensures.ok in
    subst (AreFirst first) (sym more)
    (first_some first (homes_in items) c.self.invariant e
    (ap is_some (sym c.get.ensures) ∙ sym c.is_some.ensures ∙ c.if-is_some.true))

pub invariant_of-self-in-Ok : goal.invariant_of-self-in-Ok
invariant_of-self-in-Ok c =
    let first = c.self.inside.first in
    let items = c.self.inside.list.items in
    let e = entry_in c.args.directory c.args.name.now in
    let home : Home = record { directory = c.args.directory; name = c.in_ok-kept.kept } in
    let more = ap homes_in (pushed (home ∷ []) refl c.in_ok-push.was c.push.ensures.items)
    ∙ homes_push items home c.args.directory c.args.name.now refl c.in_ok-kept.ensures.ok in
    let next = c.len-next.ensures ∙ c.self.inside.list.ok.0 ∙ sym (length-map items home_of) in
    let after = c.in-Ok.ensures.ok ∙ (λ i. insert first (entry_in c.args.directory (c.in_ok-key.ensures.ok i)) (Directory (next i))) in
    subst (λ t. AreFirst t (homes_in c.push.new.self.items)) (sym after)
    (subst (AreFirst (insert first e (Directory (length (homes_in items))))) (sym more)
    (first_none first (homes_in items) c.self.invariant e
    (ap is_some (sym c.get.ensures) ∙ sym c.is_some.ensures ∙ c.if-is_some.false)))
