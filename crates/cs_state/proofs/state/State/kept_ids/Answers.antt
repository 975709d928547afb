use Rattle.std.proofs.Common.{◌<◌, Some, sym, ap, ◌∙◌, arith, subst, get_or}
use Rattle.std.proofs.lemmas.Option.{slice_get-get_or}
use Rattle.std.specs.Arc.{arc_value}
use Rattle.std.specs.Vec.{vec_len}
use Rattle.cs_state.specs.declared.parts.Parts.{Parts}
use Rattle.cs_state.specs.States.{places_in}
use Rattle.cs_state.proofs.Sharing.{ids_low}
use Rattle.cs_state.proofs.state.State.kept_ids.Goals as goal

pub index-requires : goal.index-requires
index-requires c =
    let s = c.args.self.now in
    let h = c.requires.state in
    let low = ids_low (arc_value s.parts) h.whole (places_in s) h.allowed s.moved h.counted in
    let long = (arc_value s.parts).shares.ids.ok.0 in
    subst (λ (p : Parts). s.moved < vec_len p.shares.ids) (sym c.deref.ensures) (omega (arith, low, long))

pub returns : goal.returns
returns c =
    let s = c.args.self.now in
    let h = c.requires.state in
    let low = ids_low (arc_value s.parts) h.whole (places_in s) h.allowed s.moved h.counted in
    slice_get-get_or (arc_value s.parts).shares.ids.items s.moved c.index.result.now low
    ∙ ap Some (sym (c.index.ensures ∙ ap (λ (p : Parts). get_or p.shares.ids.items s.moved c.index.result.now) c.deref.ensures))
