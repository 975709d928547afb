use Rattle.std.proofs.Common.{◌≡◌, ◌+◌, length, ◌∙◌}
use Rattle.std.specs.Arc.{arc_value}
use Rattle.cs_state.specs.States.{places_in}
use Rattle.cs_state.proofs.Sharing.{count_is, order_there}
use Rattle.cs_state.proofs.state.State.count.Goals as goal

pub returns : goal.returns
returns c =
    let s = c.args.self.now in
    let h = c.requires.state in
    let ks = c.kept_ids.result.now in
    let o = order_there (arc_value s.parts) h.whole (places_in s) h.allowed s.moved h.counted in
    let kept : c.len.result ≡ length ks.kept.items = c.len.ensures ∙ ks.kept.ok.0 in
    let own : c.len-2.result ≡ length s.own.items = c.len-2.ensures ∙ s.own.ok.0 in
    (λ i. kept i + own i) ∙ count_is (arc_value s.parts) (places_in s) s.moved s.own.items h o.0 o.1 ks c.kept_ids.ensures
