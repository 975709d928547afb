use Rattle.std.proofs.Common.{◌≡◌, true, refl, sym, ap, ◌∙◌, subst, map, fold, arith}
use Rattle.cs_apm.specs.Atlases.{content_before}
use Rattle.cs_apm.specs.Rules.{op_at}
use Rattle.cs_apm.specs.States.{Content}
use Rattle.cs_state.specs.Windows.{size_after}
use Rattle.cs_state.proofs.Showing.{left_size}
use Rattle.cs_same_states.specs.Pairs.{first_content}
use Rattle.cs_same_states.specs.Reaching.{reaches}
use Rattle.cs_same_states.proofs.Keeping.{if_ok_by}
use Rattle.cs_same_states.proofs.pairs.is_settled.Goals as goal

pub returns : goal.returns
returns c =
    let p = c.args.pair.now in
    let file = c.args.file in
    let sized : (first_content p file).size ≡ c.size_after_places-size.result =
    left_size file (content_before p.trace.now p.ops.now file) p.ops.now p.places.now
    ∙ ap (λ (f : Content). fold (size_after file) f.size (map (op_at p.ops.now) p.places.now)) (sym c.start_bytes-start.ensures)
    ∙ sym c.size_after_places-size.ensures in
    if_ok_by c.are_same_windows.result (λ same size bytes yes. record {
      size = size yes;
      owner = c.if-not-are_same_owners.ensures refl;
      bytes = λ i low hits.
          let reached =
          c.span_reached-span.ensures.all file i (omega (arith, low, sized))
          (subst (λ v. reaches v file i c.args.op.now ≡ true) (sym c.floor_of.ensures) hits) in
          bytes yes i reached.0 reached.1;
    }) c.are_same_windows.ensures.size c.are_same_windows.ensures.bytes
