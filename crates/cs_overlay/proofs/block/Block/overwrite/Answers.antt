use Rattle.std.proofs.Common.{◌≡◌, ◌++◌, take, drop, length, ap, ◌∙◌, arith}
use Rattle.std.proofs.lemmas.List.{append-nil, drop_all, take_all}
use Rattle.cs_overlay.specs.Patch.{put_in}
use Rattle.cs_overlay.proofs.block.Block.overwrite.Goals as goal

pub returns : goal.returns
returns c =
    let items = c.self.inside.bytes.items in
    let w = c.overwrite_bytes.new.bytes in
    let long : length w ≡ length items = c.overwrite_bytes.ensures.length ∙ ap length c.deref_mut.ensures.value in
    ap (λ n. take n (w ++ drop (length w) items)) c.self.inside.bytes.ok.0 ∙ ap (take (length items))
    (ap (λ z. w ++ z) (drop_all (length w) items (omega (arith, long))) ∙ append-nil w)
    ∙ take_all (length items) w (omega (arith, long)) ∙ c.overwrite_bytes.ensures.bytes ∙ ap (put_in c.args.start c.args.piece.now)
    (c.deref_mut.ensures.value ∙ c.self.view_is)
