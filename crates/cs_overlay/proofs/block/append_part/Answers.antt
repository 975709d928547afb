use Rattle.std.proofs.Common.{◌+◌, ◌++◌, ap, ◌∙◌}
use Rattle.cs_overlay.proofs.Pieces.{grown}
use Rattle.cs_overlay.proofs.block.append_part.Goals as goal

pub returns : goal.returns
returns c =
    c.in_ok-resize.ensures.items ∙ grown c.args.out.now.items c.args.source.now c.extend_from_slice.new.self.items c.args.start c.args.count
    _ _
    (c.in_ok-extend_from_slice.ensures.items ∙ ap (λ p. c.args.out.now.items ++ p) c.part_of.ensures)
    (ap (λ n. n + c.args.count) (c.len.ensures ∙ c.args.out.now.ok.0)) c.extend_from_slice.new.self.ok.0
