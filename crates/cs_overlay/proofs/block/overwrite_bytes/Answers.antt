use Rattle.std.proofs.Common.{◌++◌, ◌+◌, ◌-◌, take, drop, length, sym, ap, ◌∙◌, arith}
use Rattle.std.proofs.lemmas.List.{take-append-drop}
use Rattle.std.proofs.lemmas.Slice.{take-put_mid, drop-put_mid}
use Rattle.cs_overlay.proofs.block.overwrite_bytes.Goals as goal

pub returns-clause-bytes : goal.returns-clause-bytes
returns-clause-bytes c =
    let n = c.args.start + length c.args.piece.now in
    let r = c.requires in
    let long = ap length c.copy_from_slice.ensures.after in
    sym (take-append-drop n _)
    ∙ (λ i. take-put_mid c.args.start (n - c.args.start) c.args.bytes.now c.copy_from_slice.new.self n (omega (arith, long))
    (omega (arith, r)) i
    ++ drop-put_mid c.args.start (n - c.args.start) c.args.bytes.now c.copy_from_slice.new.self n (omega (arith)) (omega (arith, r))
    (omega (arith, long)) i)
    ∙ ap (λ v. take c.args.start c.args.bytes.now ++ v ++ drop n c.args.bytes.now) c.copy_from_slice.ensures.after
