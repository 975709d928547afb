use Rattle.std.proofs.Common.{◌≡◌, ◌++◌, ◌%◌, OnOk, map, slice_index, sym, ap, ◌∙◌, subst}
use Rattle.std.specs.List.{range_with_len}
use Rattle.std.specs.Option.{option_copied}
use Rattle.cs_overlay.specs.Patch.{piece_byte}
use Rattle.cs_overlay.proofs.Pieces.{piece_some, piece_none}
use Rattle.cs_overlay.proofs.reading.append_piece.Goals as goal

pub returns-in-Some : goal.returns-in-Some
returns-in-Some c = subst (λ w. OnOk c.append_part.result (c.append_part.new.out.items ≡ c.args.out.now.items ++ w))
    (ap (λ b. map (slice_index b) (range_with_len (c.args.at % 4096) c.args.count)) c.bytes.ensures ∙ piece_some c.in-Some.block.now
    c.args.shown.now c.args.shown_from c.args.at c.args.count c.requires.within
    ∙ ap (λ o. map (piece_byte (option_copied o) c.args.shown.now c.args.shown_from) (range_with_len c.args.at c.args.count))
    (sym c.in-Some.is))
    c.append_part.ensures

pub returns-in-None : goal.returns-in-None
returns-in-None c = subst (λ w. OnOk c.append_part-in-None.result (c.append_part-in-None.new.out.items ≡ c.args.out.now.items ++ w))
    (piece_none c.args.shown.now c.args.shown_from c.args.at c.args.count c.requires.after
    ∙ ap (λ o. map (piece_byte (option_copied o) c.args.shown.now c.args.shown_from) (range_with_len c.args.at c.args.count))
    (sym c.in-None.is))
    c.append_part-in-None.ensures
