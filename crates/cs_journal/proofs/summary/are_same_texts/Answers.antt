use Rattle.std.proofs.Common.{◌∙◌, string_bytes, sym}
use Rattle.std.proofs.lemmas.Slice.Eq.{bytes_eq-Decides, slice_eq-Decides}
use Rattle.std.specs.Cmp.Derive.Mapped.{pointwise-map}
use Rattle.std.specs.Str.{bytes_eq}
use Rattle.cs_journal.proofs.summary.are_same_texts.Goals as goal

pub returns : goal.returns
returns c =
    slice_eq-Decides bytes_eq-Decides _ _ _ (c.eq.ensures ∙ sym (pointwise-map string_bytes bytes_eq c.args.texts.now c.args.others.now))
