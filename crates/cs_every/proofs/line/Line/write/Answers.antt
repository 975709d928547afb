use Rattle.std.proofs.Common.{◌≡◌, ◌-◌, [], ◌++◌, codes, drop, take, length, ap, sym, subst, ◌∙◌, arith, length-drop}
use Rattle.std.proofs.lemmas.List.{take_all}
use Rattle.std.specs.Io.KnownBytes.{Appends}
use Rattle.cs_every.specs.Texts.{pick_line}
use Rattle.cs_every.proofs.Kept.{line_of_text, nothing_in}
use Rattle.cs_every.proofs.Written.{three_parts}
use Rattle.cs_every.proofs.line.Line.write.Goals as goal

pub returns-in_ok-write_bytes-in-empty-clause-text : goal.returns-in_ok-write_bytes-in-empty-clause-text
returns-in_ok-write_bytes-in-empty-clause-text g c =
    let line = c.self.inside in
    let empty : line.text.items ≡ [] = sym c.as_slice.ensures.value ∙ nothing_in c.as_slice.result.now c.in-empty.len_below in
    subst (λ v. Appends (g.W.Write.contents c.args.out.now) (g.W.Write.contents c.write_bytes.new.out) v)
    (ap (λ v. codes "[" ++ (drop 1 v ++ codes "]\n")) (sym empty)
    ∙ line_of_text line.starts line.text.items line.set c.args.self.now c.self.invariant c.self.view_is)
    c.in_ok-write_bytes-in-empty.ensures.text

pub returns-in_ok-write_bytes-in-len1-up-3-clause-text : goal.returns-in_ok-write_bytes-in-len1-up-3-clause-text
returns-in_ok-write_bytes-in-len1-up-3-clause-text g c =
    let line = c.self.inside in
    let text = c.as_slice.result.now in
    three_parts (g.W.Write.contents c.args.out.now) (g.W.Write.contents c.write_bytes-in-len1-up.new.out)
    (g.W.Write.contents c.write_bytes-in-len1-up-2.new.out) (g.W.Write.contents c.write_bytes-in-len1-up-3.new.out)
    (codes "[") (take (length text - 1) (drop 1 text)) (codes "]\n") (pick_line c.args.self.now)
    c.in_ok-write_bytes-in-len1-up.ensures.text c.in_ok-write_bytes-in-len1-up-2.ensures.text
    c.in_ok-write_bytes-in-len1-up-3.ensures.text
    (ap (λ v. codes "[" ++ (v ++ codes "]\n")) (take_all (length text - 1) (drop 1 text) (omega (arith, length-drop 1 text)))
    ∙ ap (λ v. codes "[" ++ (drop 1 v ++ codes "]\n")) c.as_slice.ensures.value
    ∙ line_of_text line.starts line.text.items line.set c.args.self.now c.self.invariant c.self.view_is)
