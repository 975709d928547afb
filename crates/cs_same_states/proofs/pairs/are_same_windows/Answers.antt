use Rattle.std.proofs.Common.{◌+◌, ◌<◌, sym, ap, ◌∙◌, arith, length}
use Rattle.std.specs.Cmp.Lexicographic.{same_text}
use Rattle.cs_apm.specs.Contents.{content_left}
use Rattle.cs_apm.specs.States.{Content}
use Rattle.cs_state.specs.Windows.{byte_of, whole_content}
use Rattle.cs_same_states.proofs.Bytes.{same_windows}
use Rattle.cs_same_states.proofs.pairs.are_same_windows.Goals as goal

pub returns-clause-bytes : goal.returns-clause-bytes
returns-clause-bytes c = λ same i from low.
    let p = c.args.pair.now in
    let one = c.in_ok-window.window in
    let two = c.in_ok-other.other in
    let first : Content = content_left c.args.file (whole_content c.args.start.now) p.ops.now p.places.now in
    let second : Content = content_left c.args.file (whole_content c.args.start.now) p.ops.now p.others.now in
    let long = c.in_ok-window.ensures.long in
    let inside : i < c.args.span.offset + length one.bytes.items = omega (arith, low, long) in
    ap (λ f. byte_of (content_left c.args.file f p.ops.now p.places.now) i) (sym c.requires.start)
    ∙ same_windows c.args.span.offset one.size two.size first second one.bytes.items two.bytes.items c.in_ok-window.ensures.window
    c.in_ok-other.ensures.window (same_text _ _ (sym same ∙ c.eq.ensures)) i from inside
    ∙ ap (λ f. byte_of (content_left c.args.file f p.ops.now p.others.now) i) c.requires.start
