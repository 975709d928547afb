use Rattle.std.proofs.Common.{◌≡◌, ◌<◌, refl, sym, ap, ◌∙◌, subst, length, take, get_or}
use Rattle.std.proofs.lemmas.List.{get_or_read, take_all}
use Rattle.cs_micro.specs.declared.micro_op.MicroOp.TheVariants.{Say}
use Rattle.cs_apm.specs.Contents.{content_after, content_left}
use Rattle.cs_apm.specs.Rules.{op_at}
use Rattle.cs_apm.proofs.Contents.{content_more, content_none}
use Rattle.cs_same_states.specs.Windows.{IsWindow}
use Rattle.cs_same_states.proofs.windows.apply_places.Goals as goal

pub loop-place-init : goal.loop-place-init
loop-place-init c = record {
  long = refl;
  window = λ f is. subst (λ g. IsWindow c.args.offset g c.args.size c.args.part.now)
      (content_none c.args.file f c.args.ops.now c.args.places.now) is;
}

pub loop-place-preserved : goal.loop-place-preserved
loop-place-preserved c =
    let i = c.loop-place.place-index in
    let ops = c.args.ops.now in
    let places = c.args.places.now in
    let place = get_or places i 0 in
    let low : i < length places = c.loop-place-test.true in
    let inside : place < length ops = c.requires.inside i 0 low in
    let op : c.index-ops-place.result ≡ op_at ops place = get_or_read ops place c.index-ops-place.result inside c.index-ops-place.is Say in
    record {
      long = c.apply_to_window-left.ensures.long ∙ c.loop-place.invariant.long;
      window = λ f is.
          subst (λ g. IsWindow c.args.offset g c.apply_to_window-left.result c.apply_to_window-left.new.part)
          (ap (content_after c.args.file (content_left c.args.file f ops (take i places))) op ∙ sym
          (content_more c.args.file f ops places i low))
          (c.apply_to_window-left.ensures.window (content_left c.args.file f ops (take i places)) (c.loop-place.invariant.window f is));
    }

pub returns-clause-window : goal.returns-clause-window
returns-clause-window c = λ f is.
    subst (λ ks. IsWindow c.args.offset (content_left c.args.file f c.args.ops.now ks) c.loop-place.left c.loop-place.part)
    (take_all c.loop-place.place-index c.args.places.now c.loop-place-test.false) (c.loop-place.invariant.window f is)
