use Rattle.std.proofs.Common.{◌≡◌, ◌+◌, ◌-◌, ◌<◌, ap, arith, get_or, length, refl, subst, sym, ◌∙◌}
use Rattle.std.proofs.lemmas.List.{get_or_default}
use Rattle.cs_entries.specs.declared.node.Node.TheVariants.{Directory}
use Rattle.cs_apm.specs.Making.{with_directory_noted}
use Rattle.cs_apm.proofs.Marking.{put_back}
use Rattle.cs_apm.proofs.Starting.{AreNotedFrom, directory_noted, length-noted, none_noted}
use Rattle.cs_apm.proofs.start.directory_places.Goals as goal

pub loop-k-init : goal.loop-k-init
loop-k-init c = record {
  long = sym c.in_ok-places.places.ok.0 ∙ c.in_ok-places.ensures.len;
  each = none_noted c.args.nodes.now c.args.count _ c.in_ok-places.places.items
      (c.in_ok-places.ensures.items_if_clones_equal (λ y is. is)) refl;
}

pub loop-k-preserved : goal.loop-k-preserved
loop-k-preserved c =
    let k = c.loop-k.k - 1 in
    let nodes = c.args.nodes.now in
    let count = c.args.count in
    let x = get_or nodes k (Directory 0) in
    let old = c.loop-k.places.items in
    let low : k < length nodes = omega arith in
    let more : c.loop-k.k ≡ k + 1 = omega arith in
    let new = c.note_directory.ensures ∙ ap (λ v. with_directory_noted v x k) c.deref_mut.ensures.value in
    let left = c.note_directory.new.places in
    let back = put_back left old c.loop-k.places.len (ap length new ∙ length-noted old x k) c.loop-k.places.ok.0 in
    record {
      long = ap length (back ∙ new) ∙ length-noted old x k ∙ c.loop-k.invariant.long;
      each = subst (AreNotedFrom nodes count k) (sym (back ∙ new))
          (directory_noted nodes count k x old low (get_or_default nodes k (Directory 0) x low) c.loop-k.invariant.long
          (subst (λ m. AreNotedFrom nodes count m old) more c.loop-k.invariant.each));
    }
