use Rattle.std.proofs.Common.{arith, ap, ◌∙◌, length, ◌≡◌, List}
use Rattle.cs_micro.specs.Micros.{Micros}
use Rattle.cs_micro.specs.declared.micro_op.MicroOp.{MicroOp}
use Rattle.cs_plan.specs.Scenes.{micros_of, says_of}
use Rattle.cs_sets.specs.Places.{places_of}
use Rattle.cs_different.specs.Digests.{digest_of, with_part}
use Rattle.cs_different.specs.Sets.{says_left, tree_left}
use Rattle.cs_different.proofs.Chosen.{few_places}
use Rattle.cs_different.proofs.leaving.leave.Goals as goal

pub count_says-says-requires-clause-few : goal.count_says-says-requires-clause-few
count_says-says-requires-clause-few c =
    let few = few_places c.args.set.now in
    let long : length c.deref-2.result.now ≡ length (places_of c.args.set.now) = ap length (c.deref-2.ensures.value ∙
    c.in_ok-places.ensures) in
    omega (arith, few, long)

pub returns : goal.returns
returns c =
    let s = c.args.scene.now in
    let places = places_of c.args.set.now in
    let tree : c.in_ok-tree.tree ≡ tree_left s places =
    c.in_ok-tree.ensures ∙ ap (tree_left s) (c.deref.ensures.value ∙ c.in_ok-places.ensures) in
    let says : c.count_says-says.result ≡ says_left s places =
    c.count_says-says.ensures
    ∙ ap (λ (o : List MicroOp). says_of o c.deref-2.result.now) (c.ops.ensures.value ∙ ap (λ (m : Micros). m.ops) c.micros.ensures)
    ∙ ap (says_of (micros_of s).ops) (c.deref-2.ensures.value ∙ c.in_ok-places.ensures) in
    record {
      tree = tree;
      says = says;
      digest = c.mix-digest.ensures ∙ ap (λ d. with_part d c.from.result) (c.in_ok-digest_tree.ensures ∙ ap digest_of tree)
          ∙ ap (with_part (digest_of (tree_left s places))) (c.from.ensures ∙ says);
    }
