use Rattle.std.proofs.Common.{cond, Some, ap, ◌∙◌, arith}
use Rattle.std.specs.BTreeMap.{is_at}
use Rattle.std.specs.Map.{lookup}
use Rattle.std.specs.Option.{option_map_or}
use Rattle.std.specs.Ordering.{is_eq}
use Rattle.cs_tree_model.specs.Tree.{path_cmp, number_at}
use Rattle.cs_frozen.proofs.Entering.{below_zero, enters, below_all_numbers}
use Rattle.cs_frozen.proofs.numbering.numbers_by_path.Goals as goal

pub loop-number-init : goal.loop-number-init
loop-number-init g c =
    λ q. ap (λ es. lookup (is_at (path_cmp q)) es) c.new-paths.ensures.empty ∙ below_zero (number_at (g.T.TreeRead.tree c.args.tree.now) q)

pub loop-number-preserved : goal.loop-number-preserved
loop-number-preserved g c = λ q. c.in_ok-insert_if_some.ensures q
    ∙ (λ i. option_map_or (λ p. cond (is_eq (path_cmp p q)) (Some c.loop-number.number) (c.loop-number.invariant q i))
    (c.in_ok-path.ensures.value i) (c.loop-number.invariant q i))
    ∙ enters (g.T.TreeRead.tree c.args.tree.now) c.requires.is_tree c.loop-number.number q

pub returns : goal.returns
returns g c =
    λ q. c.loop-number.invariant q ∙ below_all_numbers (g.T.TreeRead.tree c.args.tree.now) c.requires.is_tree q c.loop-number.number
    (omega (arith, c.loop-number-test.false, c.requires.end))
