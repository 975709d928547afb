use Rattle.std.proofs.Common.{◌∷◌, [], ◌++◌}
use Rattle.cs_tree_model.specs.Laws.Paths.{snoc_front, snoc_last}
use Rattle.cs_start.proofs.Recorded.{first_decides, path_decides, second_decides, text_decides}
use Rattle.cs_start.proofs.start_records.are_same_children.Goals as goal

pub returns-then-eq : goal.returns-then-eq
returns-then-eq c =
    let d = c.args.directory.now in
    let q = c.args.other.now in
    let n = c.args.name.now in
    let m = c.args.other_name.now in
    second_decides c.eq.result c.eq-then-eq.result (text_decides n m c.eq.result c.eq.ensures) c.if-eq.true
    (path_decides d q c.eq-then-eq.result c.eq-then-eq.ensures)
    (λ names paths i. paths i ++ names i ∷ []) (λ same. (snoc_last d q n m same, snoc_front d q n m same))

pub returns-else-eq : goal.returns-else-eq
returns-else-eq c =
    let n = c.args.name.now in
    let m = c.args.other_name.now in
    first_decides c.eq.result (text_decides n m c.eq.result c.eq.ensures) c.if-eq.false
    (λ same. snoc_last c.args.directory.now c.args.other.now n m same)
