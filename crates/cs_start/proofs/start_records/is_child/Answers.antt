use Rattle.std.proofs.Common.{◌≡◌, ◌∷◌, [], ◌++◌, sym, ◌∙◌}
use Rattle.cs_tree_model.specs.Laws.Paths.{snoc_front, snoc_last}
use Rattle.cs_start.proofs.Recorded.{first_decides, path_decides, second_decides, text_decides}
use Rattle.cs_start.proofs.start_records.is_child.Goals as goal

pub returns-then-eq : goal.returns-then-eq
returns-then-eq c =
    let p = c.args.path.now in
    let d = c.args.directory.now in
    let n = c.args.name.now in
    let above = c.in-Some.above in
    let last = c.in-Some.last.now in
    let parts : p ≡ above ++ last ∷ [] = sym c.names.ensures ∙ c.in-Some.ensures.0 in
    let is : c.names-then-eq.result ≡ d = c.names-then-eq.ensures in
    second_decides c.eq.result c.eq-then-eq.result (text_decides last n c.eq.result c.eq.ensures) c.if-eq.true
    (path_decides above c.names-then-eq.result c.eq-then-eq.result c.eq-then-eq.ensures)
    (λ names paths. parts ∙ (λ i. (paths ∙ is) i ++ names i ∷ []))
    (λ same. (
      snoc_last above d last n (sym parts ∙ same),
      snoc_front above d last n (sym parts ∙ same) ∙ sym is,
    ))

pub returns-else-eq : goal.returns-else-eq
returns-else-eq c =
    let above = c.in-Some.above in
    let last = c.in-Some.last.now in
    let parts : c.args.path.now ≡ above ++ last ∷ [] = sym c.names.ensures ∙ c.in-Some.ensures.0 in
    first_decides c.eq.result (text_decides last c.args.name.now c.eq.result c.eq.ensures) c.if-eq.false
    (λ same. snoc_last above c.args.directory.now last c.args.name.now (sym parts ∙ same))
