use Rattle.std.proofs.Common.{length, sym, ◌∙◌, eq-eqb}
use Rattle.std.proofs.lemmas.Bool.{false≢true}
use Rattle.cs_micro.proofs.Counted.{written_some}
use Rattle.cs_micro.proofs.resizing.push_write.Goals as goal

pub returns-clause-memory : goal.returns-clause-memory
returns-clause-memory c refused =
    let bytes = c.args.bytes.now in
    written_some c.args.version c.args.file c.args.size c.args.offset bytes
    (λ none. false≢true (sym c.if-is_empty.false ∙ c.is_empty.ensures ∙ eq-eqb (length bytes) 0 none))

pub returns-in_err-push_growth-clause-memory : goal.returns-in_err-push_growth-clause-memory
returns-in_err-push_growth-clause-memory c refused =
    let bytes = c.args.bytes.now in
    written_some c.args.version c.args.file c.args.size c.args.offset bytes
    (λ none. false≢true (sym c.if-is_empty.false ∙ c.is_empty.ensures ∙ eq-eqb (length bytes) 0 none))
