use Rattle.std.proofs.Common.{◌∙◌, None, Some, ap, cond, sym}
use Rattle.std.proofs.lemmas.Result.{on_ok_weaker}
use Rattle.std.specs.FinMap.{get, get-remove}
use Rattle.cs_entries.specs.Entries.{entry_eq}
use Rattle.cs_entries.specs.Laws.Records.{entry_total}
use Rattle.cs_entries.specs.Paths.{entry_in}
use Rattle.cs_entries.specs.Tables.{Table}
use Rattle.cs_apm.specs.Laws.Mirrors.{get_inserted, turned}
use Rattle.cs_list.proofs.entries.put_slot.Goals as goal

pub returns-in-Some : goal.returns-in-Some
returns-in-Some c = on_ok_weaker c.put.result
    (λ is e.
    ap (λ (m : Table). get m e) is
    ∙ get_inserted c.args.held.now (entry_in c.args.entry.now.directory c.as_str.result.now) e c.in-Some.node
    ∙ ap (λ name. cond (entry_eq (entry_in c.args.entry.now.directory name) e) (Some c.in-Some.node) (get c.args.held.now e))
    c.as_str.ensures.value
    ∙ ap (λ s. cond (entry_eq c.args.entry.now e) s (get c.args.held.now e)) (sym c.in-Some.is))
    c.put.ensures

pub returns-in-None : goal.returns-in-None
returns-in-None c = λ e.
    let old = c.args.held.now in
    let entry = c.args.entry.now in
    ap (λ (m : Table). get m e) c.remove.ensures.state
    ∙ get-remove entry_total old (entry_in entry.directory c.as_str-in-None.result.now) e
    ∙ ap (λ b. cond b None (get old e)) (turned (entry_in entry.directory c.as_str-in-None.result.now) e)
    ∙ ap (λ name. cond (entry_eq (entry_in entry.directory name) e) None (get old e)) c.as_str-in-None.ensures.value
    ∙ ap (λ s. cond (entry_eq entry e) s (get old e)) (sym c.in-None.is)
