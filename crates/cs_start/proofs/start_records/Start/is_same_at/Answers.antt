use Rattle.std.proofs.Common.{Some, ap, sym, ◌∙◌}
use Rattle.std.proofs.lemmas.Option.{same_Some}
use Rattle.cs_tree_model.specs.Tree.{Path}
use Rattle.cs_tree_model.specs.declared.record.Record.{Record}
use Rattle.cs_start.specs.Starts.{record_at}
use Rattle.cs_start.proofs.Recorded.{first_decides, same-entry, same-record, second_decides}
use Rattle.cs_start.proofs.start_records.Start.is_same_at.Goals as goal

pub returns-then-has_same_record : goal.returns-then-has_same_record
returns-then-has_same_record c =
    let k = c.args.place in
    let a = c.entry.result in
    let b = c.entry-2.result in
    second_decides c.has_same_record.result c.are_same_paths.result c.has_same_record.ensures c.if-has_same_record.true
    c.are_same_paths.ensures
    (λ records paths. c.entry.ensures.value
    ∙ ap Some (same-entry k a.0.now b.0.now a.1.now b.1.now a.2.now b.2.now records paths)
    ∙ sym c.entry-2.ensures.value)
    (λ same.
    let one = same_Some (record_at k a.0.now a.1.now a.2.now) (record_at k b.0.now b.1.now b.2.now)
    (sym c.entry.ensures.value ∙ same ∙ c.entry-2.ensures.value) in
    (same-record k a.0.now b.0.now a.1.now b.1.now a.2.now b.2.now one, ap (λ (r : Path × Record). r.0) one))

pub returns-else-has_same_record : goal.returns-else-has_same_record
returns-else-has_same_record c =
    let k = c.args.place in
    let a = c.entry.result in
    let b = c.entry-2.result in
    first_decides c.has_same_record.result c.has_same_record.ensures c.if-has_same_record.false
    (λ same. same-record k a.0.now b.0.now a.1.now b.1.now a.2.now b.2.now
    (same_Some (record_at k a.0.now a.1.now a.2.now) (record_at k b.0.now b.1.now b.2.now)
    (sym c.entry.ensures.value ∙ same ∙ c.entry-2.ensures.value)))
