use Rattle.std.proofs.Common.{◌≡◌, get_or, ap, ◌∙◌, refl, subst, sym, unwrap_or, []}
use Rattle.std.specs.Option.{option_map}
use Rattle.std.specs.Prelude.{Some, slice_get}
use Rattle.cs_tree_model.specs.declared.record.Record.{Record}
use Rattle.cs_tree_model.specs.Tree.{Path}
use Rattle.cs_apm.specs.States.{no_record}
use Rattle.cs_apm.proofs.Before.{start_before}
use Rattle.cs_apm.proofs.Fields.{read_at}
use Rattle.cs_apm.proofs.files.file_before.Goals as goal

pub returns : goal.returns
returns c =
    let t = c.args.trace.now in
    let place = get_or c.args.starts.now c.args.file 0 in
    let content = c.content-content.result.now in
    let low = c.if-number-starts.false in
    let lent : option_map (λ (e : Path × Record). e.1.content) (slice_get t.records place) ≡ Some content =
    subst (λ es. option_map (λ (e : Path × Record). e.1.content) (slice_get es place) ≡ Some content) c.records.ensures.value
    c.content-content.ensures in
    let read = read_at (λ (e : Path × Record). e.1.content) t.records place no_record content (c.requires.starts.each c.args.file low) lent
    in
    start_before t c.args.ops.now c.args.starts.now c.requires.starts c.args.file (get_or t.records place no_record)
    c.in_ok-bytes.bytes.items
    c.of.result low refl (c.in_ok-bytes.ensures ∙ ap (λ v. unwrap_or v []) (sym read)) c.of.ensures
