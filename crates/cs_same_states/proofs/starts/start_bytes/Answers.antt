use Rattle.std.proofs.Common.{◌≡◌, ◌<◌, ◌-◌, List, [], ℕ, Option, None, Some, Bor, refl, sym, ap, ◌∙◌, subst, arith, length, get_or}
use Rattle.std.proofs.lemmas.List.{get_or_read}
use Rattle.std.specs.Option.{option_copied, unwrap_or}
use Rattle.cs_tree_model.specs.declared.record.Record.{Record}
use Rattle.cs_tree_model.specs.Tree.{Path}
use Rattle.cs_apm.specs.States.{files_made, no_content, no_record}
use Rattle.cs_apm.proofs.Before.{made_before, start_before}
use Rattle.cs_apm.proofs.Fields.{read_at}
use Rattle.cs_state.specs.Windows.{whole_content}
use Rattle.cs_same_states.proofs.starts.start_bytes.Goals as goal

-- what is lent, or nothing
lent_or : (o : Option (Bor (List ℕ))) (r d : Bor (List ℕ)) (content : Option (List ℕ)) → r ≡ unwrap_or o d → d.now ≡ []
    → option_copied o ≡ content → r.now ≡ unwrap_or content []
lent_or None r d content is none same = ap (λ (v : Bor (List ℕ)). v.now) is ∙ none ∙ ap (λ w. unwrap_or w []) same
lent_or (Some b) r d content is none same = ap (λ (v : Bor (List ℕ)). v.now) is ∙ ap (λ w. unwrap_or w []) same

pub returns-then-file-len : goal.returns-then-file-len
returns-then-file-len c =
    let starts = c.args.tables.now.starts.items in
    let long : c.len.result ≡ length starts = c.len.ensures ∙ c.args.tables.now.starts.ok.0 in
    let high = c.if-file-len.true in
    let same = c.len-then-file-len.ensures ∙ c.args.tables.now.starts.ok.0 in
    made_before c.args.trace.now c.args.ops.now starts c.requires.starts c.args.file (whole_content c.made_bytes.result.now)
    (omega (arith, long, high))
    (c.made_bytes.ensures ∙ ap (λ (k : ℕ). get_or (files_made c.args.ops.now) (c.args.file - k) no_content) same)

pub returns : goal.returns
returns c =
    let trace = c.args.trace.now in
    let starts = c.args.tables.now.starts.items in
    let long : c.len.result ≡ length starts = c.len.ensures ∙ c.args.tables.now.starts.ok.0 in
    let not_high = c.if-file-len.false in
    let low : c.args.file < length starts = omega (arith, long, not_high) in
    let place : c.index.result.now ≡ get_or starts c.args.file 0 =
    get_or_read starts c.args.file c.index.result.now low c.index.ensures 0 in
    let records = c.records.ensures.value in
    let inside : c.index.result.now < length c.records.result.now =
    subst (λ (es : List (Path × Record)). c.index.result.now < length es) (sym records)
    (subst (λ n. n < length trace.records) (sym place) (c.requires.starts.each c.args.file low)) in
    let content = c.content-content.result.now in
    let read =
    read_at (λ (e : Path × Record). e.1.content) c.records.result.now c.index.result.now no_record content inside
    c.content-content.ensures in
    start_before trace c.args.ops.now starts c.requires.starts c.args.file (get_or c.records.result.now c.index.result.now no_record)
    c.unwrap_or.result.now (whole_content c.unwrap_or.result.now) low
    (λ i. get_or (records i) (place i) no_record)
    (lent_or c.bytes.result c.unwrap_or.result _ _ c.unwrap_or.ensures refl c.bytes.ensures ∙ ap (λ v. unwrap_or v []) (sym read))
    refl
