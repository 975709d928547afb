use Rattle.std.proofs.Common.{◌≡◌, ◌∙◌, ◌++◌, ◌-◌, ◌<◌, [], ℕ, ap, arith, get_or, length, sym}
use Rattle.std.proofs.lemmas.List.{append-nil, get_or_default}
use Rattle.cs_journal.proofs.Blocks.{Block, bytes_put, keeps_put, within_put}
use Rattle.cs_journal.proofs.written.put_last.Goals as goal

pub returns-in_err-extend_from_slice-clause-kept :
    goal.returns-in_err-extend_from_slice-clause-kept
returns-in_err-extend_from_slice-clause-kept c =
    let bs = c.args.blocks.now.items in
    let b : Block = c.index_mut.result.now in
    keeps_put bs (c.len-last.result - 1) b c.extend_from_slice.new.self [] (omega (arith, c.requires))
    (c.in_err-extend_from_slice.ensures.items ∙ ap (λ (v : Block). v.items) c.index_mut.ensures.value ∙ sym
    (append-nil (get_or bs (c.len-last.result - 1) b).items))

pub returns-clause-kept : goal.returns-clause-kept
returns-clause-kept c =
    keeps_put c.args.blocks.now.items (c.len-last.result - 1) c.index_mut.result.now c.extend_from_slice.new.self c.args.bytes.now
    (omega (arith, c.requires))
    (c.in_ok-extend_from_slice.ensures.items ∙ ap (λ (v : Block). v.items ++ c.args.bytes.now) c.index_mut.ensures.value)

start_is : (c : goal.In_ok-extend_from_slice)
    → c.in-Some.piece.start ≡ length (get_or c.args.blocks.now.items (c.len-last.result - 1) c.index_mut.result.now).items
start_is c =
    let bs = c.args.blocks.now.items in
    let i : ℕ = c.len-last.result - 1 in
    let within : i < length bs = omega (arith, c.requires) in
    let start : c.in-Some.piece.start ≡ length c.index.result.now.items =
    omega (arith, c.in-Some.ensures.start, c.len-start.ensures, c.index.result.now.ok) in
    start ∙ ap (λ (v : Block). length v.items) (c.index.ensures ∙ get_or_default bs i c.index.result.now c.index_mut.result.now within)

pub returns-clause-within : goal.returns-clause-within
returns-clause-within c =
    within_put c.args.blocks.now.items (c.len-last.result - 1) c.index_mut.result.now c.extend_from_slice.new.self c.args.bytes.now
    (omega (arith, c.requires))
    (c.in_ok-extend_from_slice.ensures.items ∙ ap (λ (v : Block). v.items ++ c.args.bytes.now) c.index_mut.ensures.value)
    c.in-Some.piece c.in-Some.ensures.block (start_is c) c.in-Some.ensures.len

pub returns-clause-bytes : goal.returns-clause-bytes
returns-clause-bytes c =
    bytes_put c.args.blocks.now.items (c.len-last.result - 1) c.index_mut.result.now c.extend_from_slice.new.self c.args.bytes.now
    (omega (arith, c.requires))
    (c.in_ok-extend_from_slice.ensures.items ∙ ap (λ (v : Block). v.items ++ c.args.bytes.now) c.index_mut.ensures.value)
    c.in-Some.piece c.in-Some.ensures.block (start_is c) c.in-Some.ensures.len
