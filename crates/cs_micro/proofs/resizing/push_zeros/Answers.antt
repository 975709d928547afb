use Rattle.std.proofs.Common.{◌≡◌, ◌++◌, ◌==◌, ap, cond, false, length, replicate, subst, sym, true, [], ◌∙◌}
use Rattle.std.proofs.lemmas.Bool.{ne_eqb}
use Rattle.std.proofs.lemmas.List.{length-replicate}
use Rattle.std.specs.Result.{OnOk}
use Rattle.cs_trace_lines.specs.Versions.{block_bytes, is_fourth}
use Rattle.cs_micro.specs.Blocks.{block_writes}
use Rattle.cs_micro.specs.MicroOperations.{block_of_version, bytes_micros}
use Rattle.cs_micro.specs.Pages.{zeros_behind}
use Rattle.cs_micro.proofs.resizing.push_zeros.Goals as goal

pub returns : goal.returns
returns c =
    let version = c.args.version in
    let file = c.args.file in
    let to = c.args.to in
    let zeros = zeros_behind c.args.size to in
    let count = c.count_zeros-count.result in
    let fourth : is_fourth version ≡ true = sym c.is_fourth.ensures ∙ c.if-not-is_fourth.false in
    let long : count ≡ length zeros = sym (length-replicate count 0) ∙ ap length c.count_zeros-count.ensures.zeros in
    let some : (length zeros == 0) ≡ false = ne_eqb (length zeros) 0 (λ none. c.if-count-eq0.false (long ∙ none)) in
    let same : c.deref.result.now ≡ zeros =
    c.deref.ensures.value ∙ c.in_ok-zeros.ensures.items_if_clones_equal (λ y is. is) ∙ c.count_zeros-count.ensures.zeros in
    let all = (λ i. block_writes (block_bytes (c.block_size.ensures i)) file to (same i))
    ∙ sym (ap (λ b. cond b (bytes_micros version file to zeros) []) fourth
    ∙ ap (λ b. cond b [] (block_writes (block_of_version version) file to zeros)) some) in
    subst (λ v. OnOk c.push_blocks.result (c.push_blocks.new.ops.items ≡ c.args.ops.now.items ++ v)) all c.push_blocks.ensures
