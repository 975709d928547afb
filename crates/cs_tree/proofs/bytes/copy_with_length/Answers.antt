use Rattle.std.proofs.Common.{◌≡◌, ◌<◌, ◌≤◌, ◌+◌, ◌-◌, ℕ, min, List, ◌++◌, take, length, replicate, sym, ap, ◌∙◌, ⊎_elim, arith}
use Rattle.std.proofs.lemmas.Bool.{cases_lt}
use Rattle.std.proofs.lemmas.List.{take-append-le, take-replicate, append-nil, take_all, length-take}
use Rattle.std.proofs.Math.Seq.{take-append-add}
use Rattle.cs_tree.proofs.bytes.copy_with_length.Goals as goal

cut_or_filled : (bytes : List ℕ) (n kept : ℕ) → kept ≡ min (length bytes) n
    → take n (take kept bytes) ++ replicate (n - kept) 0 ≡ take n (bytes ++ replicate n 0)
cut_or_filled bytes n kept is = ⊎_elim
    (λ (a : length bytes < n).
    let k : kept ≡ length bytes = omega (arith, is) in
    let e : length bytes + (n - length bytes) ≡ n = omega arith in
    (λ i. take n (take (k i) bytes) ++ replicate (n - k i) 0)
    ∙ ap (λ w. take n w ++ replicate (n - length bytes) 0) (take_all (length bytes) bytes (omega arith))
    ∙ ap (λ w. w ++ replicate (n - length bytes) 0) (take_all n bytes (omega arith))
    ∙ sym (ap (λ j. take j (bytes ++ replicate n 0)) (sym e) ∙ take-append-add bytes (replicate n 0) (n - length bytes)
    ∙ ap (λ w. bytes ++ w) (take-replicate (n - length bytes) n 0 (omega arith))))
    (λ (a : n ≤ length bytes).
    let k : kept ≡ n = omega (arith, is) in
    let z : n - n ≡ 0 = omega arith in
    (λ i. take n (take (k i) bytes) ++ replicate (n - k i) 0)
    ∙ ap (λ j. take n (take n bytes) ++ replicate j 0) z
    ∙ append-nil (take n (take n bytes)) ∙ take_all n (take n bytes) (omega (arith, length-take n bytes)) ∙ sym
    (take-append-le n bytes (replicate n 0) a))
    (cases_lt (length bytes) n)

pub returns : goal.returns
returns c =
    let kept = c.min-kept.result in
    let n = c.args.length in
    let bytes = c.args.bytes.now in
    let first : c.extend_from_slice.new.self.items ≡ take kept bytes =
    c.in_ok-extend_from_slice.ensures.items ∙ ap (λ w. w ++ take kept bytes) c.in_ok-copy.ensures.items in
    let len : c.extend_from_slice.new.self.len ≡ kept =
    omega (arith, c.in_ok-extend_from_slice.ensures.len, c.in_ok-copy.ensures.len, length-take kept bytes, c.min-kept.ensures) in
    c.in_ok-resize.ensures.items ∙ (λ i. take n (first i) ++ replicate (n - len i) 0) ∙ cut_or_filled bytes n kept c.min-kept.ensures
