use Rattle.std.proofs.Common.{◌≡◌, ◌<◌, ◌≤◌, ◌+◌, ◌-◌, ℕ, max, List, ◌++◌, take, drop, length, replicate, sym, ap, ◌∙◌, ⊎_elim, arith}
use Rattle.std.proofs.Common.{length-append}
use Rattle.std.proofs.lemmas.Bool.{cases_lt}
use Rattle.std.proofs.lemmas.List.{take-append-le, take-replicate, append-nil, drop_all, take_all, length-replicate}
use Rattle.std.proofs.Math.Seq.{take-append-add}
use Rattle.cs_tree_model.specs.Laws.Bytes.{placed_some}
use Rattle.cs_tree.proofs.bytes.write_growing.Goals as goal

front : (k m : ℕ) (items : List ℕ) → k ≤ m → take k (items ++ replicate (m - length items) 0) ≡ take k (items ++ replicate k 0)
front k m items le = ⊎_elim
    (λ (a : k < length items). take-append-le k items _ (omega arith) ∙ sym (take-append-le k items _ (omega arith)))
    (λ (a : length items ≤ k).
    let e : length items + (k - length items) ≡ k = omega arith in
    ap (λ j. take j (items ++ replicate (m - length items) 0)) (sym e) ∙ take-append-add items (replicate (m - length items) 0)
    (k - length items)
    ∙ ap (λ w. items ++ w)
    (take-replicate (k - length items) (m - length items) 0 (omega arith) ∙ sym (take-replicate (k - length items) k 0 (omega arith)))
    ∙ sym (ap (λ j. take j (items ++ replicate k 0)) (sym e) ∙ take-append-add items (replicate k 0) (k - length items)))
    (cases_lt k (length items))

behind : (e m : ℕ) (items : List ℕ) → m ≡ max (length items) e → drop e (items ++ replicate (m - length items) 0) ≡ drop e items
behind e m items is = ⊎_elim
    (λ (a : e < length items). let z : m - length items ≡ 0 = omega (arith, is) in
    ap (λ j. drop e (items ++ replicate j 0)) z ∙ ap (drop e) (append-nil items))
    (λ (a : length items ≤ e).
    drop_all e (items ++ replicate (m - length items) 0)
    (omega (arith, is, length-append items (replicate (m - length items) 0), length-replicate {A = ℕ} (m - length items) 0))
    ∙ sym (drop_all e items a))
    (cases_lt e (length items))

pub returns-clause-ok : goal.returns-clause-ok
returns-clause-ok c =
    let k = c.args.offset in
    let items = c.args.content.now.items in
    let m = c.max-length.result in
    let e = k + length c.args.bytes.now in
    let w = c.overwrite.new.content in
    let len = c.args.content.now.ok.0 in
    let is : m ≡ max (length items) e = c.max-length.ensures ∙ ap (λ n. max n e) (c.len.ensures ∙ len) in
    let same : c.deref_mut.result.now ≡ items ++ replicate (m - length items) 0 =
    c.deref_mut.ensures.value ∙ c.in_ok-resize.ensures.items ∙ ap (λ n. take m items ++ replicate (m - n) 0) len ∙ ap
    (λ z. z ++ replicate (m - length items) 0) (take_all m items (omega (arith, is))) in
    let long : length w ≡ length c.resize.new.self.items = c.overwrite.ensures.length ∙ ap length c.deref_mut.ensures.value in
    ap (λ n. take n (w ++ drop (length w) c.resize.new.self.items)) c.resize.new.self.ok.0 ∙ ap (take (length c.resize.new.self.items))
    (ap (λ z. w ++ z) (drop_all (length w) c.resize.new.self.items (omega (arith, long))) ∙ append-nil w)
    ∙ take_all (length c.resize.new.self.items) w (omega (arith, long))
    ∙ c.overwrite.ensures.bytes
    ∙ (λ i. take k (same i) ++ c.args.bytes.now ++ drop e (same i))
    ∙ (λ i. front k m items (omega (arith, is)) i ++ c.args.bytes.now ++ behind e m items is i)
    ∙ placed_some k c.args.bytes.now items c.requires.some
