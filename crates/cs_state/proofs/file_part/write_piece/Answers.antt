use Rattle.std.proofs.Common.{◌≡◌, ◌⊎◌, ℕ, ◌+◌, ◌<◌, ◌≤◌, inl, inr, ⊎_elim, arith, length, max, min}
use Rattle.std.proofs.lemmas.Bool.{cases_lt}
use Rattle.cs_state.proofs.Showing.{part_kept, part_written}
use Rattle.cs_state.proofs.file_part.write_piece.Goals as goal

pub returns-then-from-end-clause-part : goal.returns-then-from-end-clause-part
returns-then-from-end-clause-part c = λ f is.
    part_written c.args.offset c.args.at c.max-from.result c.min-end.result c.args.piece.now c.args.part.now f c.max-from.ensures
    c.min-end.ensures c.if-from-end.true c.put_at.new.bytes c.put_at.ensures is

apart : (offset at n m k : ℕ) → min (at + n) (offset + m) ≤ max at offset → k < m → (offset + k < at) ⊎ (at + n ≤ offset + k)
apart offset at n m k none low = ⊎_elim
    (λ (lt : offset + k < at). inl lt)
    (λ (ge : at ≤ offset + k). inr (omega (arith, none, low, ge)))
    (cases_lt (offset + k) at)

pub returns-else-from-end-clause-part : goal.returns-else-from-end-clause-part
returns-else-from-end-clause-part c = λ f is.
    let first : c.max-from.result ≡ max c.args.at c.args.offset = c.max-from.ensures in
    let last : c.min-end.result ≡ min (c.args.at + length c.args.piece.now) (c.args.offset + length c.args.part.now) = c.min-end.ensures in
    let none = c.if-from-end.false in
    part_kept c.args.at c.args.piece.now f c.args.offset c.args.part.now is
    (λ k low. apart c.args.offset c.args.at (length c.args.piece.now) (length c.args.part.now) k (omega (arith, first, last, none)) low)
