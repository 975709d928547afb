-- A room that a read has filled from the front.
use Rattle.std.proofs.Common.{◌≡◌, ℕ, List, ◌++◌, length, take, drop, sym, ap, ◌∙◌}
use Rattle.std.proofs.Math.Seq.{take-append_seam}

-- bytes as long as the room take its place
pub filled : (len : ℕ) (bytes room : List ℕ) → length bytes ≡ len → take len (bytes ++ drop (length bytes) room) ≡ bytes
filled len bytes room long =
    ap (λ n. take n (bytes ++ drop (length bytes) room)) (sym long) ∙ take-append_seam bytes (drop (length bytes) room)
