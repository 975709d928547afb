-- The bytes of a file of which only some parts are given.
use Rattle.std.specs.Prelude.{ℕ, ◌+◌, ◌&&◌, nat_le, nat_lt, Bool, true, List, [], ◌∷◌, ◌++◌}
use Rattle.std.specs.Prelude.{length, take, drop, replicate, fold}

-- some bytes of a file, and where in it they begin
pub record Part : Type 0 where
  pub at : ℕ
  pub bytes : List ℕ

-- the offset at which a part ends
abbrev pub end_of : Part → ℕ
end_of p = p.at + length p.bytes

-- a part has a byte, begins at this offset or after it, and ends at the end of the file or before
-- it
abbrev pub lies_between : ℕ → ℕ → Part → Bool
lies_between from count p =
    nat_lt 0 (length p.bytes) && nat_le from p.at && nat_le (end_of p) count

-- each of the parts does so: the first from this offset on, and each other from the end of the part
-- before it on
abbrev pub are_apart : ℕ → ℕ → List Part → Bool
are_apart from count [] = true
are_apart from count (p ∷ ps) = lies_between from count p && are_apart (end_of p) count ps

-- the bytes of a file with those of a part at its offset
abbrev pub with_part : List ℕ → Part → List ℕ
with_part bytes p = take p.at bytes ++ (p.bytes ++ drop (end_of p) bytes)

-- a file of so many bytes that has these parts; a byte that no part has is zero
unfoldable pub laid_out : ℕ → List Part → List ℕ
laid_out count parts = fold with_part (replicate count 0) parts
