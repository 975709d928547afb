-- Whole messages in front of bytes.
use Rattle.std.proofs.Common.{◌≡◌, ℕ, ◌+◌, ◌^◌, ◌<◌, ◌≤◌, Some, List, ◌++◌, length, take, drop, refl, sym, ap, ◌∙◌, arith}
use Rattle.std.proofs.lemmas.Bool.{le-ltb}
use Rattle.std.proofs.lemmas.Nat.{from_le_bytes-to_le_bytes_4}
use Rattle.std.proofs.lemmas.List.{length-append, length-take-le, take-append-le, take-append-drop}
use Rattle.std.specs.Int.{w32, to_le_bytes}
use Rattle.cs_wire.specs.Messages.{Side, Message, Fits, fields_of, spelling}
use Rattle.cs_wire.specs.Framing.{size_in, IsWhole}
use Rattle.cs_wire.proofs.Messages.{spelling_len}

-- the first four bytes are the size
pub size_in-append : (front more : List ℕ) → 4 ≤ length front → size_in (front ++ more) ≡ size_in front
unfolding size_in
size_in-append front more long =
    rw (
      le-ltb (length (front ++ more)) 4 (omega (arith, long, length-append front more)),
      le-ltb (length front) 4 long,
      take-append-le 4
          front more long,
    ) refl

pub whole_front : (size : ℕ) (bytes : List ℕ) → size_in bytes ≡ Some size → 7 ≤ size → size ≤ 65536 → size ≤ length bytes
    → IsWhole (take size bytes) × (length (take size bytes) ≡ size)
whole_front size bytes e least most there =
    let len : length (take size bytes) ≡ size = length-take-le size bytes there in
    let same : size_in (take size bytes) ≡ size_in bytes =
    sym (size_in-append (take size bytes) (drop size bytes) (omega (arith, len, least))) ∙ ap size_in (take-append-drop size bytes) in
    (record { sized = same ∙ e ∙ ap Some (sym len); at_least = omega (arith, len, least); at_most = omega (arith, len, most) }, len)

-- the size in front of a whole message, whatever follows it
pub whole_size : (message more : List ℕ) → IsWhole message → size_in (message ++ more) ≡ Some (length message)
whole_size message more whole = size_in-append message more (omega (arith, whole.at_least)) ∙ whole.sized

size_in-size : (size : ℕ) → size < 2 ^ 32 → size_in (to_le_bytes w32 size) ≡ Some size
unfolding size_in
size_in-size size fits = ap Some (from_le_bytes-to_le_bytes_4 size fits)

pub spelling_is_whole : {K : Type 0} {side : Side K} (m : Message side) → Fits m → IsWhole (spelling m)
unfolding spelling
spelling_is_whole {K} {side} m fits =
    let len = spelling_len m in
    let small = fits.is_small in
    let size : size_in (spelling m) ≡ Some (length (fields_of m) + 7) =
    size_in-append (to_le_bytes w32 (length (fields_of m) + 7)) _ (omega arith) ∙ size_in-size (length (fields_of m) + 7)
    (omega (arith, len, small)) in
    record { sized = size ∙ ap Some (sym len); at_least = omega (arith, len); at_most = small }
