-- What a framer's calls do to its buffer.
use Rattle.std.proofs.Common.{◌≡◌, ◌≢◌, ℕ, ◌+◌, ◌-◌, ◌<◌, ◌≤◌, List, [], ◌++◌, length, take, drop, sym, ap, ◌∙◌, arith}
use Rattle.std.proofs.Math.Seq.{take-add, take-append-add}
use Rattle.std.proofs.lemmas.List.{drop-drop, drop-take, drop-append-le, drop_at, take_at, length-append, length-drop, length-take-le}
use Rattle.std.proofs.lemmas.List.{take-append-le, take-append-drop}
use Rattle.cs_wire.specs.Framing.{IsWhole}
use Rattle.cs_wire.specs.Held.{Held, pending_bytes, after_advance, room_with}
use Rattle.cs_wire.specs.Buffers.{GoesOn}

abbrev pub held : List ℕ → ℕ → ℕ → Held
held items place filled = record { bytes = take filled items; place = place; room = drop filled items }

pub held-taken : (items : List ℕ) (place filled count : ℕ)
    → held items place (filled + count) ≡ after_advance (held items place filled) count
held-taken items place filled count k = record {
  bytes = take-add filled count items k;
  place = place;
  room = sym (drop-drop count filled items) k;
}

pub left-taken : (items : List ℕ) (place filled count : ℕ) → place ≤ filled → filled ≤ length items
    → pending_bytes (after_advance (held items place filled) count) ≡ pending_bytes (held items place filled)
    ++ take count (drop filled items)
left-taken items place filled count before within =
    drop-append-le place (take filled items) (take count (drop filled items)) (omega (arith, before, length-take-le filled items within))

-- what is written into the room comes after the bytes that came
pub held-written : (items : List ℕ) (place filled long : ℕ) (w : List ℕ) → filled ≤ length items → long ≡ length items
    → let whole = take filled items ++ (w ++ drop (length w) (drop filled items)) in
    held (take long (whole ++ drop (length whole) items)) place filled ≡ record (held items place filled) {
      room = room_with (drop filled items) w;
    }
held-written items place filled long w within all =
    let came = take filled items in
    let room = drop filled items in
    let over = w ++ drop (length w) room in
    let front : length came ≡ filled = length-take-le filled items within in
    let parts : length items ≡ length came + length room = omega (arith, front, within, length-drop filled items) in
    let enough : length room ≤ length over = omega (arith, length-append w (drop (length w) room), length-drop (length w) room) in
    let covers : long ≤ length (came ++ over) = omega (arith, all, parts, enough, length-append came over) in
    let is : take long ((came ++ over) ++ drop (length (came ++ over)) items) ≡ came ++ take (length room) over =
    take-append-le long (came ++ over) (drop (length (came ++ over)) items) covers ∙ ap (λ (n : ℕ). take n (came ++ over)) (all ∙ parts) ∙
    take-append-add came over (length room) in
    ap (λ (z : List ℕ). held z place filled) is ∙ (λ k. record {
      bytes = take_at came (take (length room) over) filled front k;
      place = place;
      room = drop_at came (take (length room) over) filled front k;
    })

-- the bytes that were not given yet, as a part of the buffer
pub left-held : (items : List ℕ) (place filled : ℕ) → place ≤ filled
    → pending_bytes (held items place filled) ≡ take (filled - place) (drop place items)
left-held items place filled before =
    let whole : filled ≡ place + (filled - place) = omega (arith, before) in
    ap (λ (n : ℕ). drop place (take n items)) whole ∙ drop-take place (filled - place) items

pub left-some : (items : List ℕ) (place filled : ℕ) → place < filled → filled ≤ length items → pending_bytes (held items place filled) ≢ []
left-some items place filled before within none =
    omega (arith, before, ap length none, length-drop place (take filled items), length-take-le filled items within)

pub goes_on : (items : List ℕ) (place filled size : ℕ) → place ≤ filled
    → (size ≤ length (take (filled - place) (drop place items))) × IsWhole (take size (take (filled - place) (drop place items)))
    × (length (take size (take (filled - place) (drop place items))) ≡ size)
    → GoesOn (take (place + size - place) (drop place items)) (held items place filled) (held items (place + size) filled)
goes_on items place filled size before front =
    let rest = take (filled - place) (drop place items) in
    let count : place + size - place ≡ size = omega arith in
    let message : take (place + size - place) (drop place items) ≡ take size rest =
    ap (λ (n : ℕ). take n (drop place items)) count ∙ ap (take size) (sym (take-append-drop (filled - place) (drop place items))) ∙
    take-append-le size rest (drop (filled - place) (drop place items)) front.0 in
    let rest_is : pending_bytes (held items place filled) ≡ rest = left-held items place filled before in
    let behind : pending_bytes (held items (place + size) filled) ≡ drop size rest =
    sym (drop-drop size place (take filled items)) ∙ ap (drop size) rest_is in
    rw message (record {
      whole = front.1;
      front = rest_is ∙ sym (take-append-drop size rest) ∙ ap (λ (z : List ℕ). take size rest ++ z) (sym behind);
      moves = ap (λ (n : ℕ). held items (place + n) filled) (sym front.2);
    })
