-- Which messages fit, by their size.
use Rattle.std.proofs.Common.{◌≡◌, ℕ, ◌+◌, ◌≤◌, ◌<◌, true, false, leb, Option, Some, None, List, ◌++◌, length, refl, sym, ap, ◌∙◌}
use Rattle.std.proofs.Common.{append_assoc, arith}
use Rattle.std.specs.Prelude.{◌↔◌, is_some}
use Rattle.std.proofs.lemmas.Bool.{le-leb, leb-true}
use Rattle.cs_wire.specs.declared.message.TMessage.{TMessage}
use Rattle.cs_wire.specs.declared.message.TBody.{TBody}
use Rattle.cs_wire.specs.declared.message.TBody.TheVariants as t
use Rattle.cs_wire.specs.declared.stat.StatRef.{StatRef}
use Rattle.cs_wire.specs.declared.message.RMessage.{RMessage}
use Rattle.cs_wire.specs.declared.message.RBody.{RBody}
use Rattle.cs_wire.specs.declared.message.RBody.TheVariants as r
use Rattle.cs_wire.specs.Fields.{One, Two, Four, Text, Boxed, ◌▸◌, Value, bytes_of_field, IsIn, sum_if_both, entry_size, size_of}
use Rattle.cs_wire.specs.Messages.{Side, Message, stat_shape, stat_in, users_in, stat_entry, IsEntry, fields_of, FieldsFit, spelling, Fits}
use Rattle.cs_wire.specs.Messages.{t_view, r_view}
use Rattle.cs_wire.specs.Bodies.{request_number, request_bytes, request_size, RequestFits, reply_number, reply_bytes, reply_size, ReplyFits}
use Rattle.cs_wire.proofs.Sizes.{size_some, size_only, number_some, entry_len, plus_some, plus_parts}
use Rattle.cs_wire.proofs.Messages.{spelling_len}

abbrev pub header_size : ℕ → Option ℕ
header_size tag = size_of (Four ▸ One ▸ Two) (0, (0, tag))

abbrev pub message_size : {K : Type 0} {side : Side K} → Message side → Option ℕ
message_size {K} {side} m = sum_if_both (header_size m.tag) (size_of (side.layout m.kind) m.fields)

pub fits_some : {K : Type 0} {side : Side K} (m : Message side) → Fits m → message_size m ≡ Some (length (spelling m))
unfolding FieldsFit fields_of bytes_of_field
fits_some {K} {side} m fits =
    let header : header_size m.tag ≡ Some 7 =
    size_some (Four ▸ One ▸ Two) (0, (0, m.tag)) (omega arith, (omega arith, fits.is_message.tag_fits)) in
    let fields = size_some (side.layout m.kind) m.fields fits.is_message.fields_fit in
    plus_some (header_size m.tag) (size_of (side.layout m.kind) m.fields) 7 (length (fields_of m)) header fields ∙ ap (λ (n : ℕ). Some n)
    (omega (arith, spelling_len m))

fits_only : {K : Type 0} {side : Side K} (m : Message side) (n : ℕ) → message_size m ≡ Some n → n ≤ 65536 → Fits m
unfolding FieldsFit fields_of bytes_of_field
fits_only {K} {side} m n e le =
    let p = plus_parts (header_size m.tag) (size_of (side.layout m.kind) m.fields) n e in
    let h = size_only (Four ▸ One ▸ Two) (0, (0, m.tag)) p.0 p.2 in
    let f = size_only (side.layout m.kind) m.fields p.1 p.3 in
    let header : header_size m.tag ≡ Some 7 = size_some (Four ▸ One ▸ Two) (0, (0, m.tag)) h in
    let fields = size_some (side.layout m.kind) m.fields f in
    let all : message_size m ≡ Some (7 + length (fields_of m)) =
    plus_some (header_size m.tag) (size_of (side.layout m.kind) m.fields) 7 (length (fields_of m)) header fields in
    let same : Some n ≡ Some (7 + length (fields_of m)) = sym e ∙ all in
    let len : n ≡ 7 + length (fields_of m) = cc in
    let small : length (spelling m) ≤ 65536 = omega (arith, spelling_len m, len, le) in
    record { is_message = record { tag_fits = h.1.1; fields_fit = f; size_fits = omega (arith, small) }; is_small = small }

pub fits_when : {K : Type 0} {side : Side K} (m : Message side) (n : ℕ) → message_size m ≡ Some n → (leb n 65536 ≡ true) ↔ Fits m
fits_when m n e = (
  λ small. fits_only m n e (leb-true n 65536 small),
  λ fits.
      let same : Some n ≡ Some (length (spelling m)) = sym e ∙ fits_some m fits in
      let len : n ≡ length (spelling m) = cc in
      le-leb n 65536 (omega (arith, len, fits.is_small)),
)

pub fits_never : {K : Type 0} {side : Side K} (m : Message side) → message_size m ≡ None → (false ≡ true) ↔ Fits m
fits_never m e = (
  λ no_bool. absurd cc,
  λ fits.
      let same : None ≡ Some (length (spelling m)) = sym e ∙ fits_some m fits in
      absurd cc,
)

-- ---- the bodies

request_is : (tag : ℕ) (body : TBody) → sum_if_both (header_size tag) (request_size body) ≡ message_size (t_view (record {
  tag = tag;
  body = body;
}))
request_is tag (t.Flush oldtag) = refl
request_is tag body = refl

reply_is : (tag : ℕ) (body : RBody) → sum_if_both (header_size tag) (reply_size body) ≡ message_size (r_view (record {
  tag = tag;
  body = body;
}))
reply_is tag r.Flush = refl
reply_is tag body = refl

pub t_size_is : (m : TMessage) → sum_if_both (header_size m.tag) (request_size m.body) ≡ message_size (t_view m)
t_size_is m = request_is m.tag m.body

pub r_size_is : (m : RMessage) → sum_if_both (header_size m.tag) (reply_size m.body) ≡ message_size (r_view m)
r_size_is m = reply_is m.tag m.body

-- ---- stats

pub entry_some : (v : Value stat_shape) → IsEntry v → entry_size (size_of stat_shape v) ≡ Some (length (stat_entry v))
unfolding IsEntry stat_entry
entry_some v fits =
    let len = length (bytes_of_field stat_shape v) in
    let small : len + 2 < 65536 = omega (arith, entry_len (bytes_of_field stat_shape v), fits.1) in
    ap entry_size (size_some stat_shape v fits.0) ∙ number_some (len + 2) 65536 (len + 2) small ∙ ap (λ (n : ℕ). Some n)
    (sym (entry_len (bytes_of_field stat_shape v)))

pub entry_only : (v : Value stat_shape) (n : ℕ) → entry_size (size_of stat_shape v) ≡ Some n → IsEntry v
unfolding IsEntry stat_entry size_of
entry_only v n e = size_only (Boxed stat_shape) v (2 + n) (ap (sum_if_both (Some 2)) e)

pub entry_fits : (v : Value stat_shape) (r : Option ℕ) → r ≡ entry_size (size_of stat_shape v) → (is_some r ≡ true) ↔ IsEntry v
entry_fits v (Some n) e = (λ yes. entry_only v n (sym e), λ fits. refl)
entry_fits v None e = (
  λ yes. absurd cc,
  λ fits.
      let same : None ≡ Some (length (stat_entry v)) = e ∙ entry_some v fits in
      absurd cc,
)

-- ---- the bytes of a stat

pub boxed_is : (v : Value stat_shape) → bytes_of_field (Boxed stat_shape) v ≡ bytes_of_field Two (length (stat_entry v)) ++ stat_entry v
unfolding bytes_of_field stat_entry
boxed_is v = refl

pub entry_is : (v : Value stat_shape)
    → stat_entry v ≡ bytes_of_field Two (length (bytes_of_field stat_shape v)) ++ bytes_of_field stat_shape v
unfolding bytes_of_field stat_entry
entry_is v = refl

pub entry_size_is : (v : Value stat_shape) → length (stat_entry v) ≡ length (bytes_of_field stat_shape v) + 2
unfolding stat_entry
entry_size_is v = entry_len (bytes_of_field stat_shape v)

pub stat_len : (s : StatRef)
    → length (bytes_of_field stat_shape (stat_in s)) ≡ 39 + length (bytes_of_field (Text ▸ Text ▸ Text ▸ Text) (users_in s))
unfolding bytes_of_field
stat_len s = omega arith

pub users_fit : (s : StatRef) → IsEntry (stat_in s) → IsIn (Text ▸ Text ▸ Text ▸ Text) (users_in s)
unfolding IsEntry
users_fit s fits = fits.0.1.1.1.1.1.1.1

pub entry_small : (v : Value stat_shape) → IsEntry v → length (stat_entry v) < 65536
unfolding IsEntry stat_entry
entry_small v fits = fits.1

pub is_entry : (v : Value stat_shape) → IsIn (Boxed stat_shape) v → IsEntry v
unfolding IsEntry
is_entry v fits = fits

-- ---- the parts of a message

t_parts_of : (tag : ℕ) (body : TBody) → spelling (t_view (record {
  tag = tag;
  body = body;
})) ≡ bytes_of_field Four (length (request_bytes body) + 7)
    ++ (bytes_of_field One (request_number body) ++ (bytes_of_field Two tag ++ request_bytes body))
unfolding spelling fields_of bytes_of_field
t_parts_of tag (t.Flush oldtag) = refl
t_parts_of tag body = refl

pub t_parts : (m : TMessage)
    → spelling (t_view m) ≡ bytes_of_field Four (length (request_bytes m.body) + 7)
    ++ (bytes_of_field One (request_number m.body) ++ (bytes_of_field Two m.tag ++ request_bytes m.body))
t_parts m = t_parts_of m.tag m.body

t_fit_of : (tag : ℕ) (body : TBody) → FieldsFit (t_view (record { tag = tag; body = body })) → RequestFits body
unfolding FieldsFit
t_fit_of tag (t.Flush oldtag) fits = fits
t_fit_of tag body fits = fits

pub t_fit : (m : TMessage) → Fits (t_view m) → RequestFits m.body
t_fit m fits = t_fit_of m.tag m.body fits.is_message.fields_fit

r_parts_of : (tag : ℕ) (body : RBody) → spelling (r_view (record {
  tag = tag;
  body = body;
})) ≡ bytes_of_field Four (length (reply_bytes body) + 7)
    ++ (bytes_of_field One (reply_number body) ++ (bytes_of_field Two tag ++ reply_bytes body))
unfolding spelling fields_of bytes_of_field
r_parts_of tag r.Flush = refl
r_parts_of tag body = refl

pub r_parts : (m : RMessage)
    → spelling (r_view m) ≡ bytes_of_field Four (length (reply_bytes m.body) + 7)
    ++ (bytes_of_field One (reply_number m.body) ++ (bytes_of_field Two m.tag ++ reply_bytes m.body))
r_parts m = r_parts_of m.tag m.body

r_fit_of : (tag : ℕ) (body : RBody) → FieldsFit (r_view (record { tag = tag; body = body })) → ReplyFits body
unfolding FieldsFit
r_fit_of tag r.Flush fits = fits
r_fit_of tag body fits = fits

pub r_fit : (m : RMessage) → Fits (r_view m) → ReplyFits m.body
r_fit m fits = r_fit_of m.tag m.body fits.is_message.fields_fit

-- how long it is, from its parts
pub parts_len : (whole bytes : List ℕ) (kind tag size : ℕ)
    → whole ≡ bytes_of_field Four size ++ (bytes_of_field One kind ++ (bytes_of_field Two tag ++ bytes)) → length whole ≡ length bytes + 7
unfolding bytes_of_field
parts_len whole bytes kind tag size e = ap length e ∙ omega arith

-- the header and the fields, written one after the other
pub written : (old bytes whole mid new : List ℕ) (size kind tag : ℕ)
    → whole ≡ bytes_of_field Four (length bytes + 7) ++ (bytes_of_field One kind ++ (bytes_of_field Two tag ++ bytes)) → size ≡ length whole
    → mid ≡ old ++ (bytes_of_field Four size ++ (bytes_of_field One kind ++ bytes_of_field Two tag)) → new ≡ mid ++ bytes
    → new ≡ old ++ whole
unfolding bytes_of_field
written old bytes whole mid new size kind tag parts len first second =
    let size-is : size ≡ length bytes + 7 = len ∙ parts_len whole bytes kind tag (length bytes + 7) parts in
    second ∙ ap (λ (z : List ℕ). z ++ bytes) first ∙ append_assoc old
    (bytes_of_field Four size ++ (bytes_of_field One kind ++ bytes_of_field Two tag)) bytes ∙ ap
    (λ (n : ℕ). old ++ (bytes_of_field Four n ++ (bytes_of_field One kind ++ (bytes_of_field Two tag ++ bytes)))) size-is ∙ ap
    (λ (z : List ℕ). old ++ z) (sym parts)
