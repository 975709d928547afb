-- Each kind of reply fits the room of its session.
use Rattle.std.proofs.Common.{◌≡◌, ℕ, zero, suc, ◌+◌, ◌-◌, ◌*◌, ◌≤◌, ◌<◌, ◌^◌, true, false, List, [], ◌∷◌, ◌++◌, length, map, Option, refl}
use Rattle.std.proofs.Common.{arith, lit≤, lit<}
use Rattle.std.specs.Prelude.{◌==◌, IfOk, None, Some, unwrap_or, slice_index, Vec}
use Rattle.std.specs.Global.{Global}
use Rattle.std.specs.Cow.{cow_str_bytes}
use Rattle.std.specs.declared.borrow.CowStr.{CowStr}
use Rattle.std.specs.Option.{ForSome}
use Rattle.std.specs.Int.{w16, w32, to_le_bytes}
use Rattle.std.specs.List.{flat_map, list_all, list_any, AllByRecursion}
use Rattle.std.proofs.lemmas.Bool.{and_parts}
use Rattle.std.proofs.lemmas.Bool.Decides.{nat_tests}
use Rattle.std.proofs.lemmas.Str.{IsUtf8-from_ascii}
use Rattle.std.proofs.lemmas.List.{length-append, length-map}
use Rattle.cs_names.specs.Rules.{is_printable}
use Rattle.cs_wire.specs.declared.message.Qid.{Qid}
use Rattle.cs_wire.specs.declared.message.RBody.{RBody}
use Rattle.cs_wire.specs.declared.message.RBody.TheVariants as r
use Rattle.cs_wire.specs.Fields.{Text, Raw, Several, Four, Value, bytes_of_field, IsIn, ◌▸◌}
use Rattle.cs_wire.specs.declared.message.TBody.{TBody}
use Rattle.cs_wire.specs.declared.message.TBody.TheVariants as t
use Rattle.cs_wire.specs.Messages.{FieldsFit, Message, fields_of, qid_of, qid_shape, r_view, replies, t_view}
use Rattle.cs_wire.proofs.Messages.{spelling_len}
use Rattle.cs_permit.specs.Sizes.{IsQid, IsShown}
use Rattle.cs_permit.proofs.Showing.{shown_in, text_of}
use Rattle.cs_session.specs.Ready.{IsAgreed}
use Rattle.cs_session.specs.Sizes.{AreQids, FitsIn, FitsWithin, MessageFits, room_of}
use Rattle.cs_session.specs.Receiving.{message_in}

-- ---- how many bytes the fields of a reply have

pub qid_length : (q : Value qid_shape) → length (bytes_of_field qid_shape q) ≡ 13
unfolding bytes_of_field
qid_length q = refl

qids_length : (qids : List Qid) → length (flat_map (bytes_of_field qid_shape) (map qid_of qids)) ≡ 13 * length qids
qids_length [] = refl
qids_length (q ∷ qids) =
    omega (
      arith,
      length-append (bytes_of_field qid_shape (qid_of q)) (flat_map (bytes_of_field qid_shape) (map qid_of qids)),
      qid_length
          (qid_of q),
      qids_length qids,
    )

walk_length : (qids : List Qid) → length (bytes_of_field (Several qid_shape) (map qid_of qids)) ≡ 2 + 13 * length qids
unfolding bytes_of_field
walk_length qids =
    omega (
      arith,
      length-append (to_le_bytes w16 (length (map qid_of qids))) (flat_map (bytes_of_field qid_shape) (map qid_of qids)),
      qids_length qids,
    )

walk_in : (qids : List Qid) → AllByRecursion IsQid qids → AllByRecursion (IsIn qid_shape) (map qid_of qids)
walk_in [] each = tt
walk_in (q ∷ qids) each = (each.0, walk_in qids each.1)

text_length : (t : List ℕ) → length (bytes_of_field Text t) ≡ 2 + length t
unfolding bytes_of_field
text_length t = omega (arith, length-append (to_le_bytes w16 (length t)) t)

raw_length : (t : List ℕ) → length (bytes_of_field Raw t) ≡ 4 + length t
unfolding bytes_of_field
raw_length t = omega (arith, length-append (to_le_bytes w32 (length t)) t)

version_length : (n : ℕ) (t : List ℕ) → length (bytes_of_field (Four ▸ Text) (n, t)) ≡ 6 + length t
unfolding bytes_of_field
version_length n t =
    omega (arith, length-append (to_le_bytes w32 n) (to_le_bytes w16 (length t) ++ t), length-append (to_le_bytes w16 (length t)) t)

pub open_length : (v : Value (qid_shape ▸ Four)) → length (bytes_of_field (qid_shape ▸ Four) v) ≡ 17
unfolding bytes_of_field
open_length v = refl

-- ---- texts

printable_ascii : (c : ℕ) → is_printable c ≡ true → c < 128
printable_ascii c e = grind (arith, nat_tests)

printable_no_nul : (c : ℕ) → is_printable c ≡ true → (c == 0) ≡ false
printable_no_nul c e = grind (arith, nat_tests)

all_ascii : (t : List ℕ) → list_all is_printable t ≡ true → (i : ℕ) → slice_index t i < 128
all_ascii [] e i = lit< tt
all_ascii (c ∷ t) e zero = printable_ascii c (and_parts (is_printable c) (list_all is_printable t) e).0
all_ascii (c ∷ t) e (suc i) = all_ascii t (and_parts (is_printable c) (list_all is_printable t) e).1 i

none_nul : (t : List ℕ) → list_all is_printable t ≡ true → list_any (λ b. b == 0) t ≡ false
none_nul [] e = refl
none_nul (c ∷ t) e =
    let both = and_parts (is_printable c) (list_all is_printable t) e in
    rw (printable_no_nul c both.0, none_nul t both.1) refl

pub shown-printable : (most : ℕ) (t : List ℕ) → length t ≤ most → list_all is_printable t ≡ true → IsShown most t
shown-printable most t short e = record { short = short; is_text = text_of t (IsUtf8-from_ascii t (all_ascii t e)) (none_nul t e) }

-- ---- replies

-- the room of a session that has a size that it can have
room_most : (m : Option ℕ) → ForSome m IsAgreed → room_of m ≤ 65536
room_most None agreed = lit≤ tt
room_most (Some size) agreed = let is = agreed size refl in omega (arith, is.most)

pub fits-error : (m : Option ℕ) (v : CowStr Global) → IsShown 48 (cow_str_bytes v) → FitsIn (room_of m) (r.Error v)
fits-error m v shown = record {
  fields = shown_in 48 (cow_str_bytes v) (lit< tt) shown;
  small = omega (arith, text_length (cow_str_bytes v), shown.short);
}

pub fits-walk : (m : Option ℕ) (qids : Vec Qid Global) → AreQids 16 qids.items → FitsIn (room_of m) (r.Walk qids)
fits-walk m qids are = record {
  fields = (omega (arith, length-map qids.items qid_of, are.few), walk_in qids.items are.each);
  small = omega (arith, walk_length qids.items, are.few);
}

pub fits-read : (m : Option ℕ) (bytes : Vec ℕ Global) → ForSome m IsAgreed → length bytes.items ≤ unwrap_or m 0 - 11
    → FitsIn (room_of m) (r.Read bytes)
fits-read m bytes agreed few = record {
  fields = omega (arith, few, room_most m agreed);
  small = omega (arith, raw_length bytes.items, few);
}

pub fits-version : (m : Option ℕ) (n : ℕ) (v : CowStr Global) → n < 2 ^ 32 → IsShown 7 (cow_str_bytes v)
    → FitsIn (room_of m) (r.Version n v)
fits-version m n v low shown = record {
  fields = (low, shown_in 7 (cow_str_bytes v) (lit< tt) shown);
  small = omega (arith, version_length n (cow_str_bytes v), shown.short);
}

spelled_within : (most : ℕ) (m : Message replies) → m.tag < 2 ^ 16 → most ≤ 65536 → FieldsFit m → length (fields_of m) + 7 ≤ most
    → FitsWithin most m
spelled_within most m tag low fields small =
    let length_is = spelling_len m in
    record {
      fits = record { is_message = record { tag_fits = tag; fields_fit = fields; size_fits = omega arith }; is_small = omega arith };
      small = omega arith;
    }

-- a body that fits makes a reply that does
pub reply_within : (most tag : ℕ) (body : RBody) → tag < 2 ^ 16 → most ≤ 65536 → FitsIn most body → FitsWithin most (r_view (record {
  tag = tag;
  body = body;
}))
unfolding FieldsFit fields_of
reply_within most tag (r.Version n v) low less fits = spelled_within most (r_view (record {
  tag = tag;
  body = r.Version n v;
})) low less fits.fields fits.small
reply_within most tag r.Flush low less fits = spelled_within most (r_view (record {
  tag = tag;
  body = r.Flush;
})) low less fits.fields fits.small
reply_within most tag body low less fits = spelled_within most (r_view (record { tag = tag; body = body })) low less fits.fields fits.small

pub room_agreed : (m : Option ℕ) → ForSome m IsAgreed → (1024 ≤ room_of m) × (room_of m ≤ 65536)
room_agreed m agreed = (omega arith, room_most m agreed)

-- what is decoded asks for no more names than a message holds
pub asks_fit : (tag : ℕ) (body : TBody) → FieldsFit (t_view (record { tag = tag; body = body })) → IfOk (message_in body) MessageFits
unfolding FieldsFit
asks_fit tag (t.Walk fid newfid wname) fits = omega (arith, fits.1.1.0)
asks_fit tag body fits = tt
