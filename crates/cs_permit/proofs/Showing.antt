-- Names that a message can show.
use Rattle.std.proofs.Common.{◌≡◌, ℕ, ◌+◌, ◌≤◌, ◌<◌, ◌^◌, true, false, ◌||◌, List, [], ◌∷◌, ◌++◌, length, refl, arith, lit≤, lit<, zero}
use Rattle.std.proofs.Common.{suc}
use Rattle.std.specs.Prelude.{◌==◌, nat_eq}
use Rattle.std.specs.Int.{w16, to_le_bytes}
use Rattle.std.specs.List.{list_any}
use Rattle.std.specs.Cmp.Lexicographic.{pointwise}
use Rattle.std.specs.Str.{IsUtf8, IsAscii}
use Rattle.std.proofs.lemmas.Bool.{or_parts}
use Rattle.std.proofs.lemmas.Str.{is_utf8-from_IsUtf8, IsUtf8-from_ascii}
use Rattle.std.proofs.lemmas.List.{length-append}
use Rattle.cs_names.specs.Legal.{IsLegalName, IsUserName}
use Rattle.cs_wire.specs.Fields.{Text, Boxed, Value, entry, is_text, bytes_of_field, IsIn}
use Rattle.cs_wire.specs.Messages.{qid_shape, stat_shape}
use Rattle.cs_wire.proofs.Sizes.{entry_len}
use Rattle.cs_permit.specs.Sizes.{IsShown, IsStat, numbers_shape}

pub text_of : (bytes : List ℕ) → IsUtf8 bytes → list_any (λ b. b == 0) bytes ≡ false → is_text bytes ≡ true
unfolding is_text
text_of bytes valid none = rw (is_utf8-from_IsUtf8 bytes valid, none) refl

no_nul : (bytes : List ℕ) → list_any (λ c. c == 47 || c == 0) bytes ≡ false → list_any (λ c. c == 0) bytes ≡ false
no_nul [] e = refl
no_nul (c ∷ bytes) e =
    let both = or_parts (c == 47 || c == 0) (list_any (λ x. x == 47 || x == 0) bytes) e in
    rw ((or_parts (c == 47) (c == 0) both.0).1, no_nul bytes both.1) refl

pub shown-user : (bytes : List ℕ) → IsUserName bytes → IsShown 64 bytes
shown-user bytes name = record { short = name.short; is_text = text_of bytes name.text name.allowed }

pub shown-name : (bytes : List ℕ) → IsLegalName bytes → IsShown 255 bytes
shown-name bytes name =
    let slashes =
    or_parts (list_any (λ c. c == 47 || c == 0) bytes) (pointwise nat_eq bytes (46 ∷ []))
    ((or_parts (list_any (λ c. c == 47 || c == 0) bytes || pointwise nat_eq bytes (46 ∷ [])) (pointwise nat_eq bytes (46 ∷ 46 ∷ []))
    name.allowed).0) in
    record { short = name.short; is_text = text_of bytes name.text (no_nul bytes slashes.0) }

slash_ascii : IsAscii (47 ∷ [])
slash_ascii zero = lit< tt
slash_ascii (suc i) = lit< tt

pub shown-slash : IsShown 255 (47 ∷ [])
shown-slash = record { short = lit≤ tt; is_text = text_of (47 ∷ []) (IsUtf8-from_ascii (47 ∷ []) slash_ascii) refl }

stat_length : (v : Value stat_shape)
    → length (bytes_of_field stat_shape v)
    ≡ 47 + (length v.1.1.1.1.1.1.1.0 + (length v.1.1.1.1.1.1.1.1.0 + (length v.1.1.1.1.1.1.1.1.1.0 + length v.1.1.1.1.1.1.1.1.1.1)))
unfolding bytes_of_field
stat_length v =
    let name = v.1.1.1.1.1.1.1.0 in
    let uid = v.1.1.1.1.1.1.1.1.0 in
    let gid = v.1.1.1.1.1.1.1.1.1.0 in
    let muid = v.1.1.1.1.1.1.1.1.1.1 in
    let texts = to_le_bytes w16 (length muid) ++ muid in
    omega (
      arith,
      length-append (to_le_bytes w16 (length name) ++ name)
          ((to_le_bytes w16 (length uid) ++ uid) ++ ((to_le_bytes w16 (length gid) ++ gid) ++ texts)),
      length-append (to_le_bytes w16 (length name)) name,
      length-append (to_le_bytes w16 (length uid) ++ uid) ((to_le_bytes w16 (length gid) ++ gid) ++ texts),
      length-append (to_le_bytes w16 (length uid)) uid,
      length-append (to_le_bytes w16 (length gid) ++ gid) texts,
      length-append (to_le_bytes w16 (length gid)) gid,
      length-append (to_le_bytes w16 (length muid)) muid,
    )

boxed_length : (v : Value stat_shape) → length (bytes_of_field (Boxed stat_shape) v) ≡ 4 + length (bytes_of_field stat_shape v)
unfolding bytes_of_field
boxed_length v =
    let bytes = entry (bytes_of_field stat_shape v) in
    omega (arith, length-append (to_le_bytes w16 (length bytes)) bytes, entry_len (bytes_of_field stat_shape v))

pub shown_in : (most : ℕ) (text : List ℕ) → most < 2 ^ 16 → IsShown most text → IsIn Text text
shown_in most text less shown = (omega (arith, shown.short), shown.is_text)

-- numbers that are in their ranges and texts that can be shown make a stat of at most 600 bytes
pub stat_fits : (mode atime mtime len : ℕ) (qid : Value qid_shape) (name uid gid muid : List ℕ)
    → IsIn numbers_shape (0, (0, (qid, (mode, (atime, (mtime, len)))))) → IsShown 255 name → IsShown 64 uid → IsShown 64 gid
    → IsShown 64 muid
    → IsStat 600 (0, (0, (qid, (mode, (atime, (mtime, (len, (name, (uid, (gid, muid))))))))))
stat_fits mode atime mtime len qid name uid gid muid n a b c d =
    let v : Value stat_shape = (0, (0, (qid, (mode, (atime, (mtime, (len, (name, (uid, (gid, muid)))))))))) in
    let small : length (bytes_of_field stat_shape v) ≤ 494 = omega (arith, stat_length v, a.short, b.short, c.short, d.short) in
    record {
      fits = (
        (
          n.0,
          (
            n.1.0,
            (
              n.1.1.0,
              (
                n.1.1.1.0,
                (
                  n.1.1.1.1.0,
                  (
                    n.1.1.1.1.1.0,
                    (
                      n.1.1.1.1.1.1,
                      (
                        shown_in 255 name (lit< tt) a,
                        (shown_in 64 uid (lit< tt) b, (shown_in 64 gid (lit< tt) c, shown_in 64 muid (lit< tt) d)),
                      ),
                    ),
                  ),
                ),
              ),
            ),
          ),
        ),
        omega
            (arith, entry_len (bytes_of_field stat_shape v), small),
      );
      small = omega (arith, boxed_length v, small);
    }
