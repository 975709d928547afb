-- What is read is spelled so, what is spelled so is read, and no spelling begins another.
use Rattle.std.proofs.Common.{◌≡◌, ℕ, ◌+◌, ◌^◌, ◌<◌, Bool, true, false, cond, eqb, ltb, Option, Some, None, List, [], ◌++◌, length, take}
use Rattle.std.proofs.Common.{drop, Result, Ok, Err, refl, sym, ap, subst, ◌∙◌, append_assoc, arith}
use Rattle.std.specs.Prelude.{IfOk, IsOk, IsErrOf}
use Rattle.std.specs.Int.{w8, w16, w32, to_le_bytes}
use Rattle.std.proofs.lemmas.Bool.{le-ltb, eqb-true, eq-eqb}
use Rattle.std.proofs.lemmas.List.{take_at, drop_at, length-append, append-nil}
use Rattle.cs_wire.specs.declared.fault.WireFault.{WireFault}
use Rattle.cs_wire.specs.declared.fault.WireFault.TheVariants as faults
use Rattle.cs_wire.specs.declared.kind.TKind.{TKind}
use Rattle.cs_wire.specs.declared.kind.TKind.TheVariants as tk
use Rattle.cs_wire.specs.declared.kind.RKind.{RKind}
use Rattle.cs_wire.specs.declared.kind.RKind.TheVariants as rk
use Rattle.cs_wire.specs.Fields.{bytes_of_field}
use Rattle.cs_wire.specs.Messages.{Side, Message, IsMessage, fields_of, FieldsFit, spelling, requests, replies, t_number, t_kind_of}
use Rattle.cs_wire.specs.Messages.{r_number, r_kind_of}
use Rattle.cs_wire.specs.Reading.{◌>>=◌, number_at, or_trailing, field_at, header_at, kind_or_unknown, all_of, message_of}
use Rattle.cs_wire.specs.Answers.{IsSeenAsOrMemory, Gives, IsReadBack, ReadsSome}
use Rattle.cs_wire.proofs.Numbers.{IsBytes, bind_ok, guard_ok, test_ok, ok_is, whole_ok, Took-then, wide8, wide16, wide32, number_takes}
use Rattle.cs_wire.proofs.Numbers.{number_again}
use Rattle.cs_wire.proofs.Fields.{field_takes, field_again}

-- each type has one number, of one byte
pub record IsSide {K : Type 0} (side : Side K) : Type 0 where
  pub below : (k : K) → side.number k < 2 ^ 8
  pub again : (k : K) → side.kind_of (side.number k) ≡ Some k
  pub only : (n : ℕ) (k : K) → side.kind_of n ≡ Some k → side.number k ≡ n

-- ---- the header

abbrev after_size : {K : Type 0} {side : Side K} → Message side → List ℕ
after_size {K} {side} m = to_le_bytes w8 (side.number m.kind) ++ (to_le_bytes w16 m.tag ++ fields_of m)

pub record HasHeader (bytes : List ℕ) (number tag : ℕ) (rest : List ℕ) : Type 0 where
  pub parts : bytes ≡ to_le_bytes w32 (length bytes) ++ (to_le_bytes w8 number ++ (to_le_bytes w16 tag ++ rest))
  pub size_fits : length bytes < 2 ^ 32
  pub tag_fits : tag < 2 ^ 16
  pub rest_fits : IsBytes rest

header_takes : (bytes : List ℕ) (x : ℕ × ℕ × List ℕ) → IsBytes bytes → header_at bytes ≡ Ok x → HasHeader bytes x.0 x.1 x.2
unfolding header_at
header_takes bytes x fits e =
    let g = guard_ok (ltb (length bytes) 7) faults.Short
    (number_at w32 bytes >>= λ size. number_at w8 size.1 >>= λ number. number_at w16 number.1 >>= λ tag. cond
    (eqb size.0 (length bytes)) (Ok (number.0, tag.0, tag.1)) (Err faults.SizeLies)) x e in
    let a = bind_ok (number_at w32 bytes)
    (λ size. number_at w8 size.1 >>= λ number. number_at w16 number.1 >>= λ tag. cond (eqb size.0 (length bytes))
    (Ok (number.0, tag.0, tag.1)) (Err faults.SizeLies)) x g.1 in
    let b = bind_ok (number_at w8 a.0.1)
    (λ number. number_at w16 number.1 >>= λ tag. cond (eqb a.0.0 (length bytes)) (Ok (number.0, tag.0, tag.1)) (Err faults.SizeLies)) x
    a.2 in
    let d = bind_ok (number_at w16 b.0.1) (λ tag. cond (eqb a.0.0 (length bytes)) (Ok (b.0.0, tag.0, tag.1)) (Err faults.SizeLies)) x b.2 in
    let h = test_ok (eqb a.0.0 (length bytes)) faults.SizeLies (Ok (b.0.0, d.0.0, d.0.1)) x d.2 in
    let t0 = number_takes w32 (2 ^ 32) wide32 bytes a.0 fits a.1 in
    let t1 = number_takes w8 (2 ^ 8) wide8 a.0.1 b.0 t0.0.rest_fits b.1 in
    let t2 = number_takes w16 (2 ^ 16) wide16 b.0.1 d.0 t1.0.rest_fits d.1 in
    let size : a.0.0 ≡ length bytes = eqb-true _ _ h.0 in
    let both = Took-then a.0.1 (to_le_bytes w8 b.0.0) b.0.1 (to_le_bytes w16 d.0.0) d.0.1 t1.0 t2.0 in
    let inner : a.0.1 ≡ to_le_bytes w8 b.0.0 ++ (to_le_bytes w16 d.0.0 ++ d.0.1) =
    both.parts ∙ append_assoc (to_le_bytes w8 b.0.0) (to_le_bytes w16 d.0.0) d.0.1 in
    let whole_of : bytes ≡ to_le_bytes w32 (length bytes) ++ (to_le_bytes w8 b.0.0 ++ (to_le_bytes w16 d.0.0 ++ d.0.1)) =
    t0.0.parts ∙ ap (λ (n : ℕ). to_le_bytes w32 n ++ a.0.1) size ∙ ap (λ (z : List ℕ). to_le_bytes w32 (length bytes) ++ z) inner in
    subst (λ (y : ℕ × ℕ × List ℕ). HasHeader bytes y.0 y.1 y.2) (ok_is (b.0.0, d.0.0, d.0.1) x h.1) (record {
      parts = whole_of;
      size_fits = subst (λ (n : ℕ). n < 2 ^ 32) size t0.1;
      tag_fits = t2.1;
      rest_fits = t2.0.rest_fits;
    })

header_again : (bytes : List ℕ) (number tag : ℕ) (rest : List ℕ) → number < 2 ^ 8 → tag < 2 ^ 16 → length rest + 7 < 2 ^ 32
    → bytes ≡ to_le_bytes w32 (length rest + 7) ++ (to_le_bytes w8 number ++ (to_le_bytes w16 tag ++ rest)) → length bytes ≡ length rest + 7
    → header_at bytes ≡ Ok (number, tag, rest)
unfolding header_at
header_again bytes number tag rest number_fits tag_fits size_fits parts len =
    let long : ltb (length bytes) 7 ≡ false = le-ltb _ _ (omega (arith, len)) in
    let size : number_at w32 bytes ≡ Ok (length rest + 7, to_le_bytes w8 number ++ (to_le_bytes w16 tag ++ rest)) =
    ap (number_at w32) parts ∙ number_again w32 (2 ^ 32) wide32 (length rest + 7)
    (to_le_bytes w8 number ++ (to_le_bytes w16 tag ++ rest)) size_fits in
    let same : eqb (length rest + 7) (length bytes) ≡ true = eq-eqb (length rest + 7) (length bytes) (sym len) in
    rw (
      long,
      size,
      number_again w8 (2 ^ 8) wide8 number (to_le_bytes w16 tag ++ rest) number_fits,
      number_again w16 (2 ^ 16) wide16 tag
          rest tag_fits,
      same,
    ) refl

-- ---- messages

pub spelling_len : {K : Type 0} {side : Side K} (m : Message side) → length (spelling m) ≡ length (fields_of m) + 7
unfolding spelling
spelling_len {K} {side} m =
    let fields = fields_of m in
    omega (
      arith,
      length-append (to_le_bytes w32 (length fields + 7)) (after_size m),
      length-append (to_le_bytes w8 (side.number m.kind))
          (to_le_bytes w16 m.tag ++ fields),
      length-append (to_le_bytes w16 m.tag) fields,
    )

known_ok : {K : Type 0} (found : Option K) (k : K) → kind_or_unknown found ≡ Ok k → found ≡ Some k
known_ok (Some x) k e = ap Some (ok_is x k e)
known_ok None k e = absurd cc

pub message_takes : {K : Type 0} (side : Side K) → IsSide side → (bytes : List ℕ) (m : Message side) → IsBytes bytes
    → message_of side bytes ≡ Ok m → IsMessage m × (bytes ≡ spelling m)
unfolding message_of all_of spelling fields_of FieldsFit
message_takes {K} side lawful bytes m fits e =
    let a = bind_ok (header_at bytes) (λ header. kind_or_unknown (side.kind_of header.0) >>= λ kind. all_of side kind header.1 header.2) m e
    in
    let b = bind_ok (kind_or_unknown (side.kind_of a.0.0)) (λ kind. all_of side kind a.0.1 a.0.2) m a.2 in
    let d = bind_ok (or_trailing (field_at (side.layout b.0) a.0.2)) (λ fields. Ok (record {
      kind = b.0;
      tag = a.0.1;
      fields = fields;
    })) m b.2 in
    let h = header_takes bytes a.0 fits a.1 in
    let t = field_takes (side.layout b.0) a.0.2 (d.0, []) h.rest_fits (whole_ok (field_at (side.layout b.0) a.0.2) d.0 d.1) in
    let made : Message side = record { kind = b.0; tag = a.0.1; fields = d.0 } in
    let fields : List ℕ = bytes_of_field (side.layout b.0) d.0 in
    let number : a.0.0 ≡ side.number b.0 = sym (lawful.only a.0.0 b.0 (known_ok (side.kind_of a.0.0) b.0 b.1)) in
    let rest : a.0.2 ≡ fields = t.0.parts ∙ append-nil fields in
    let parts : bytes ≡ to_le_bytes w32 (length bytes) ++ after_size made =
    h.parts ∙ ap (λ (n : ℕ). to_le_bytes w32 (length bytes) ++ (to_le_bytes w8 n ++ (to_le_bytes w16 a.0.1 ++ a.0.2))) number ∙ ap
    (λ (z : List ℕ). to_le_bytes w32 (length bytes) ++ (to_le_bytes w8 (side.number b.0) ++ (to_le_bytes w16 a.0.1 ++ z))) rest in
    let len : length bytes ≡ length fields + 7 =
    omega (
      arith,
      ap length parts,
      length-append (to_le_bytes w32 (length bytes)) (after_size made),
      length-append
          (to_le_bytes w8 (side.number b.0)) (to_le_bytes w16 a.0.1 ++ fields),
      length-append (to_le_bytes w16 a.0.1) fields,
    ) in
    let spells : bytes ≡ spelling made = parts ∙ ap (λ (n : ℕ). to_le_bytes w32 n ++ after_size made) len in
    let good : IsMessage made = record {
      tag_fits = h.tag_fits;
      fields_fit = t.1;
      size_fits = subst (λ (z : List ℕ). length z < 2 ^ 32) spells h.size_fits;
    } in
    subst (λ (v : Message side). IsMessage v × (bytes ≡ spelling v)) (ok_is made m d.2) (good, spells)

pub message_again : {K : Type 0} (side : Side K) → IsSide side → (m : Message side) → IsMessage m → message_of side (spelling m) ≡ Ok m
unfolding message_of all_of spelling fields_of FieldsFit
message_again {K} side lawful m fits =
    let fields : List ℕ = bytes_of_field (side.layout m.kind) m.fields in
    let len = spelling_len m in
    let size : length fields + 7 < 2 ^ 32 = omega (arith, len, fits.size_fits) in
    let header : header_at (spelling m) ≡ Ok (side.number m.kind, m.tag, fields) =
    header_again (spelling m) (side.number m.kind) m.tag fields (lawful.below m.kind) fits.tag_fits size refl len in
    let read : field_at (side.layout m.kind) fields ≡ Ok (m.fields, []) =
    ap (field_at (side.layout m.kind)) (sym (append-nil fields)) ∙ field_again (side.layout m.kind) m.fields [] fits.fields_fit in
    rw (header, lawful.again m.kind, read) refl

-- no spelling begins another
front_is : {K : Type 0} (side : Side K) (a b : Message side) (x y : List ℕ) → IsMessage a → IsMessage b → spelling a ++ x ≡ spelling b ++ y
    → length (spelling a) ≡ length (spelling b)
unfolding spelling
front_is side a b x y fa fb e =
    let la = length (fields_of a) + 7 in
    let lb = length (fields_of b) + 7 in
    let sa : la < 2 ^ 32 = omega (arith, fa.size_fits, spelling_len a) in
    let sb : lb < 2 ^ 32 = omega (arith, fb.size_fits, spelling_len b) in
    let na = number_again w32 (2 ^ 32) wide32 la (after_size a ++ x) sa in
    let nb = number_again w32 (2 ^ 32) wide32 lb (after_size b ++ y) sb in
    let ea : spelling a ++ x ≡ to_le_bytes w32 la ++ (after_size a ++ x) = append_assoc (to_le_bytes w32 la) (after_size a) x in
    let eb : spelling b ++ y ≡ to_le_bytes w32 lb ++ (after_size b ++ y) = append_assoc (to_le_bytes w32 lb) (after_size b) y in
    let both = sym na ∙ ap (number_at w32) (sym ea ∙ e ∙ eb) ∙ nb in
    let pair = ok_is (la, after_size a ++ x) (lb, after_size b ++ y) both in
    spelling_len a ∙ ap (λ (p : ℕ × List ℕ). p.0) pair ∙ sym (spelling_len b)

pub one_form : {K : Type 0} (side : Side K) → IsSide side → (a b : Message side) (x y : List ℕ) → IsMessage a → IsMessage b
    → spelling a ++ x ≡ spelling b ++ y → (a ≡ b) × (x ≡ y)
one_form side lawful a b x y fa fb e =
    let len = front_is side a b x y fa fb e in
    let s : spelling a ≡ spelling b =
    sym (take_at (spelling a) x (length (spelling a)) refl) ∙ ap (take (length (spelling a))) e ∙ take_at (spelling b) y
    (length (spelling a)) (sym len) in
    let r : x ≡ y =
    sym (drop_at (spelling a) x (length (spelling a)) refl) ∙ ap (drop (length (spelling a))) e ∙ drop_at (spelling b) y
    (length (spelling a)) (sym len) in
    (ok_is a b (sym (message_again side lawful a fa) ∙ ap (message_of side) s ∙ message_again side lawful b fb), r)

-- ---- the two sides

chosen_by : {A : Type 0} (number : A → ℕ) (n : ℕ) (k : A) (other : Option A) → ((j : A) → other ≡ Some j → number j ≡ n) → (b : Bool)
    → eqb n (number k) ≡ b → (j : A) → cond b (Some k) other ≡ Some j → number j ≡ n
chosen_by number n k other others true is j e =
    let same : k ≡ j = cc in
    ap number (sym same) ∙ sym (eqb-true n (number k) is)
chosen_by number n k other others false is j e = others j e

-- the first type of a table with that number
chosen : {A : Type 0} (number : A → ℕ) (n : ℕ) (k : A) {other : Option A} → ((j : A) → other ≡ Some j → number j ≡ n) → (j : A)
    → cond (eqb n (number k)) (Some k) other ≡ Some j → number j ≡ n
chosen number n k {other} others j e = chosen_by number n k other others (eqb n (number k)) refl j e

no_kind : {A : Type 0} (number : A → ℕ) (n : ℕ) (j : A) → None ≡ Some j → number j ≡ n
no_kind number n j e = absurd cc

t_below : (k : TKind) → t_number k < 2 ^ 8
t_below tk.Version = omega arith
t_below k = omega arith

t_again : (k : TKind) → t_kind_of (t_number k) ≡ Some k
unfolding t_kind_of
t_again tk.Version = refl
t_again k = refl

t_only : (n : ℕ) (k : TKind) → t_kind_of n ≡ Some k → t_number k ≡ n
unfolding t_kind_of
t_only n =
    chosen t_number n tk.Version
    (chosen t_number n tk.Auth
    (chosen t_number n tk.Attach
    (chosen t_number n tk.Flush
    (chosen t_number n tk.Walk
    (chosen t_number n tk.Open
    (chosen t_number n tk.Create
    (chosen t_number n tk.Read
    (chosen t_number n tk.Write
    (chosen t_number n tk.Clunk
    (chosen t_number n tk.Remove (chosen t_number n tk.Stat (chosen t_number n tk.Wstat (no_kind t_number n)))))))))))))

pub requests_lawful : IsSide requests
requests_lawful = record { below = t_below; again = t_again; only = t_only }

r_below : (k : RKind) → r_number k < 2 ^ 8
r_below rk.Version = omega arith
r_below k = omega arith

r_again : (k : RKind) → r_kind_of (r_number k) ≡ Some k
unfolding r_kind_of
r_again rk.Version = refl
r_again k = refl

r_only : (n : ℕ) (k : RKind) → r_kind_of n ≡ Some k → r_number k ≡ n
unfolding r_kind_of
r_only n =
    chosen r_number n rk.Version
    (chosen r_number n rk.Auth
    (chosen r_number n rk.Attach
    (chosen r_number n rk.Error
    (chosen r_number n rk.Flush
    (chosen r_number n rk.Walk
    (chosen r_number n rk.Open
    (chosen r_number n rk.Create
    (chosen r_number n rk.Read
    (chosen r_number n rk.Write
    (chosen r_number n rk.Clunk
    (chosen r_number n rk.Remove (chosen r_number n rk.Stat (chosen r_number n rk.Wstat (no_kind r_number n))))))))))))))

pub replies_lawful : IsSide replies
replies_lawful = record { below = r_below; again = r_again; only = r_only }

-- ---- what a decoder answers

pub is_found : {K M : Type 0} (side : Side K) → IsSide side → (view : M → Message side) (bytes : List ℕ) (r : Result M WireFault)
    → IsBytes bytes → IsSeenAsOrMemory view r (message_of side bytes) → IfOk r (λ v. IsMessage (view v) × (bytes ≡ spelling (view v)))
is_found side lawful view bytes (Ok v) fits given = message_takes side lawful bytes (view v) fits given
is_found side lawful view bytes (Err e) fits given = tt

pub gives_so : {X K : Type 0} {side : Side K} (view : X → Message side) (r : Result X WireFault) (read : Result (Message side) WireFault)
    → IsSeenAsOrMemory view r read → Gives view r read
gives_so view (Ok x) read given = given
gives_so view (Err faults.Memory) read given = tt
gives_so view (Err e) read given = given.0 (λ same. absurd cc)

pub some_last : {X K : Type 0} {side : Side K} (view : X → Message side) (r : Result X WireFault) (read : Result (Message side) WireFault)
    → IsSeenAsOrMemory view r read → IsErrOf r faults.Memory → ReadsSome read
some_last view (Ok x) read given memory = absurd cc
some_last view (Err e) read given memory = given.1 (cc memory)

is_read_some : {K : Type 0} {side : Side K} (read : Result (Message side) WireFault) → ReadsSome read → IsOk read
is_read_some (Ok m) takes = refl
is_read_some (Err e) takes = absurd takes

pub memory_last : {X K : Type 0} {side : Side K} (view : X → Message side) (r : Result X WireFault) (read : Result (Message side) WireFault)
    → IsSeenAsOrMemory view r read → IsErrOf r faults.Memory → IsOk read
memory_last view r read given memory = is_read_some read (some_last view r read given memory)

pub is_read : {K M : Type 0} (side : Side K) → IsSide side → (view : M → Message side) (bytes : List ℕ) (r : Result M WireFault)
    → IsSeenAsOrMemory view r (message_of side bytes) → (m : Message side) → IsMessage m → bytes ≡ spelling m → Gives view r (Ok m)
is_read side lawful view bytes r given m fits spelled_so =
    subst (λ read. Gives view r read) (ap (message_of side) spelled_so ∙ message_again side lawful m fits)
    (gives_so view r (message_of side bytes) given)

pub read_back : {K M : Type 0} (side : Side K) → IsSide side → (view : M → Message side) → IsReadBack side view
read_back side lawful view m written answer fits is given =
    subst (λ read. Gives view answer read) (ap (message_of side) is ∙ message_again side lawful (view m) fits.is_message) given
