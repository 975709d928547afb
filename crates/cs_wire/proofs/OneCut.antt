-- There is one way to cut the bytes of a stream into whole messages.
use Rattle.std.proofs.Common.{◌≡◌, ℕ, ◌<◌, ◌≤◌, Option, Some, List, [], ◌∷◌, ◌++◌, length, take, drop, refl, sym, ap, subst, ◌∙◌}
use Rattle.std.proofs.Common.{append_assoc, arith, inl, inr}
use Rattle.std.specs.Prelude.{MatchOption, IsSomeAnd, ⊤}
use Rattle.std.specs.List.{concat, AllByRecursion}
use Rattle.std.proofs.lemmas.Bool.{cases_lt, le-ltb}
use Rattle.std.proofs.lemmas.List.{append-nil, length-append, take_at, drop_at}
use Rattle.cs_names.specs.declared.limits.TheConstants.{MESSAGE_BYTES}
use Rattle.cs_wire.specs.Framing.{size_in, IsWhole, IsUnfinished, IsUndersized, IsOversized, Begins, Holds, HasNoWhole}
use Rattle.cs_wire.specs.Cutting.{Call, Fed, Gave, Leaves, bytes_fed, messages_given}
use Rattle.cs_wire.proofs.Framing.{whole_size}

some_is : (m n : ℕ) → Some m ≡ Some n → m ≡ n
some_is m n e = cc

-- the bytes begin with at most one whole message
one_front : (a b x y : List ℕ) → IsWhole a → IsWhole b → a ++ x ≡ b ++ y → (a ≡ b) × (x ≡ y)
one_front a b x y p q e =
    let long : length a ≡ length b = some_is _ _ (sym (whole_size a x p) ∙ ap size_in e ∙ whole_size b y q) in (
      sym (take_at a x (length a) refl) ∙ ap (take (length a)) e ∙ take_at b y (length a) (sym long),
      sym (drop_at a x (length a) refl) ∙ ap
          (drop (length a)) e ∙ drop_at b y (length a) (sym long),
    )

-- ---- what calls come to

begins_on : (left : List ℕ) (calls : List Call) (rest : List ℕ) → Leaves left calls rest
    → Begins (left ++ bytes_fed calls) (messages_given calls) rest
begins_on left [] rest h = record { each = tt; parts = append-nil left ∙ sym h }
begins_on left (Fed piece ∷ calls) rest h =
    subst (λ (bytes : List ℕ). Begins bytes (messages_given calls) rest) (append_assoc left piece (bytes_fed calls))
    (begins_on (left ++ piece) calls rest h)
begins_on left (Gave message ∷ calls) rest h =
    let more = begins_on h.0 calls rest h.1.2 in
    record {
      each = (h.1.0, more.each);
      parts = ap (λ (z : List ℕ). z ++ bytes_fed calls) h.1.1 ∙ append_assoc message h.0 (bytes_fed calls) ∙ ap
          (λ (z : List ℕ). message ++ z) more.parts ∙ sym (append_assoc message (concat (messages_given calls)) rest);
    }

pub begins : (calls : List Call) (left : List ℕ) → Leaves [] calls left → Begins (bytes_fed calls) (messages_given calls) left
begins calls left h = begins_on [] calls left h

-- ---- one way to cut

first_of : (messages : List (List ℕ)) (left : List ℕ) (all : List (List ℕ)) (rest : List ℕ)
    → AllByRecursion IsWhole messages → AllByRecursion IsWhole all → HasNoWhole rest → concat messages ++ left ≡ concat all ++ rest
    → (more : List (List ℕ)) × ((all ≡ messages ++ more) × Holds left more rest)
first_of [] left all rest each whole stops e = (all, (refl, record { begins = record { each = whole; parts = e }; stops = stops }))
first_of (message ∷ messages) left [] rest each whole stops e =
    absurd (stops message (concat messages ++ left) each.0 (sym e ∙ append_assoc message (concat messages) left))
first_of (message ∷ messages) left (other ∷ others) rest each whole stops e =
    let same =
    one_front message other (concat messages ++ left) (concat others ++ rest) each.0 whole.0
    (sym (append_assoc message (concat messages) left) ∙ e ∙ append_assoc other (concat others) rest) in
    let on = first_of messages left others rest each.1 whole.1 stops same.1 in
    (on.0, ((λ k. sym same.0 k ∷ on.1.0 k), on.1.1))

pub first : (calls : List Call) (left : List ℕ) (messages : List (List ℕ)) (rest : List ℕ) → Leaves [] calls left
    → Holds (bytes_fed calls) messages rest
    → (more : List (List ℕ)) × ((messages ≡ messages_given calls ++ more) × Holds left more rest)
first calls left messages rest h whole =
    let b = begins calls left h in
    first_of (messages_given calls) left messages rest b.each whole.begins.each whole.stops (sym b.parts ∙ whole.begins.parts)

none_more : (left : List ℕ) (more : List (List ℕ)) (rest : List ℕ) → HasNoWhole left → Begins left more rest → (more ≡ []) × (left ≡ rest)
none_more left [] rest stops b = (refl, b.parts)
none_more left (message ∷ more) rest stops b =
    absurd (stops message (concat more ++ rest) b.each.0 (b.parts ∙ append_assoc message (concat more) rest))

pub same : (calls others : List Call) (left rest : List ℕ) → Leaves [] calls left → Leaves [] others rest
    → bytes_fed calls ≡ bytes_fed others → HasNoWhole left → HasNoWhole rest
    → (messages_given calls ≡ messages_given others) × (left ≡ rest)
same calls others left rest h g e stops ends =
    let on = first calls left (messages_given others) rest h (record { begins = rw e (begins others rest g); stops = ends }) in
    let end = none_more left on.0 rest stops on.1.1.begins in
    (sym (append-nil (messages_given calls)) ∙ ap (λ (z : List (List ℕ)). messages_given calls ++ z) (sym end.0) ∙ sym on.1.0, end.1)

-- ---- when no message is given

size_of_front : (bytes message rest : List ℕ) → IsWhole message → bytes ≡ message ++ rest → size_in bytes ≡ Some (length message)
size_of_front bytes message rest whole e = ap size_in e ∙ whole_size message rest whole

pub unfinished : (bytes : List ℕ) → IsUnfinished bytes → HasNoWhole bytes
unfinished bytes h message rest whole e =
    let short =
    subst (λ (size : Option ℕ). MatchOption size ⊤ (λ n. (7 ≤ n) × (n ≤ MESSAGE_BYTES) × (length bytes < n)))
    (size_of_front bytes message rest whole e) h in
    omega (arith, short.2, ap length e, length-append message rest)

pub undersized : (bytes : List ℕ) → IsUndersized bytes → HasNoWhole bytes
undersized bytes h message rest whole e =
    let small = subst (λ (size : Option ℕ). IsSomeAnd size (λ n. n < 7)) (size_of_front bytes message rest whole e) h in
    omega (arith, small, whole.at_least)

pub oversized : (bytes : List ℕ) → IsOversized bytes → HasNoWhole bytes
oversized bytes h message rest whole e =
    let great = subst (λ (size : Option ℕ). IsSomeAnd size (λ n. MESSAGE_BYTES < n)) (size_of_front bytes message rest whole e) h in
    omega (arith, great, whole.at_most)

pub short : (bytes : List ℕ) → IsUnfinished bytes → length bytes < MESSAGE_BYTES
unfolding size_in
short bytes h = elim (cases_lt (length bytes) 4) [
  | inl few ↦ omega (arith, few)
  | inr enough ↦ let size = rw (le-ltb (length bytes) 4 enough) at h in omega (arith, size)
]
