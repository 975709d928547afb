-- What follows from a result or an option.
use Rattle.std.proofs.Common.{◌≡◌, Bor, Option, None, Some, option_copied, is_some, false, refl, Result, Ok, Err, IfOk, OnErr, true≢false}
use Rattle.cs_fids.specs.Tables.{FailsAs}
use Rattle.cs_fids.specs.declared.fault.FidFault.{FidFault}

pub if_ok : {A F : Type 0} (r : Result A F) (P Q : A → Type 0) → ((x : A) → P x → Q x) → IfOk r P → IfOk r Q
if_ok (Ok x) P Q further h = further x h
if_ok (Err e) P Q further h = h

pub on_err : {A F : Type 0} (r : Result A F) (P Q : Type 0) → (P → Q) → OnErr r P → OnErr r Q
on_err (Ok x) P Q further h = h
on_err (Err e) P Q further h = further h

pub none_lent : {A : Type 0} (o : Option (Bor A)) → option_copied o ≡ None → is_some o ≡ false
none_lent None none = refl
none_lent (Some x) none = absurd (cc)

pub not_lent : {A : Type 0} (o : Option (Bor A)) → is_some o ≡ false → option_copied o ≡ None
not_lent None is = refl
not_lent (Some x) is = absurd (true≢false is)

pub fails_alone : (A : Type 0) {F : Type 0} (fault : FidFault) (r : Result F FidFault) (P : F → Type 0) → FailsAs {A = A} (Err fault) r
    → IfOk r P
fails_alone A fault (Ok x) P fails = absurd (cc)
fails_alone A fault (Err e) P fails = tt

pub found_again : {A F : Type 0} (x y : A) (r : Result F FidFault) → FailsAs (Ok x) r → FailsAs (Ok y) r
found_again x y (Ok f) fails = refl
found_again x y (Err e) fails = absurd (cc)
