-- What holds of a result that is accepted, by its parts.
use Rattle.std.proofs.Common.{◌≡◌, Bool, true, false, Option, None, Some, Result, Ok, Err, refl, ap, subst}
use Rattle.cs_tree_model.specs.Tree.{Path}
use Rattle.cs_trace.specs.Judging.{and_then, or_bad_name, or_missing, unless_too_large}
use Rattle.cs_trace.specs.declared.fault.TraceFaultKind.{TraceFaultKind}

-- the value of what was found, if the rest is good
pub then_by : {A B : Type 0} (r : Result A TraceFaultKind) (f : A → Result B TraceFaultKind) (P : B → Type 0)
    → ((x : A) → r ≡ Ok x → (y : B) → f x ≡ Ok y → P y) → (y : B) → and_then r f ≡ Ok y → P y
then_by (Ok x) f P each y is = each x refl y is
then_by (Err kind) f P each y is = absurd (cc)

pub limit_by : {B : Type 0} (large : Bool) (x : B) (P : B → Type 0) → (large ≡ false → P x) → (y : B) → unless_too_large large x ≡ Ok y
    → P y
limit_by true x P good y is = absurd (cc)
limit_by false x P good y is = let same : x ≡ y = cc in subst P same (good refl)

abbrev pub good : {B : Type 0} → B → Result B TraceFaultKind
good x = Ok x

pub value_by : {B : Type 0} (x : B) (P : B → Type 0) → P x → (y : B) → good x ≡ Ok y → P y
value_by x P holds y is = let same : x ≡ y = cc in subst P same holds

pub found_is : {X : Type 0} (o : Option X) (x : X) → or_missing o ≡ Ok x → o ≡ Some x
found_is None x is = absurd (cc)
found_is (Some y) x is = let same : y ≡ x = cc in ap Some same

pub legal_is : (path : Option Path) (p : Path) → or_bad_name path ≡ Ok p → path ≡ Some p
legal_is None p is = absurd (cc)
legal_is (Some q) p is = let same : q ≡ p = cc in ap Some same
