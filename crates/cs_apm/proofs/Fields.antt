-- What is read of an element of a list.
use Rattle.std.proofs.Common.{◌≡◌, ℕ, ◌<◌, List, Some, unwrap_or, ap, sym, ◌∙◌, get_or, length}
use Rattle.std.proofs.lemmas.Option.{slice_get-get_or}
use Rattle.std.specs.Option.{option_map}
use Rattle.std.specs.Prelude.{slice_get}

pub read_at : {X Y : Type 0} (f : X → Y) (xs : List X) (k : ℕ) (d : X) (y : Y) → k < length xs → option_map f (slice_get xs k) ≡ Some y
    → f (get_or xs k d) ≡ y
read_at f xs k d y low is = ap (λ o. unwrap_or o y) (ap (option_map f) (sym (slice_get-get_or xs k d low)) ∙ is)
