-- Places and picks that are read one after another.
use Rattle.std.proofs.Common.{◌≡◌, ◌<◌, ◌≤◌, ℕ, ◌+◌, List, [], ◌∷◌, ◌++◌, Option, None, Some, refl, sym, ap, ◌∙◌, append_assoc, drop}
use Rattle.std.proofs.Common.{get_or, length}
use Rattle.std.proofs.lemmas.List.{append-nil, drop_all, drop_more}
use Rattle.std.specs.Option.{option_map}
use Rattle.std.specs.Prelude.{Result, Ok, Err}
use Rattle.serde_json.specs.View.{items_view, view}
use Rattle.serde_json.specs.declared.value.Value.{Value}
use Rattle.cs_inputs.specs.PickLines.{place_of, places_of, with_place}
use Rattle.cs_inputs.specs.Picks.{with_picks_first, with_line}
use Rattle.cs_inputs.specs.declared.picks_fault.PicksFault.{PicksFault}
use Rattle.cs_inputs.specs.declared.picks_fault.PicksFault.TheVariants.{Syntax}

-- ---- the places of a line

-- the places so far, and those that follow
abbrev pub placed : List ℕ → Option (List ℕ) → Option (List ℕ)
placed places rest = option_map (λ others. places ++ others) rest

-- those of the values from one on
abbrev pub places_from : List Value → ℕ → Option (List ℕ)
places_from values i = places_of (items_view (drop i values))

pub placed_more : (places : List ℕ) (place : ℕ) (rest : Option (List ℕ))
    → placed (places ++ place ∷ []) rest ≡ placed places (option_map (λ others. place ∷ others) rest)
placed_more places place None = refl
placed_more places place (Some others) = ap Some (append_assoc places (place ∷ []) others)

pub place_next : (values : List Value) (i : ℕ) (value : Value) → i < length values → value ≡ get_or values i value
    → places_from values i ≡ with_place (place_of (view value)) (places_from values (i + 1))
place_next values i value low is =
    ap (λ vs. places_of (items_view vs)) (drop_more values i value low)
    ∙ ap (λ v. with_place (place_of (view v)) (places_from values (i + 1))) (sym is)

pub places_end : (values : List Value) (i : ℕ) (places : List ℕ) → length values ≤ i → placed places (places_from values i) ≡ Some places
places_end values i places high =
    ap (λ vs. placed places (places_of (items_view vs))) (drop_all i values high) ∙ ap Some (append-nil places)

-- ---- the picks of a file

pub behind_more : (picks more : List (List ℕ)) (later : Result (List (List ℕ)) PicksFault)
    → with_picks_first (picks ++ more) later ≡ with_picks_first picks (with_picks_first more later)
behind_more picks more (Ok others) = ap Ok (append_assoc picks more others)
behind_more picks more (Err fault) = refl

-- a line that is kept
pub line_kept : (picks now : List (List ℕ)) (number : ℕ) (on : Option (List (List ℕ))) (later : Result (List (List ℕ)) PicksFault)
    → option_map (λ more. picks ++ more) on ≡ Some now → with_picks_first now later ≡ with_picks_first picks (with_line number on later)
line_kept picks now number None later e = absurd (cc)
line_kept picks now number (Some more) later e =
    (let same : picks ++ more ≡ now = cc in ap (λ ps. with_picks_first ps later) (sym same) ∙ behind_more picks more later)

-- a line that is none
pub line_refused : (picks : List (List ℕ)) (number : ℕ) (on : Option (List (List ℕ))) (later : Result (List (List ℕ)) PicksFault)
    → on ≡ None → with_picks_first picks (with_line number on later) ≡ Err (Syntax number)
line_refused picks number on later e = ap (λ o. with_picks_first picks (with_line number o later)) e
