-- Passes that are kept by the keys of their runs.
use Rattle.std.proofs.Common.{◌≡◌, ◌∙◌, ◌<◌, ℕ, Bool, true, false, cond, List, [], ◌∷◌, ◌++◌, Option, Some, length, map, refl, sym, ap}
use Rattle.std.proofs.Common.{append-nil, append_assoc, arith, subst}
use Rattle.std.specs.Prelude.{slice_get, unwrap_or, OnOk, OnErr, Result, Ok, Err}
use Rattle.std.specs.List.{filter}
use Rattle.std.specs.Map.{lookup}
use Rattle.std.specs.Option.{option_map, option_map_or}
use Rattle.std.proofs.Math.Seq.{get_or-append_seam}
use Rattle.std.proofs.lemmas.List.{length-append, map-append}
use Rattle.std.proofs.lemmas.List.Elements.{All-get_or, filter-append}
use Rattle.std.proofs.lemmas.Map.Made.{lookup-map_values}
use Rattle.cs_journal.specs.Runs.{PassOf}
use Rattle.cs_registry.proofs.Keyed.{same_is}
use Rattle.cs_registry.specs.Keys.{Key, same_key}
use Rattle.cs_connection.specs.declared.kept.GivenPass.{GivenPass}
use Rattle.cs_connection.specs.Given.{Given, KeepsNone, KeepsPass, KeepsPasses, given_by_run, is_given_by, passes_of}
use Rattle.cs_connection.specs.Kept.{AreInside, FoundRuns}

module _ {V : Type 0} (g : V → List PassOf) where
  abbrev pub shown : List (Key × V) → Given
  shown es = map (λ e. (e.0, g e.1)) es

  abbrev pub given_in : Option V → List PassOf
  given_in o = unwrap_or (option_map g o) []

  pub of_shown : (es : List (Key × V)) (k : Key) → passes_of (shown es) k ≡ given_in (lookup (same_key k) es)
  of_shown es k = ap (λ o. unwrap_or o []) (lookup-map_values g (same_key k) es)

  -- with another value for a key
  module _ (es fs : List (Key × V)) (key : Key) (w : V)
      (updates : (k : Key) → lookup (same_key k) fs ≡ cond (same_key key k) (Some w) (lookup (same_key k) es)) where
    here : (k : Key) → same_key key k ≡ true → passes_of (shown fs) k ≡ g w
    here k is = of_shown fs k ∙ ap given_in (updates k ∙ ap (λ (b : Bool). cond b (Some w) (lookup (same_key k) es)) is)

    elsewhere : (k : Key) → same_key key k ≡ false → passes_of (shown fs) k ≡ passes_of (shown es) k
    elsewhere k is =
        of_shown fs k ∙ ap given_in (updates k ∙ ap (λ (b : Bool). cond b (Some w) (lookup (same_key k) es)) is) ∙ sym (of_shown es k)

    pub keeps_pass : (pass : PassOf) → g w ≡ passes_of (shown es) key ++ pass ∷ [] → KeepsPass (shown es) key pass (shown fs)
    keeps_pass pass adds k = by (same_key key k) refl
      where
        by : (b : Bool) → same_key key k ≡ b → passes_of (shown fs) k ≡ passes_of (shown es) k ++ cond b (pass ∷ []) []
        by true is = here k is ∙ adds ∙ ap (λ (q : Key). passes_of (shown es) q ++ pass ∷ []) (same_is key k is)
        by false is = elsewhere k is ∙ sym (append-nil _)

    pub keeps_none : g w ≡ passes_of (shown es) key → KeepsNone (shown es) (shown fs)
    keeps_none stays k = by (same_key key k) refl
      where
        by : (b : Bool) → same_key key k ≡ b → passes_of (shown fs) k ≡ passes_of (shown es) k
        by true is = here k is ∙ stays ∙ ap (λ (q : Key). passes_of (shown es) q) (same_is key k is)
        by false is = elsewhere k is

-- ---- what follows of a result

pub on_ok : {E A B : Type 0} (r : Result (Unit {0}) E) → (A → B) → OnOk r A → OnOk r B
on_ok (Ok x) f a = f a
on_ok (Err e) f a = tt

pub on_err : {E A B : Type 0} (r : Result (Unit {0}) E) → (A → B) → OnErr r A → OnErr r B
on_err (Ok x) f a = tt
on_err (Err e) f a = f a

pub any_err : {E B : Type 0} (r : Result (Unit {0}) E) → B → OnErr r B
any_err (Ok x) b = tt
any_err (Err e) b = b

-- ---- one pass after the other

pub low_at : (runs : List Key) (all front rest : List GivenPass) (given : GivenPass) → all ≡ front ++ (given ∷ rest) → AreInside runs all
    → given.run < length runs
low_at runs all front rest given parts inside =
    let within : length front < length (front ++ (given ∷ rest)) = omega (arith, length-append front (given ∷ rest)) in
    subst (λ (x : GivenPass). x.run < length runs) (get_or-append_seam front given rest given)
    (All-get_or (λ (x : GivenPass). x.run < length runs) (front ++ (given ∷ rest)) (length front) given within
    (subst (AreInside runs) parts inside))

module _ (runs : List Key) (given : GivenPass) (own : Key) (there : slice_get runs given.run ≡ Some own) (passes : List GivenPass) where
  abbrev kept_of : List GivenPass → FoundRuns
  kept_of some = record { runs = runs; passes = some }

  one_more : (key : Key)
      → given_by_run (kept_of (passes ++ given ∷ [])) key ≡ given_by_run (kept_of passes) key
      ++ cond (same_key own key) (given.pass ∷ []) []
  one_more key =
      ap (map (λ (x : GivenPass). x.pass)) (filter-append (is_given_by runs key) passes (given ∷ []))
      ∙ map-append (λ (x : GivenPass). x.pass) (filter (is_given_by runs key) passes) (filter (is_given_by runs key) (given ∷ []))
      ∙ ap (λ ps. given_by_run (kept_of passes) key ++ ps)
      (ap (λ (o : Option Key). map (λ (x : GivenPass). x.pass) (cond (option_map_or (λ k. same_key k key) o false) (given ∷ []) []))
      there ∙ one (same_key own key))
    where
      one : (b : Bool) → map (λ (x : GivenPass). x.pass) (cond b (given ∷ []) []) ≡ cond b (given.pass ∷ []) []
      one true = refl
      one false = refl

  pub keeps_one_more : (old mid new : Given) → KeepsPasses old (kept_of passes) mid → KeepsPass mid own given.pass new
      → KeepsPasses old (kept_of (passes ++ given ∷ [])) new
  keeps_one_more old mid new before then key =
      then key ∙ ap (λ ps. ps ++ cond (same_key own key) (given.pass ∷ []) []) (before key)
      ∙ append_assoc (passes_of old key) (given_by_run (kept_of passes) key) (cond (same_key own key) (given.pass ∷ []) [])
      ∙ ap (λ ps. passes_of old key ++ ps) (sym (one_more key))
