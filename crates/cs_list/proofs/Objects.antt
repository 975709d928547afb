-- The objects of a list as JSON, one more at a time.
use Rattle.std.proofs.Common.{◌≡◌, ℕ, ◌+◌, List, [], ◌∷◌, ◌++◌, length, Option, refl, sym, ap, ◌∙◌, arith, subst}
use Rattle.std.proofs.Common.{length-append}
use Rattle.std.proofs.lemmas.Grind.{flat_map-append}
use Rattle.std.proofs.lemmas.List.{append-nil}
use Rattle.std.proofs.lemmas.List.Elements.{All-nil, All-push}
use Rattle.std.specs.List.{All, enumerate_from, flat_map}
use Rattle.cs_plan.specs.Scenes.{Scene}
use Rattle.cs_list.specs.declared.profiles.Profiles.{Profiles}
use Rattle.cs_list.specs.Listings.{AreObjects, AreProfilesOf, AreStateObjects, op_object, state_object}
use Rattle.cs_list.specs.Paths.{IsPathAt}

enumerated_more : {X : Type 0} (n : ℕ) (xs : List X) (x : X)
    → enumerate_from n (xs ++ x ∷ []) ≡ enumerate_from n xs ++ (n + length xs, x) ∷ []
enumerated_more n [] x = (let here : n ≡ n + 0 = omega arith in ap (λ k. (k, x) ∷ []) here)
enumerated_more n (y ∷ ys) x =
    let further : n + 1 + length ys ≡ n + length (y ∷ ys) = omega arith in
    ap (λ t. (n, y) ∷ t) (enumerated_more (n + 1) ys x ∙ ap (λ k. enumerate_from (n + 1) ys ++ (k, x) ∷ []) further)

flat_more : {X : Type 0} (f : ℕ × X → List ℕ) (xs : List X) (count : ℕ) (x : X) → length xs ≡ count
    → flat_map f (enumerate_from 0 xs) ++ f (count, x) ≡ flat_map f (enumerate_from 0 (xs ++ x ∷ []))
flat_more f xs count x long =
    let before = enumerate_from 0 xs in
    let here : count ≡ 0 + length xs = omega (arith, long) in
    ap (λ k. flat_map f before ++ f (k, x)) here
    ∙ ap (λ v. flat_map f before ++ v) (sym (append-nil (f (0 + length xs, x))))
    ∙ sym (flat_map-append f before ((0 + length xs, x) ∷ []))
    ∙ ap (flat_map f) (sym (enumerated_more 0 xs x))

pub no_objects : (s : Scene) (lines : List ℕ) → AreObjects s lines 0 []
no_objects s lines = record {
  paths = [];
  long = refl;
  each = All-nil (λ (e : ℕ × Option (List (List ℕ))). IsPathAt s e.0 e.1);
  spelled = refl;
}

-- one micro-operation more
pub objects_more : (s : Scene) (lines : List ℕ) (count : ℕ) (text grown : List ℕ) (path : Option (List (List ℕ)))
    → AreObjects s lines count text → IsPathAt s count path → grown ≡ text ++ op_object s lines (count, path)
    → AreObjects s lines (count + 1) grown
objects_more s lines count text grown path so is e =
    let f = op_object s lines in
    let long = so.long in
    let more = length-append so.paths (path ∷ []) in
    let here : count ≡ 0 + length so.paths = omega (arith, long) in
    let Is : ℕ × Option (List (List ℕ)) → Type 0 = λ p. IsPathAt s p.0 p.1 in
    let there : IsPathAt s (0 + length so.paths) path = subst (λ k. IsPathAt s k path) here is in
    record {
      paths = so.paths ++ path ∷ [];
      long = omega (arith, long, more);
      each = subst (All Is) (sym (enumerated_more 0 so.paths path))
          (All-push Is (enumerate_from 0 so.paths) (0 + length so.paths, path) so.each there);
      spelled = e ∙ ap (λ t. t ++ f (count, path)) so.spelled ∙ flat_more f so.paths count path long;
    }

pub no_states : (s : Scene) (firsts : List ℕ) → AreStateObjects s firsts 0 []
no_states s firsts = record { profiles = []; long = refl; each = All-nil (λ (e : ℕ × Profiles). AreProfilesOf s e.0 e.1); spelled = refl }

-- one state more
pub states_more : (s : Scene) (firsts : List ℕ) (count : ℕ) (text grown : List ℕ) (profiles : Profiles)
    → AreStateObjects s firsts count text → AreProfilesOf s count profiles → grown ≡ text ++ state_object s firsts (count, profiles)
    → AreStateObjects s firsts (count + 1) grown
states_more s firsts count text grown profiles so has e =
    let f = state_object s firsts in
    let long = so.long in
    let more = length-append so.profiles (profiles ∷ []) in
    let here : count ≡ 0 + length so.profiles = omega (arith, long) in
    let Has : ℕ × Profiles → Type 0 = λ p. AreProfilesOf s p.0 p.1 in
    let there : AreProfilesOf s (0 + length so.profiles) profiles = subst (λ k. AreProfilesOf s k profiles) here has in
    record {
      profiles = so.profiles ++ profiles ∷ [];
      long = omega (arith, long, more);
      each = subst (All Has) (sym (enumerated_more 0 so.profiles profiles))
          (All-push Has (enumerate_from 0 so.profiles) (0 + length so.profiles, profiles) so.each there);
      spelled = e ∙ ap (λ t. t ++ f (count, profiles)) so.spelled ∙ flat_more f so.profiles count profiles long;
    }
