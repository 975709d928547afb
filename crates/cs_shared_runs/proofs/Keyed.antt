-- Each shared run has its key in the registry.
use Rattle.std.proofs.Common.{◌≡◌, ◌∙◌, ◌+◌, ◌++◌, ℕ, take, [], ◌∷◌, Option, None, Some, get_or, refl, sym, ap}
use Rattle.std.specs.Prelude.{All, slice_get, slice_set}
use Rattle.std.specs.Map.{keys_of}
use Rattle.std.specs.Option.{option_map_or}
use Rattle.std.proofs.lemmas.List.{take_more}
use Rattle.std.proofs.lemmas.List.Elements.{All-set}
use Rattle.std.proofs.lemmas.List.Quantifiers.{position-Some}
use Rattle.std.proofs.lemmas.Option.{get_or_from_slice_get, slice_get-get_or, slice_get-map, slice_get_within}
use Rattle.cs_plan.proofs.Picking.{all_at}
use Rattle.cs_registry.proofs.Keyed.{same_is}
use Rattle.cs_registry.specs.Keys.{Key, same_key}
use Rattle.cs_registry.specs.Runs.{Runs, held_at, key_at, place_of, with_find}
use Rattle.cs_registry.specs.declared.found.Found.{Found}
use Rattle.cs_shared_runs.specs.Finding.{IsKeyed}

module _ (runs : Runs Key) (place : ℕ) (keyed : All IsKeyed runs) where
  -- one more find leaves what is kept
  pub found_again_keyed : All IsKeyed (with_find runs place)
  found_again_keyed = by (slice_get runs place) refl
    where
      by : (o : Option (Key × Found Key)) → slice_get runs place ≡ o
          → All IsKeyed (option_map_or (λ run. slice_set runs place (run.0, record run.1 { finds = run.1.finds + 1 })) o runs)
      by None none = keyed
      by (Some e) there = All-set IsKeyed runs place (
        e.0,
        record e.1 {
          finds = e.1.finds + 1;
        },
      ) (all_at IsKeyed runs place e there keyed) keyed

  -- the run at a place has the key of that place
  pub keyed_at : (shared : Key) → held_at runs place ≡ Some shared → key_at runs place ≡ Some shared
  keyed_at shared kept = by (slice_get runs place) refl
    where
      by : (o : Option (Key × Found Key)) → slice_get runs place ≡ o → key_at runs place ≡ Some shared
      by None none = (let no = rw none at kept in cc)
      by (Some e) there =
          let held = rw there at kept in
          let same : e.1.held ≡ e.0 = all_at IsKeyed runs place e there keyed in
          rw there cc

  -- the run at the place of a key has that key
  pub found_key : (key shared : Key) → place_of key runs ≡ Some place → held_at runs place ≡ Some shared → shared ≡ key
  found_key key shared here kept =
      let found = position-Some (same_key key) (keys_of runs) place key here in
      let named : key_at runs place ≡ Some (get_or (keys_of runs) place key) =
      sym (slice_get-map (λ run. run.0) runs place) ∙ slice_get-get_or (keys_of runs) place key found.0 in
      let own : Some shared ≡ Some (get_or (keys_of runs) place key) = sym (keyed_at shared kept) ∙ named in
      let same : shared ≡ get_or (keys_of runs) place key = cc in
      same ∙ sym (same_is key (get_or (keys_of runs) place key) found.1)

  -- the key of the run at the next place is the next key
  pub next_key : (shared : Key) → held_at runs place ≡ Some shared
      → take (place + 1) (keys_of runs) ≡ take place (keys_of runs) ++ shared ∷ []
  next_key shared kept =
      let there : slice_get (keys_of runs) place ≡ Some shared = slice_get-map (λ run. run.0) runs place ∙ keyed_at shared kept in
      take_more (keys_of runs) place shared (slice_get_within (keys_of runs) place shared there) ∙ ap
      (λ k. take place (keys_of runs) ++ k ∷ []) (get_or_from_slice_get (keys_of runs) place shared shared there)
